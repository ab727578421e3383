-- Slots one after another, and their counts.
use Rattle.std.proofs.Common.{◌≡◌, ℕ, zero, suc, ◌+◌, ◌-◌, ◌^◌, ◌≤◌, ◌<◌, min, max, List, [], ◌++◌, refl, sym, ◌∙◌, ap, arith, append_assoc, append-nil}
use Rattle.bk_state.specs.State.{State}
use Rattle.bk_system.specs.declared.script.TypedAt.{TypedAt}
use Rattle.bk_system.specs.Step.{joined}
use Rattle.bk_system.specs.Loops.{slots_of}
use Rattle.bk_system.specs.Slot.{slot_of, records_for}
use Rattle.bk_kernel.specs.Progress.{Progress, after_slot, next_slot}
use Rattle.bk_kernel.proofs.Turns.{Extends}
use Rattle.bk_replay.specs.Played.{after_slots}

-- the items of the first m slots are the first of those of n slots
slots_past : (v : State) (records : List TypedAt) (m n d : ℕ) → n ≡ d + m → Extends (slots_of v records m).items (slots_of v records n).items
slots_past v records m n zero e =
    let same : n ≡ m = omega (arith, e) in
    ([], ap (λ k. (slots_of v records k).items) same ∙ sym (append-nil (slots_of v records m).items))
slots_past v records m n (suc d) e =
    let next : n ≡ suc (d + m) = omega (arith, e) in
    let rest = slots_past v records m (d + m) d refl in
    let last = (slot_of (d + m) (slots_of v records (d + m)).state (records_for (d + m) records)).items in
    (rest.0 ++ last, ap (λ k. (slots_of v records k).items) next ∙ ap (λ l. l ++ last) rest.1 ∙ append_assoc (slots_of v records m).items rest.0 last)

-- one slot more
pub slots_next : (v : State) (records : List TypedAt) (n : ℕ) → slots_of v records (n + 1) ≡ joined (slots_of v records n) (slot_of n (slots_of v records n).state (records_for n records))
slots_next v records n = let e : n + 1 ≡ suc n = omega arith in ap (slots_of v records) e

pub after_slots-next : (v : State) (records : List TypedAt) (n : ℕ) → after_slots v records (n + 1) ≡ after_slot (after_slots v records n) (records_for n records)
after_slots-next v records n = let e : n + 1 ≡ suc n = omega arith in ap (after_slots v records) e

-- the items of one more slot are a front of those of the run
pub slot_front : (v : State) (records : List TypedAt) (t n : ℕ) → t < n → Extends ((slots_of v records t).items ++ (slot_of t (slots_of v records t).state (records_for t records)).items) (slots_of v records n).items
slot_front v records t n h = let e : n ≡ (n - suc t) + suc t = omega (arith, h) in slots_past v records (suc t) n (n - suc t) e

-- ---- the kernel after a slot

pub after_slot-state : (p : Progress) (records : List TypedAt) → (after_slot p records).state ≡ (next_slot p records).state
unfolding after_slot
after_slot-state p records = refl

pub after_slot-since : (p : Progress) (records : List TypedAt) → (after_slot p records).since ≡ 0
unfolding after_slot
after_slot-since p records = refl

raised_one : (n m : ℕ) → n + 1 ≤ m → max n (min (n + 1) m) ≡ n + 1
raised_one n m h = omega arith

pub after_slot-slots : (p : Progress) (records : List TypedAt) → p.slots + 1 < 2 ^ 32 → (after_slot p records).slots ≡ p.slots + 1
unfolding after_slot
after_slot-slots p records few = raised_one p.slots (2 ^ 32 - 1) (omega arith)
