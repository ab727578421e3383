-- The kernel's totals after a run within its limits are those of the run.
use Rattle.std.proofs.Common.{◌≡◌, ℕ, zero, suc, ◌+◌, ◌-◌, ◌*◌, ◌^◌, ◌≤◌, ◌<◌, min, max, List, ◌++◌, refl, sym, ◌∙◌, ap, arith}
use Rattle.bk_state.specs.State.{State}
use Rattle.bk_state.specs.declared.image.Image.{Image}
use Rattle.bk_state.specs.Start.{state_of}
use Rattle.bk_system.specs.Limits.{most_slots, most_turns_of_run}
use Rattle.bk_system.specs.declared.script.TypedAt.{TypedAt}
use Rattle.bk_system.specs.Loops.{slots_of}
use Rattle.bk_system.specs.Slot.{slot_of, records_for, run_of}
use Rattle.bk_system.specs.Step.{Step}
use Rattle.bk_system.proofs.Folds.{run_of-slots}
use Rattle.bk_system.specs.Report.{calls_in}
use Rattle.bk_system.proofs.Bounds.{slots_of-Bounded, slot_of-Bounded, calls-append}
use Rattle.bk_kernel.specs.Progress.{Progress, raised, after_slot, next_slot}
use Rattle.bk_system.specs.Report.{report_of}
use Rattle.bk_report.specs.Text.{lines_of}
use Rattle.bk_kernel.specs.declared.kernel.Summary.{Summary}
use Rattle.bk_replay.specs.Played.{after_slots, end_text, summary_of}
use Rattle.bk_replay.proofs.Slots.{after_slot-state}

abbrev pub summary_in : Progress → Summary
summary_in p = record { slots = p.slots; turns = p.turns; references = p.references; calls = p.calls }

-- nothing of the counts stood still
pub record Exact (v : State) (records : List TypedAt) (n : ℕ) (p : Progress) : Type 0 where
  pub state : p.state ≡ (slots_of v records n).state
  pub slots : p.slots ≡ n
  pub turns : p.turns ≡ n * v.fixed.turns
  pub references : p.references ≡ (slots_of v records n).references
  pub calls : p.calls ≡ calls_in (slots_of v records n).items

raised_exact : (n a m : ℕ) → n + a ≤ m → max n (min (n + a) m) ≡ n + a
raised_exact n a m h = omega arith

next_turns : (p : Progress) (records : List TypedAt) (turns more : ℕ) → p.turns ≡ turns → p.state.fixed.turns ≡ more → turns + more < 2 ^ 32 → (after_slot p records).turns ≡ turns + more
unfolding after_slot
next_turns p records turns more is same few = (λ i. raised 32 (is i) (same i)) ∙ raised_exact turns more (2 ^ 32 - 1) (omega arith)

next_slots : (p : Progress) (records : List TypedAt) (slots : ℕ) → p.slots ≡ slots → slots + 1 < 2 ^ 32 → (after_slot p records).slots ≡ slots + 1
unfolding after_slot
next_slots p records slots is few = ap (λ n. raised 32 n 1) is ∙ raised_exact slots 1 (2 ^ 32 - 1) (omega arith)

next_references : (p : Progress) (records : List TypedAt) (references more : ℕ) → p.references ≡ references → (next_slot p records).references ≡ more → references + more < 2 ^ 64 →
    (after_slot p records).references ≡ references + more
unfolding after_slot
next_references p records references more is same few = (λ i. raised 64 (is i) (same i)) ∙ raised_exact references more (2 ^ 64 - 1) (omega arith)

next_calls : (p : Progress) (records : List TypedAt) (calls more : ℕ) → p.calls ≡ calls → calls_in (next_slot p records).items ≡ more → calls + more < 2 ^ 32 →
    (after_slot p records).calls ≡ calls + more
unfolding after_slot
next_calls p records calls more is same few = (λ i. raised 32 (is i) (same i)) ∙ raised_exact calls more (2 ^ 32 - 1) (omega arith)

-- each slot of a run adds its own
pub exact : (v : State) (records : List TypedAt) (n : ℕ) → n ≤ most_slots → n * v.fixed.turns ≤ most_turns_of_run → Exact v records n (after_slots v records n)
exact v records zero few within = record { state = refl; slots = refl; turns = omega arith; references = refl; calls = refl }
exact v records (suc n) few within =
    let p = after_slots v records n in
    let a = slots_of v records n in
    let b = slot_of n a.state (records_for n records) in
    let before = exact v records n (omega arith) (omega arith) in
    let run = slots_of-Bounded v records n in
    let last = slot_of-Bounded n a.state (records_for n records) in
    let same : a.state.fixed.turns ≡ v.fixed.turns = ap (λ f. f.turns) run.fixed in
    let next : next_slot p (records_for n records) ≡ b = λ i. slot_of (before.slots i) (before.state i) (records_for n records) in
    let turns_same : p.state.fixed.turns ≡ v.fixed.turns = ap (λ w. w.fixed.turns) before.state ∙ same in
    record {
      state = after_slot-state p (records_for n records) ∙ ap (λ s. s.state) next;
      slots = next_slots p (records_for n records) n before.slots (omega arith) ∙ omega arith;
      turns = next_turns p (records_for n records) (n * v.fixed.turns) v.fixed.turns before.turns turns_same (omega arith) ∙ omega arith;
      references = next_references p (records_for n records) a.references b.references before.references (ap (λ s. s.references) next)
          (omega (arith, run.references_are, last.references_are, same));
      calls = next_calls p (records_for n records) (calls_in a.items) (calls_in b.items) before.calls (ap (λ s. calls_in s.items) next)
          (omega (arith, run.calls_are, last.calls_are, same)) ∙ sym (calls-append a.items b.items);
    }

pub turns_of_image : (image : Image) → (state_of image).fixed.turns ≡ image.turns
unfolding state_of
turns_of_image image = refl

-- the report is the lines of the run's items, and the END line of its totals
pub report_is : (image : Image) (records : List TypedAt) (n : ℕ) → lines_of (slots_of (state_of image) records n).items ++ end_text (summary_of image records n) ≡ report_of image records n
unfolding report_of
report_is image records n = ap (λ (s : Step). lines_of s.items ++ end_text (summary_of image records n)) (sym (run_of-slots image records n))

pub summary_exact : (image : Image) (records : List TypedAt) (n : ℕ) (p : Progress) → p ≡ after_slots (state_of image) records n → n ≤ most_slots → n * image.turns ≤ most_turns_of_run →
    summary_in p ≡ summary_of image records n
summary_exact image records n p is few within =
    let all : slots_of (state_of image) records n ≡ run_of image records n = sym (run_of-slots image records n) in
    let x = exact (state_of image) records n few (omega (arith, ap (λ t. n * t) (turns_of_image image))) in
    ap summary_in is ∙ (λ i. record {
      slots = x.slots i;
      turns = (x.turns ∙ ap (λ t. n * t) (turns_of_image image)) i;
      references = (x.references ∙ ap (λ s. s.references) all) i;
      calls = (x.calls ∙ ap (λ s. calls_in s.items) all) i;
    })
