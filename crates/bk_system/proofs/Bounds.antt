-- How much slots and runs count at most, and that they keep the fixed part.
use Rattle.std.proofs.Common.{◌≡◌, ℕ, zero, suc, ◌+◌, ◌*◌, cond, List, [], ◌∷◌, ◌++◌, refl, sym, ap, subst, ◌∙◌, arith}
use Rattle.std.proofs.lemmas.List.Sums.{sum_by-append}
use Rattle.bk_report.specs.declared.item.ReportItem.{ReportItem}
use Rattle.bk_state.specs.State.{State}
use Rattle.bk_system.specs.declared.script.TypedAt.{TypedAt}
use Rattle.bk_system.specs.Arrivals.{arrived}
use Rattle.bk_system.specs.Loops.{all_arrived, turns_of, with_slot_ended, slots_of}
use Rattle.bk_system.specs.Report.{is_call, calls_in}
use Rattle.bk_system.specs.Slot.{subject_of, records_for, slot_of}
use Rattle.bk_system.specs.Step.{Step}
use Rattle.bk_system.specs.Turn.{turn_of}
use Rattle.bk_system.proofs.FixedPart.{Bounded, turn_of-Bounded, slot_ended-fixed}
use Rattle.bk_system.proofs.Folds.{slot_of-turns}

-- ---- slots

pub calls-append : (xs ys : List ReportItem) → calls_in (xs ++ ys) ≡ calls_in xs + calls_in ys
calls-append xs ys = sum_by-append (λ (x : ReportItem). cond (is_call x) 1 0) xs ys

turns_of-Bounded : (slot s : ℕ) (v : State) (n : ℕ) → Bounded v (10 * n) n (turns_of slot s v n)
turns_of-Bounded slot s v zero = record { fixed = refl; references_are = omega arith; calls_are = omega arith }
turns_of-Bounded slot s v (suc n) =
    let a = turns_of slot s v n in
    let before = turns_of-Bounded slot s v n in
    let last = turn_of-Bounded (record { slot = slot; turn = n; subject = s }) a.state in
    record {
      fixed = last.fixed ∙ before.fixed;
      references_are = omega (arith, before.references_are, last.references_are);
      calls_are = omega (arith, before.calls_are, last.calls_are, calls-append a.items (turn_of (record { slot = slot; turn = n; subject = s }) a.state).items);
    }

all_arrived-fixed : (v : State) (records : List TypedAt) → (all_arrived v records).fixed ≡ v.fixed
unfolding arrived
all_arrived-fixed v [] = refl
all_arrived-fixed v (typed ∷ records) = all_arrived-fixed (arrived v typed.line typed.bytes) records

-- a slot makes at most ten references and one call a turn
pub slot_of-Bounded : (slot : ℕ) (v : State) (records : List TypedAt) → Bounded v (10 * v.fixed.turns) v.fixed.turns (slot_of slot v records)
slot_of-Bounded slot v records = subst (Bounded v (10 * v.fixed.turns) v.fixed.turns) (sym (slot_of-turns slot v records)) whole
  where
    turns : Step
    turns = turns_of slot (subject_of v.fixed slot) (all_arrived v records) v.fixed.turns

    b : Bounded (all_arrived v records) (10 * v.fixed.turns) v.fixed.turns turns
    b = turns_of-Bounded slot (subject_of v.fixed slot) (all_arrived v records) v.fixed.turns

    whole : Bounded v (10 * v.fixed.turns) v.fixed.turns (with_slot_ended turns)
    whole = record {
      fixed = slot_ended-fixed turns.state ∙ b.fixed ∙ all_arrived-fixed v records;
      references_are = b.references_are;
      calls_are = b.calls_are;
    }

-- a run keeps the fixed part, and makes at most ten references and one call a turn
pub slots_of-Bounded : (v : State) (records : List TypedAt) (n : ℕ) → Bounded v (10 * (n * v.fixed.turns)) (n * v.fixed.turns) (slots_of v records n)
slots_of-Bounded v records zero = record { fixed = refl; references_are = omega arith; calls_are = omega arith }
slots_of-Bounded v records (suc n) =
    let a = slots_of v records n in
    let before = slots_of-Bounded v records n in
    let last = slot_of-Bounded n a.state (records_for n records) in
    let same = ap (λ f. f.turns) before.fixed in
    record {
      fixed = last.fixed ∙ before.fixed;
      references_are = omega (arith, before.references_are, last.references_are, same);
      calls_are = omega (arith, before.calls_are, last.calls_are, same, calls-append a.items (slot_of n a.state (records_for n records)).items);
    }
