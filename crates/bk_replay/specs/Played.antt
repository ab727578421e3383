-- The totals of a run.
use Rattle.std.specs.Prelude.{ℕ, zero, suc, ◌*◌, List, [], ◌∷◌, ◌==◌, if◌then◌else◌}
use Rattle.bk_kernel.specs.declared.kernel.Summary.{Summary}
use Rattle.bk_state.specs.declared.image.Image.{Image}
use Rattle.bk_system.specs.declared.script.TypedAt.{TypedAt}
use Rattle.bk_report.specs.declared.item.ReportItem.TheVariants.{End}
use Rattle.bk_report.specs.Text.{text_of}
use Rattle.bk_kernel.specs.Progress.{Progress, begun, after_slot}
use Rattle.bk_state.specs.State.{State}
use Rattle.bk_system.specs.Slot.{run_of, records_for}
use Rattle.bk_system.specs.Report.{calls_in}

-- the slots, the turns, the references and the calls of a run of n slots
abbrev pub summary_of : Image → List TypedAt → (n : ℕ) → Summary
summary_of image records n = record {
  slots = n;
  turns = n * image.turns;
  references = (run_of image records n).references;
  calls = calls_in (run_of image records n).items;
}

-- the END line of these totals
abbrev pub end_text : Summary → List ℕ
end_text s = text_of (End s.slots s.turns s.references s.calls)

-- how many records in front are of the slot
abbrev pub count_front : (slot : ℕ) → List TypedAt → ℕ
count_front slot [] = 0
count_front slot (typed ∷ records) = if typed.slot == slot then suc (count_front slot records) else 0

-- how far a kernel has come after the first n slots, each with its records
abbrev pub after_slots : State → List TypedAt → (n : ℕ) → Progress
after_slots v records zero = begun v
after_slots v records (suc n) = after_slot (after_slots v records n) (records_for n records)
