-- The report of a run.
use Rattle.std.specs.Prelude.{ℕ, ◌*◌, Bool, true, false, List, ◌++◌, count_by}
use Rattle.bk_report.specs.declared.ReportItem.{ReportItem}
use Rattle.bk_report.specs.declared.ReportItem.TheVariants.{Call, Fault, Byte, End}
use Rattle.bk_report.specs.Text.{text_of, lines_of}
use Rattle.bk_state.specs.declared.image.Image.{Image}
use Rattle.bk_system.specs.declared.script.TypedAt.{TypedAt}
use Rattle.bk_system.specs.Step.{Step}
use Rattle.bk_system.specs.Slot.{run_of}

-- the record of a call
abbrev pub is_call : ReportItem → Bool
is_call (Call slot turn subject number regs answer cause) = true
is_call (Fault slot turn subject cause pc entered) = false
is_call (Byte slot turn line byte) = false
is_call (End slots turns references calls) = false

-- how many of the items are calls
abbrev pub calls_in : List ReportItem → ℕ
calls_in items = count_by is_call items

-- the lines of the items in their order, and the END line with the slots, the turns, the references and the calls
abbrev pub text_with : Step → (slots turns : ℕ) → List ℕ
text_with step slots turns = lines_of step.items ++ text_of (End slots turns step.references (calls_in step.items))

-- the report of an image and a script of n slots
unfoldable pub report_of : Image → List TypedAt → (n : ℕ) → List ℕ
report_of image records n = text_with (run_of image records n) n (n * image.turns)
