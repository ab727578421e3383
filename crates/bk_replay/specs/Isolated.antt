-- What isolation says of the bytes of a report.
use Rattle.std.specs.Prelude.{◌≡◌, ℕ, List, length, drop, Option, IfSome}
use Rattle.bk_level.specs.Levels.{Level}
use Rattle.bk_report.specs.Lines.{line_records_of}
use Rattle.bk_state.specs.declared.image.Image.{Image}
use Rattle.bk_state.specs.Start.{state_of}
use Rattle.bk_state.specs.Low.{is_line_under}
use Rattle.bk_system.specs.declared.script.TypedAt.{TypedAt}
use Rattle.bk_system.specs.Report.{report_of}
use Rattle.bk_system.specs.Kept.{keep}
use Rattle.bk_replay.specs.Replayed.{OfRun}

-- the line records of the lines under the level are those of the report of the same image, with as many slots, without the
-- bytes typed on other lines
abbrev pub IsAlikeAt : Level → Image → List TypedAt → (slots : ℕ) → (report : List ℕ) → Type 0
IsAlikeAt level image records slots report =
    line_records_of (is_line_under level (state_of image)) report
    ≡ line_records_of (is_line_under level (state_of image)) (report_of image (keep level (state_of image) records) slots)

-- for every level, whether the image names it or not, this holds of what was taken since `before`
abbrev pub IsAlike : (before after : Option (List ℕ)) → Image → List TypedAt → (slots : ℕ) → Type 0
IsAlike before after image records slots = (level : Level) →
    IfSome before (λ old. IfSome after (λ now. IsAlikeAt level image records slots (drop (length old) now)))

-- the bytes are an image and a script, and no byte that is typed on a line shows on the lines of a level that it isn't under
abbrev pub IsIsolated : (before after : Option (List ℕ)) → (bytes : List ℕ) → Type 0
IsIsolated before after bytes = OfRun (IsAlike before after) bytes
