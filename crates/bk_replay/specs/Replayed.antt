-- What the bytes of a run spell, and what each answer of a run says.
use Rattle.std.specs.Prelude.{◌≡◌, ℕ, ◌+◌, List, drop, Result, Ok, Err, IsOk}
use Rattle.bk_base.specs.Outside.{SourceState, Rose}
use Rattle.bk_image.specs.declared.fault.ImageFault.{ImageFault}
use Rattle.bk_image.specs.Image.{image_of}
use Rattle.bk_image.specs.Limits as image_limits
use Rattle.bk_kernel.specs.declared.kernel.Summary.{Summary}
use Rattle.bk_script.specs.declared.fault.ScriptFault.{ScriptFault}
use Rattle.bk_script.specs.Limits as script_limits
use Rattle.bk_script.specs.Lines.{script_of}
use Rattle.bk_state.specs.declared.image.Image.{Image}
use Rattle.bk_system.specs.declared.script.TypedAt.{TypedAt}
use Rattle.bk_system.specs.Report.{report_of}
use Rattle.bk_replay.specs.declared.replaying.RunStop.{RunStop}
use Rattle.bk_replay.specs.declared.replaying.RunStop.TheVariants as stop
use Rattle.bk_replay.specs.Input.{OnInput, IsAllRead}
use Rattle.bk_replay.specs.Played.{summary_of}

-- ---- the input

-- the most bytes that a run reads: those of an image and of a script, and one more, which shows that one is too long
abbrev pub most_read : ℕ
most_read = image_limits.most_bytes + script_limits.most_bytes + 1

-- the script that the bytes after an image of so many bytes spell for it, or its first fault
abbrev pub script_after : Image → ℕ → List ℕ → Result (List TypedAt × ℕ) ScriptFault
script_after image count bytes = script_of image.lines image.turns (drop count bytes)

-- the first bytes are an image's, and all that follow are those of a script for it
pub record Spells (bytes : List ℕ) (image : Image) (records : List TypedAt) (slots : ℕ) : Type 0 where
  pub count : ℕ
  pub image_is : image_of bytes ≡ Ok (image, count)
  pub script_is : script_after image count bytes ≡ Ok (records, slots)

-- no prefix of the bytes is an image: this is the first fault
abbrev pub IsNoImage : ImageFault → List ℕ → Type 0
IsNoImage fault bytes = image_of bytes ≡ Err fault

-- an image is a prefix, and what follows it is no script for it: this is the first fault
pub record IsNoScript (fault : ScriptFault) (bytes : List ℕ) : Type 0 where
  pub image : Image
  pub count : ℕ
  pub image_is : image_of bytes ≡ Ok (image, count)
  pub script_is : script_after image count bytes ≡ Err fault

-- the bytes are an image and a script, and this holds of their run
pub record OfRun (P : Image → List TypedAt → ℕ → Type 0) (bytes : List ℕ) : Type 0 where
  pub image : Image
  pub records : List TypedAt
  pub slots : ℕ
  pub spells : Spells bytes image records slots
  pub run : P image records slots

-- the bytes are an image and a script, and this holds of the report of their run
abbrev pub OfReport : (List ℕ → Type 0) → List ℕ → Type 0
OfReport P bytes = OfRun (λ image records slots. P (report_of image records slots)) bytes

-- ---- the answers

-- What each answer says. The source was seen as `before` and then as `after`; `kept` says that the output is untouched, `took`
-- and `broke` that the output took a text, or that it failed after a front of it.
abbrev pub Replayed : (before after : SourceState) (kept : Type 0) (took broke : List ℕ → Type 0) → Result Summary RunStop → Type 0
Replayed before after kept took broke (Ok summary) =
    IsAllRead before after
    × OnInput most_read before after (OfRun (λ image records slots. took (report_of image records slots) × (summary ≡ summary_of image records slots)))
Replayed before after kept took broke (Err stop.Read) = kept × Rose before.faults after.faults
Replayed before after kept took broke (Err (stop.Image fault)) = kept × OnInput most_read before after (IsNoImage fault)
Replayed before after kept took broke (Err (stop.Script fault)) = kept × OnInput most_read before after (IsNoScript fault)
Replayed before after kept took broke (Err stop.Write) = OnInput most_read before after (OfReport broke)
Replayed before after kept took broke (Err stop.NoMemory) = kept

-- what the input asks for: its first fault, or else the report
abbrev pub by_script : Result (List TypedAt × ℕ) ScriptFault → Result Summary RunStop → Type 0
by_script (Ok script) result = IsOk result
by_script (Err fault) result = result ≡ Err (stop.Script fault)

-- the same, or the first fault of what is no image
abbrev pub by_image : List ℕ → Result (Image × ℕ) ImageFault → Result Summary RunStop → Type 0
by_image bytes (Ok x) result = by_script (script_after x.0 x.1 bytes) result
by_image bytes (Err fault) result = result ≡ Err (stop.Image fault)

-- the answer is what the bytes ask for
abbrev pub IsAsked : Result Summary RunStop → List ℕ → Type 0
IsAsked result bytes = by_image bytes (image_of bytes) result
