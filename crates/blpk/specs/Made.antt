-- What each command makes of the bytes that it reads.
use Rattle.std.specs.Prelude.{◌≡◌, ℕ, ◌+◌, Bool, true, false, List, Option, Some, None, Result, Ok, Err, ⊤}
use Rattle.bk_base.specs.Outside.{SourceState}
use Rattle.bk_conf.specs.Built.{built, listing_of}
use Rattle.bk_conf.specs.Limits.{most_bytes}
use Rattle.bk_conf.specs.declared.fault.BuildFault.{BuildFault}
use Rattle.bk_gen.specs.Image.{generated_image}
use Rattle.bk_gen.specs.Script.{generated_script}
use Rattle.bk_image.specs.declared.fault.ImageFault.{ImageFault}
use Rattle.bk_image.specs.Image.{image_of}
use Rattle.bk_image.specs.Spelling.{spelling}
use Rattle.bk_script.specs.declared.fault.ScriptFault.{ScriptFault}
use Rattle.bk_state.specs.declared.image.Image.{Image}
use Rattle.bk_system.specs.declared.script.TypedAt.{TypedAt}
use Rattle.bk_system.specs.Report.{report_of}
use Rattle.bk_replay.specs.Input.{IsAllRead}
use Rattle.bk_replay.specs.Played.{summary_of, end_text}
use Rattle.bk_replay.specs.Replayed as replayed
use Rattle.bk_replay.specs.Replayed.{script_after}
use Rattle.bk_replay.specs.Isolated.{IsIsolated}
use Rattle.blpk.specs.Words.{command_of}
use Rattle.blpk.specs.declared.words.Command.{Command}
use Rattle.blpk.specs.declared.words.Command.TheVariants.{Run, Build, Gen}
use Rattle.blpk.specs.declared.words.Command.TheVariants as command
use Rattle.blpk.specs.declared.outcome.Refusal.{Refusal}
use Rattle.blpk.specs.declared.outcome.Refusal.TheVariants as refusal
use Rattle.blpk.specs.declared.status.Status.{Status}
use Rattle.blpk.specs.declared.status.Status.TheVariants as status

-- the status of a refusal; its line is in `Lines`
abbrev pub status_of : Refusal → Status
status_of (refusal.Image fault) = status.ImageRefused
status_of (refusal.Script fault) = status.ScriptRefused
status_of (refusal.Build fault) = status.BuildRefused

-- ---- run

-- the report, or the refusal of what follows the image
abbrev pub by_script : Image → Result (List TypedAt × ℕ) ScriptFault → Result (List ℕ) Refusal
by_script image (Ok script) = Ok (report_of image script.0 script.1)
by_script image (Err fault) = Err (refusal.Script fault)

-- the same, or the refusal where no image is a prefix of the bytes
abbrev pub by_image : List ℕ → Result (Image × ℕ) ImageFault → Result (List ℕ) Refusal
by_image bytes (Ok image) = by_script image.0 (script_after image.0 image.1 bytes)
by_image bytes (Err fault) = Err (refusal.Image fault)

-- ---- build and list

-- the most bytes of a configuration that are read, so that one that is too long is known
abbrev pub most_text : ℕ
most_text = most_bytes + 1

-- the bytes of the image, or the refusal of the configuration
abbrev pub spelled : Result Image BuildFault → Result (List ℕ) Refusal
spelled (Ok image) = Ok (spelling image)
spelled (Err fault) = Err (refusal.Build fault)

-- the listing, or the refusal of the configuration
abbrev pub listed : Result (List ℕ) BuildFault → Result (List ℕ) Refusal
listed (Ok text) = Ok text
listed (Err fault) = Err (refusal.Build fault)

-- ---- gen

-- the last line of the report of the run that is generated from the number
abbrev pub generated : (n : ℕ) → List ℕ
generated n = end_text (summary_of generated_image (generated_script n).typed (generated_script n).slots)

-- ---- all commands

-- the most bytes that a command reads: `gen` reads none
abbrev pub most_read : Command → ℕ
most_read Run = replayed.most_read
most_read Build = most_text
most_read command.List = most_text
most_read (Gen n) = 0

-- a command has read what it reads: all that there is, but for `gen`
abbrev pub HasRead : Command → (before after : SourceState) → Type 0
HasRead Run before after = IsAllRead before after
HasRead Build before after = IsAllRead before after
HasRead command.List before after = IsAllRead before after
HasRead (Gen n) before after = after ≡ before

-- from the bytes that a command read, the bytes to write, or why they are refused: `run` makes the report of the image and the
-- script that they are, `build` the bytes of the image of a configuration, `list` its listing, `gen` the last line of a generated
-- run's
abbrev pub made_of : Command → (bytes : List ℕ) → Result (List ℕ) Refusal
made_of Run bytes = by_image bytes (image_of bytes)
made_of Build bytes = spelled (built bytes)
made_of command.List bytes = listed (listing_of bytes)
made_of (Gen n) bytes = Ok (generated n)

-- a command makes another form of a configuration
abbrev pub is_conversion : Command → Bool
is_conversion Run = false
is_conversion Build = true
is_conversion command.List = true
is_conversion (Gen n) = false

-- what isolation says of a command's output: `run` writes line records that don't tell of bytes typed elsewhere; to the others
-- nothing is typed
abbrev pub IsIsolatedFor : (before after : Option (List ℕ)) → Command → (bytes : List ℕ) → Type 0
IsIsolatedFor before after Run bytes = IsIsolated before after bytes
IsIsolatedFor before after Build bytes = ⊤
IsIsolatedFor before after command.List bytes = ⊤
IsIsolatedFor before after (Gen n) bytes = ⊤

-- ---- what the words ask for

-- the most bytes that are read for a command, and none where there is none
abbrev pub most_for : Option Command → ℕ
most_for (Some command) = most_read command
most_for None = 0

-- the most bytes that are read for the words
abbrev pub most_for_words : (words : List (List ℕ)) → ℕ
most_for_words words = most_for (command_of words)

-- the status of what is made
abbrev pub status_made : Result (List ℕ) Refusal → Status
status_made (Ok text) = status.Ok
status_made (Err refusal) = status_of refusal

-- the status that a command asks for, and that of no command
abbrev pub by_command : Option Command → List ℕ → Status
by_command (Some command) bytes = status_made (made_of command bytes)
by_command None bytes = status.Usage

-- the status that the words and the bytes read ask for
abbrev pub expected : (words : List (List ℕ)) (bytes : List ℕ) → Status
expected words bytes = by_command (command_of words) bytes
