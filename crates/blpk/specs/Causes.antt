-- What each status says: its cause, its line, and what was written.
use Rattle.std.specs.Prelude.{◌≡◌, ℕ, List, Option, Some, None, Result, Ok, Err, ⊤}
use Rattle.bk_base.specs.Outside.{SourceState, Rose}
use Rattle.bk_replay.specs.Input.{OnInput}
use Rattle.blpk.specs.Lines.{usage_line, read_line, memory_line, line_of}
use Rattle.blpk.specs.Made.{made_of, most_read, status_of, HasRead}
use Rattle.blpk.specs.Words.{command_of}
use Rattle.blpk.specs.declared.words.Command.{Command}
use Rattle.blpk.specs.declared.outcome.Refusal.{Refusal}
use Rattle.blpk.specs.declared.status.Status.{Status}
use Rattle.blpk.specs.declared.status.Status.TheVariants as status

-- the status has a line on the error output
abbrev pub IsRefusal : Status → Type 0
IsRefusal status.Ok = ⊥
IsRefusal status.Usage = ⊤
IsRefusal status.ImageRefused = ⊤
IsRefusal status.ScriptRefused = ⊤
IsRefusal status.BuildRefused = ⊤
IsRefusal status.ReadFault = ⊤
IsRefusal status.WriteFault = ⊥
IsRefusal status.NoMemory = ⊤

-- the words name a command, and it has read what it reads
pub record IsRead (words : List (List ℕ)) (before after : SourceState) : Type 0 where
  pub command : Command
  pub named : command_of words ≡ Some command
  pub read : HasRead command before after

-- the words name a command
pub record IsNamed (words : List (List ℕ)) : Type 0 where
  pub command : Command
  pub named : command_of words ≡ Some command

-- The words name a command, and this holds of it and of the bytes that it was given, and of all that the input had left, where
-- it tells them. The input was seen as `before` and then as `after`.
pub record Asked (words : List (List ℕ)) (before after : SourceState) (P : Command → List ℕ → Type 0) : Type 0 where
  pub command : Command
  pub named : command_of words ≡ Some command
  pub bytes : OnInput (most_read command) before after (P command)

-- the command makes a text of the bytes, and this holds of it
pub record Made (P : List ℕ → Type 0) (command : Command) (bytes : List ℕ) : Type 0 where
  pub text : List ℕ
  pub made : made_of command bytes ≡ Ok text
  pub holds : P text

-- the command refuses the bytes by this refusal
abbrev pub Refuses : Refusal → Command → (bytes : List ℕ) → Type 0
Refuses refusal command bytes = made_of command bytes ≡ Err refusal

-- what was read is refused, with this status and this line
pub record IsRefused (words : List (List ℕ)) (before after : SourceState) (s : Status) (line : List ℕ) : Type 0 where
  pub refusal : Refusal
  pub status_is : s ≡ status_of refusal
  pub line_is : line ≡ line_of refusal
  pub asked : Asked words before after (Refuses refusal)

-- the cause of a status that has a line, and the line
abbrev pub Row : (words : List (List ℕ)) (before after : SourceState) → Status → (line : List ℕ) → Type 0
Row words before after status.Ok line = ⊥
Row words before after status.Usage line = (command_of words ≡ None) × (line ≡ usage_line)
Row words before after status.ImageRefused line = IsRefused words before after status.ImageRefused line
Row words before after status.ScriptRefused line = IsRefused words before after status.ScriptRefused line
Row words before after status.BuildRefused line = IsRefused words before after status.BuildRefused line
Row words before after status.ReadFault line = IsNamed words × Rose before.faults after.faults × (line ≡ read_line)
Row words before after status.WriteFault line = ⊥
Row words before after status.NoMemory line = IsNamed words × (line ≡ memory_line)

-- the output failed (`broke`) in a text that the command makes, and the error output is untouched (`quiet`)
abbrev pub ByOut : (words : List (List ℕ)) (before after : SourceState) (quiet : Type 0) (broke : List ℕ → Type 0) → Type 0
ByOut words before after quiet broke = quiet × Asked words before after (Made broke)

-- the error output failed (`broke`) in the line of a row that holds, and the output is untouched (`kept`)
abbrev pub ByErr : (words : List (List ℕ)) (before after : SourceState) (kept : Type 0) (broke : List ℕ → Type 0) → Type 0
ByErr words before after kept broke = kept × ((own : Status) × (line : List ℕ) × Row words before after own line × broke line)
