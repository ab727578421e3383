-- What each outcome of the command comes to, and what it gives on the error output.
use Rattle.std.specs.Prelude.{◌≡◌, ◌⊎◌, ℕ, List, Some, None, Result, Ok, Err, Vec}
use Rattle.bk_base.specs.declared.stop.Stop.{Stop}
use Rattle.bk_base.specs.declared.stop.Stop.TheVariants.{Bad, NoMemory}
use Rattle.bk_conf.specs.declared.fault.BuildFault.{BuildFault}
use Rattle.bk_base.specs.Outside.{SourceState, Rose}
use Rattle.bk_kernel.specs.declared.kernel.Summary.{Summary}
use Rattle.bk_replay.specs.Input.{OnInput}
use Rattle.bk_replay.specs.declared.replaying.RunStop.{RunStop}
use Rattle.bk_replay.specs.declared.replaying.RunStop.TheVariants as stop
use Rattle.blpk.specs.Causes.{Made, Refuses}
use Rattle.blpk.specs.Lines.{usage_line, read_line, memory_line, line_of}
use Rattle.blpk.specs.Made.{most_read, status_of, HasRead}
use Rattle.blpk.specs.Words.{command_of}
use Rattle.blpk.specs.declared.words.Command.{Command}
use Rattle.blpk.specs.declared.outcome.Outcome.{Outcome}
use Rattle.blpk.specs.declared.outcome.Outcome.TheVariants as outcome
use Rattle.blpk.specs.declared.outcome.Refusal.{Refusal}
use Rattle.blpk.specs.declared.outcome.Refusal.TheVariants as refusal
use Rattle.blpk.specs.declared.status.Status.{Status}
use Rattle.blpk.specs.declared.status.Status.TheVariants as status

-- what the answer of a run comes to
abbrev pub outcome_of : Result Summary RunStop → Outcome
outcome_of (Ok summary) = outcome.Written
outcome_of (Err stop.Read) = outcome.Read
outcome_of (Err (stop.Image fault)) = outcome.Refused (refusal.Image fault)
outcome_of (Err (stop.Script fault)) = outcome.Refused (refusal.Script fault)
outcome_of (Err stop.Write) = outcome.Write
outcome_of (Err stop.NoMemory) = outcome.NoMemory

-- what `build` or `list` gives is what it makes, or the refusal of the configuration; or want of memory
abbrev pub MakesText : {Z : Type 0} → Result (Vec ℕ Z) (Stop BuildFault) → Result (List ℕ) Refusal → Type 0
MakesText (Ok bytes) made = made ≡ Ok bytes.items
MakesText (Err NoMemory) made = Unit {0}
MakesText (Err (Bad fault)) made = made ≡ Err (refusal.Build fault)

-- a text was written, or its writing failed
abbrev pub Wrote : (took broke : Type 0) → Outcome → Type 0
Wrote took broke outcome.Written = took
Wrote took broke outcome.Usage = ⊥
Wrote took broke outcome.Read = ⊥
Wrote took broke (outcome.Refused refusal) = ⊥
Wrote took broke outcome.Write = broke
Wrote took broke outcome.NoMemory = ⊥

-- What a command came to. The input was seen as `before` and then as `after`; `kept` says that the output is untouched, `took`
-- and `broke` that it took a text, or that it failed after a front of it.
abbrev pub CameTo : Command → (before after : SourceState) (kept : Type 0) (took broke : List ℕ → Type 0) → Outcome → Type 0
CameTo command before after kept took broke outcome.Written =
    HasRead command before after × OnInput (most_read command) before after (Made took command)
CameTo command before after kept took broke outcome.Usage = ⊥
CameTo command before after kept took broke outcome.Read = kept × Rose before.faults after.faults
CameTo command before after kept took broke (outcome.Refused refusal) =
    kept × OnInput (most_read command) before after (Refuses refusal command)
CameTo command before after kept took broke outcome.Write = OnInput (most_read command) before after (Made broke command)
CameTo command before after kept took broke outcome.NoMemory = kept

-- What the words came to: nothing where they name no command; `unread` says that the input is untouched.
abbrev pub Performed : (words : List (List ℕ)) (before after : SourceState) (unread kept : Type 0) (took broke : List ℕ → Type 0) → Outcome → Type 0
Performed words before after unread kept took broke o =
    ((command_of words ≡ None) × (o ≡ outcome.Usage) × kept × unread)
    ⊎ ((command : Command) × (command_of words ≡ Some command) × CameTo command before after kept took broke o)

-- the line was taken and the status is its own, or its writing failed and the status is WriteFault
abbrev pub Said : (took broke : List ℕ → Type 0) (line : List ℕ) (own : Status) → Status → Type 0
Said took broke line own s = ((s ≡ own) × took line) ⊎ ((s ≡ status.WriteFault) × broke line)

-- what an outcome gives on the error output, which is untouched (`quiet`) where it has no line
abbrev pub Finished : (quiet : Type 0) (took broke : List ℕ → Type 0) → Status → Outcome → Type 0
Finished quiet took broke s outcome.Written = (s ≡ status.Ok) × quiet
Finished quiet took broke s outcome.Usage = Said took broke usage_line status.Usage s
Finished quiet took broke s outcome.Read = Said took broke read_line status.ReadFault s
Finished quiet took broke s (outcome.Refused refusal) = Said took broke (line_of refusal) (status_of refusal) s
Finished quiet took broke s outcome.Write = (s ≡ status.WriteFault) × quiet
Finished quiet took broke s outcome.NoMemory = Said took broke memory_line status.NoMemory s
