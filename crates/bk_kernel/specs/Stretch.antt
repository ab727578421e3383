-- Turns of one subject, one after another: only the last of them gives items.
use Rattle.std.specs.Prelude.{◌≡◌, ◌≤◌, ℕ, zero, suc, ◌+◌, [], Option, if◌then◌else◌}
use Rattle.bk_space.specs.Counts.{counted_on}
use Rattle.bk_report.specs.declared.item.ReportItem.{ReportItem}
use Rattle.bk_state.specs.State.{State, process_of}
use Rattle.bk_system.specs.Step.{Step, joined, nothing}
use Rattle.bk_system.specs.Turn.{turn_of}
use Rattle.bk_system.specs.declared.at.At.{At}
use Rattle.bk_kernel.specs.Items.{items_of}
use Rattle.bk_kernel.specs.Progress.{KernelState, Progress}
use Rattle.bk_kernel.specs.Tables.{TablesState, last_after, runs}

-- the turn that is so many after a first one
abbrev pub turn_after : At → (n : ℕ) → At
turn_after at n = record { slot = at.slot; turn = n + at.turn; subject = at.subject }

-- so many turns of a subject, from a first one on
unfoldable pub turns_from : At → State → (n : ℕ) → Step
turns_from at v zero = nothing v
turns_from at v (suc n) = joined (turns_from at v n) (turn_of (turn_after at n) (turns_from at v n).state)

-- how many instructions have run after so many turns of the subject: one more each where its process runs
abbrev pub runs_from : State → (s turns runs_before : ℕ) → ℕ
runs_from v s turns runs_before = if runs (process_of v s) then counted_on runs_before turns else runs_before

-- so many turns were made, at least one and at most so many; those before the last gave no items
pub record IsStretch (old new : TablesState) (at : At) (most turns : ℕ) (pair : Option ReportItem × Option ReportItem) : Type 0 where
  pub before : ℕ
  pub turns_are : turns ≡ suc before
  pub few : turns ≤ most
  pub quiet : (turns_from at old.state before).items ≡ []
  pub items : items_of pair ≡ (turns_from at old.state turns).items
  pub state : new.state ≡ (turns_from at old.state turns).state
  pub references : new.machine.references ≡ counted_on old.machine.references (turns_from at old.state turns).references
  pub runs : new.machine.runs ≡ runs_from old.state at.subject turns old.machine.runs
  pub last : new.machine.last ≡ last_after (turns_from at old.state before).state at.subject old.machine.last

-- the turn that comes next, which is the subject's
abbrev pub at_next : Progress → (subject : ℕ) → At
at_next p subject = record { slot = p.slots; turn = p.since; subject = subject }

-- the same of a kernel
pub record HasStretched (old new : KernelState) (subject most turns : ℕ) (pair : Option ReportItem × Option ReportItem) : Type 0 where
  pub before : ℕ
  pub turns_are : turns ≡ suc before
  pub few : turns ≤ most
  pub quiet : (turns_from (at_next old.progress subject) old.progress.state before).items ≡ []
  pub items : items_of pair ≡ (turns_from (at_next old.progress subject) old.progress.state turns).items
  pub references : new.machine.references ≡ counted_on old.machine.references (turns_from (at_next old.progress subject) old.progress.state turns).references
  pub runs : new.machine.runs ≡ runs_from old.progress.state subject turns old.machine.runs
  pub last : new.machine.last ≡ last_after (turns_from (at_next old.progress subject) old.progress.state before).state subject old.machine.last
