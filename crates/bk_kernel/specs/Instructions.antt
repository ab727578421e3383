-- Instructions of one process, one after another.
use Rattle.std.specs.Prelude.{◌≡◌, ◌<◌, ℕ, zero, suc, List, Option, Some}
use Rattle.bk_path.specs.Paths.{Path}
use Rattle.bk_space.specs.AddrSpace.{applied}
use Rattle.bk_space.specs.Counts.{counted_on}
use Rattle.bk_space.specs.declared.registers.Regs.{Regs}
use Rattle.bk_exec.specs.Exec.{Done, exec}
use Rattle.bk_exec.specs.declared.event.Event.{Event}
use Rattle.bk_exec.specs.declared.event.Event.TheVariants.{Ran}
use Rattle.bk_machine.specs.Machine.{MachineState}
use Rattle.bk_machine.specs.declared.ran.Ran.{Ran as RanOnce}
use Rattle.bk_process.specs.declared.process.Process.{Process}
use Rattle.bk_state.specs.State.{State}
use Rattle.bk_store.specs.Stored.{Stored}
use Rattle.bk_store.specs.Stands.{StandsFor}
use Rattle.bk_system.specs.Space.{space_of}
use Rattle.bk_system.specs.Turn.{with_process, written}
use Rattle.bk_kernel.specs.Tables.{TablesState}

-- a state, the registers of the process that runs in it, and how many references were made
pub record Going : Type 0 where
  pub state : State
  pub registers : Regs
  pub references : ℕ

-- the next instruction of the subject, through these windows
abbrev pub next_of : (s : ℕ) → (windows : List (Option Path)) → Going → Done
next_of s windows g = exec (space_of g.state s windows) g.registers

-- after that instruction
abbrev pub after_one : (s : ℕ) → (windows : List (Option Path)) → Going → Going
after_one s windows g = record {
  state = applied (written windows) g.state (next_of s windows g).write;
  registers = (next_of s windows g).regs;
  references = counted_on g.references (next_of s windows g).references;
}

-- after so many instructions
unfoldable pub gone : (s : ℕ) → (windows : List (Option Path)) → Going → (n : ℕ) → Going
gone s windows g zero = g
gone s windows g (suc n) = after_one s windows (gone s windows g n)

-- that instruction as the machine tells it
abbrev pub told_next : (s : ℕ) → (windows : List (Option Path)) → Going → RanOnce
told_next s windows g = record { before = g.registers; after = (next_of s windows g).regs; event = (next_of s windows g).outcome }

-- where a machine begins, over a state
abbrev pub going_from : MachineState → State → Going
going_from machine v = record { state = v; registers = machine.process; references = machine.references }

-- the machine has come to where so many instructions lead, all of which ran
pub record HasGone (store : Stored) (old new : MachineState) (v : State) (s : ℕ) (windows : List (Option Path)) (n : ℕ) : Type 0 where
  pub ran : (k : ℕ) → k < n → (next_of s windows (gone s windows (going_from old v) k)).outcome ≡ Ran
  pub stands : StandsFor store new.core.words (gone s windows (going_from old v) n).state
  pub registers : new.process ≡ (gone s windows (going_from old v) n).registers
  pub references : new.references ≡ (gone s windows (going_from old v) n).references

-- so many instructions have run, of which all but the last ended as ran, and the last as the event
pub record WentOn (store : Stored) (old new : MachineState) (v : State) (s : ℕ) (windows : List (Option Path)) (turns : ℕ) (event : Event) : Type 0 where
  pub before : ℕ
  pub turns_are : turns ≡ suc before
  pub ran : (k : ℕ) → k < before → (next_of s windows (gone s windows (going_from old v) k)).outcome ≡ Ran
  pub ends : event ≡ (next_of s windows (gone s windows (going_from old v) before)).outcome
  pub stands : StandsFor store new.core.words (gone s windows (going_from old v) (suc before)).state
  pub registers : new.process ≡ (gone s windows (going_from old v) (suc before)).registers
  pub references : new.references ≡ (gone s windows (going_from old v) (suc before)).references
  pub last : new.last ≡ Some (told_next s windows (gone s windows (going_from old v) before))

-- where the process of the loaded subject begins
abbrev pub going_by : TablesState → Process → Going
going_by t p = record { state = t.state; registers = p.registers; references = t.machine.references }

-- the same over all that the tables stand for: the process has the registers that the last instruction left
pub record HasRun (old new : TablesState) (p : Process) (turns : ℕ) (event : Event) : Type 0 where
  pub before : ℕ
  pub turns_are : turns ≡ suc before
  pub ran : (k : ℕ) → k < before → (next_of old.loaded p.windows (gone old.loaded p.windows (going_by old p) k)).outcome ≡ Ran
  pub ends : event ≡ (next_of old.loaded p.windows (gone old.loaded p.windows (going_by old p) before)).outcome
  pub state : new.state ≡ with_process (gone old.loaded p.windows (going_by old p) (suc before)).state old.loaded (record p { registers = (gone old.loaded p.windows (going_by old p) (suc before)).registers })
  pub references : new.machine.references ≡ (gone old.loaded p.windows (going_by old p) (suc before)).references
  pub last : new.machine.last ≡ Some (told_next old.loaded p.windows (gone old.loaded p.windows (going_by old p) before))
