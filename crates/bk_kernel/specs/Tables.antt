-- What the kernel keeps: the objects and the current access set by store and core, the rest in lists, and a machine in which one
-- subject is loaded.
use Rattle.std.specs.Prelude.{◌≡◌, ◌<◌, ℕ, Bool, true, false, List, length, Option, Some, None, slice_get, slice_set, unwrap_or, if◌then◌else◌}
use Rattle.bk_space.specs.Counts.{counted_on}
use Rattle.bk_exec.specs.Exec.{exec}
use Rattle.bk_machine.specs.Machine.{MachineState}
use Rattle.bk_machine.specs.declared.ran.Ran.{Ran}
use Rattle.bk_pages.specs.StandsFor.{IsLoaded}
use Rattle.bk_process.specs.declared.process.Process.{Process}
use Rattle.bk_process.specs.declared.status.Status9.{Status9}
use Rattle.bk_process.specs.declared.status.Status9.TheVariants.{Running, Paused, Stopped}
use Rattle.bk_state.specs.Answers.{Called, level_after}
use Rattle.bk_state.specs.State.{State, process_of}
use Rattle.bk_state.specs.declared.clearance.Clearance.{Clearance}
use Rattle.bk_store.specs.Stored.{Stored, objects_of}
use Rattle.bk_load.specs.Kept.{current_levels, greatest_levels, IsKept}
use Rattle.bk_system.specs.Space.{space_of}
use Rattle.bk_system.specs.Turn.{entered, with_process, with_pushes}
use Rattle.bk_kernel.specs.declared.tables.Tables.TheInside.{Inside}

-- the state of the system, the machine, and the number of the subject that is loaded in it
pub record TablesState : Type 0 where
  pub state : State
  pub machine : MachineState
  pub loaded : ℕ

-- of each subject the numbers of its greatest and of its current level; of each line the number of its level; the turns of a
-- slot; the schedule; of each subject its process; and the store with the words of core
abbrev pub state_from : List Clearance → (lines : List ℕ) → (turns : ℕ) → (schedule : List ℕ) → List Process → Stored → (words : List ℕ) → State
state_from clearances lines turns schedule processes store words = record {
  fixed = record { levels = store.levels; subjects = greatest_levels clearances; lines = lines; turns = turns; schedule = schedule };
  current = current_levels clearances;
  objects = objects_of store words;
  access = store.access;
  processes = processes;
}

-- the state that the kernel's tables stand for, with the machine and the loaded subject
abbrev pub tables_kept : Inside → TablesState
tables_kept t = record {
  state = state_from t.clearances.items t.lines.items t.turns t.schedule.items t.processes.items t.store t.machine.core.words;
  machine = t.machine;
  loaded = t.loaded;
}

-- the loaded subject has a process, and the machine is loaded with it
pub record HasLoaded (processes : List Process) (store : Stored) (machine : MachineState) (loaded : ℕ) : Type 0 where
  pub there : loaded < length processes
  pub is : (p : Process) → slice_get processes loaded ≡ Some p → IsLoaded machine store loaded p

-- the tables are of one image, as many of each as it has, and one subject is loaded
pub record AreKept (t : Inside) : Type 0 where
  pub tables : IsKept t.clearances.items (length t.lines.items) (length t.processes.items) (length t.store.levels) t.store.lines
  pub loaded : HasLoaded t.processes.items t.store t.machine t.loaded

-- the levels of a subject with these that rises to that one, if it rises
abbrev pub risen : Option ℕ → Clearance → Clearance
risen level c = record c { current = unwrap_or level c.current }

-- the state after a call of a process that came to this
abbrev pub served : State → (s : ℕ) → Called → State
served v s c = record v {
  objects = c.objects;
  access = c.access;
  current = slice_set v.current s (level_after v s c.raised);
  processes = slice_set v.processes s c.process;
}

-- the state after a fault that the process takes at its entry, or that stops it
abbrev pub interrupted : State → (s : ℕ) → Process → (number entry : ℕ) → (is_taken : Bool) → State
interrupted v s p number entry true = with_process (with_pushes v p) s (entered p entry)
interrupted v s p number entry false = with_process v s (record p { status = Stopped number })

-- a process that is there runs
abbrev pub is_running : Status9 → Bool
is_running Running = true
is_running Paused = false
is_running (Stopped cause) = false

-- a process is there, and it runs
abbrev pub runs : Option Process → Bool
runs None = false
runs (Some p) = is_running p.status

-- ---- what the machine tells

-- the instruction of a process, as the machine tells it: its registers before, those after, and how it ended
abbrev pub instruction_told : State → (s : ℕ) → Process → Ran
instruction_told v s p =
    let x = exec (space_of v s p.windows) p.registers in
    record { before = p.registers; after = x.regs; event = x.outcome }

-- how many instructions have run after a turn of the subject: one more where its process runs
abbrev pub runs_after : State → (s runs_before : ℕ) → ℕ
runs_after v s runs_before = if runs (process_of v s) then counted_on runs_before 1 else runs_before

-- the last instruction after a turn by the process that is there, if it runs; else the one before
abbrev pub last_by : State → (s : ℕ) → Option Ran → Option Process → Option Ran
last_by v s last None = last
last_by v s last (Some p) = if is_running p.status then Some (instruction_told v s p) else last

-- the last instruction after a turn of the subject
abbrev pub last_after : State → (s : ℕ) → Option Ran → Option Ran
last_after v s last = last_by v s last (process_of v s)

-- no instruction has run, and no reference was made
pub record RanNothing (old new : MachineState) : Type 0 where
  pub references : new.references ≡ old.references
  pub runs : new.runs ≡ old.runs
  pub last : new.last ≡ old.last

-- no instruction has run yet, and no reference was made
pub record HasRunNothing (machine : MachineState) : Type 0 where
  pub references : machine.references ≡ 0
  pub runs : machine.runs ≡ 0
  pub last : machine.last ≡ None
