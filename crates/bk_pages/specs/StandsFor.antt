-- A machine in which the process of a subject is loaded.
use Rattle.std.specs.Prelude.{◌≡◌, ℕ, None}
use Rattle.bk_process.specs.declared.process.Process.{Process}
use Rattle.bk_store.specs.Stored.{Stored}
use Rattle.bk_machine.specs.Machine.{MachineState}
use Rattle.bk_machine.specs.Vectors.{HasVectors}
use Rattle.bk_pages.specs.Pages.{pages_for}

-- the machine has the registers of the process, is outside kernel mode, has the vectors in its core, and its pages show what
-- the subject may reach through the windows of the process
pub record IsLoaded (machine : MachineState) (store : Stored) (subject : ℕ) (process : Process) : Type 0 where
  pub registers : machine.process ≡ process.registers
  pub outside : machine.kernel ≡ None
  pub vectors : HasVectors machine.core.words
  pub pages : machine.pages.registers ≡ pages_for store subject process.windows

-- the process with the registers that the machine has
abbrev pub kept_in : MachineState → Process → Process
kept_in machine process = record process { registers = machine.process }
