-- The machine: the pages, core, the registers of the process, kernel mode, and the last instruction.
use Rattle.std.specs.Prelude.{◌≡◌, ℕ, ◌*◌, ◌==◌, Bool, if◌then◌else◌, List, take, drop, Option, Some, None}
use Rattle.bk_space.specs.declared.registers.Regs.{Regs}
use Rattle.bk_space.specs.AddrSpace.{applied}
use Rattle.bk_exec.specs.declared.event.Event.{Event}
use Rattle.bk_exec.specs.Exec.{Done, exec}
use Rattle.bk_object.specs.Limits.{words_of_block}
use Rattle.bk_core.specs.Memory.{Memory, kernel_blocks}
use Rattle.bk_mmu.specs.ActivePages.{ActivePages}
use Rattle.bk_machine.specs.Paged.{Paged, after_write, paged, shown_in}
use Rattle.bk_machine.specs.declared.ran.Ran.{Ran}
use Rattle.bk_machine.specs.declared.registers.KernelRegs.{KernelRegs}

-- the registers of the pages and core, the count of references, the registers of the process, those of kernel mode in kernel
-- mode, how many instructions have run, and the last one
pub record MachineState : Type 0 where
  pub pages : ActivePages
  pub core : Memory
  pub references : ℕ
  pub process : Regs
  pub kernel : Option KernelRegs
  pub runs : ℕ
  pub last : Option Ran

-- what the bus holds
abbrev pub bus_of : MachineState → Paged
bus_of machine = paged machine.pages.registers machine.core.words

-- the instruction of the process, as it is defined over the pages that are shown
abbrev pub instruction_of : MachineState → Done
instruction_of machine = exec (shown_in (bus_of machine)) machine.process

-- what the bus holds once the write of that instruction, if there is one, is made
abbrev pub written_of : MachineState → Paged
written_of machine = applied after_write (bus_of machine) (instruction_of machine).write

-- the words of the kernel's own blocks of core
abbrev pub kernel_words : List ℕ → List ℕ
kernel_words words = take (words_of_block * kernel_blocks) words

-- the words of all other blocks
abbrev pub other_words : List ℕ → List ℕ
other_words words = drop (words_of_block * kernel_blocks) words

-- the last instruction, if one has run: its registers after are those of the process where these were not set since
abbrev pub last_of : (runs : ℕ) (set : Bool) (before after process : Regs) → Event → Option Ran
last_of runs set before after process event =
    if runs == 0 then None else Some (record { before = before; after = if set then after else process; event = event })

-- a reference leaves these as they were
pub record KeepsRest (old new : MachineState) : Type 0 where
  pub pages : new.pages.registers ≡ old.pages.registers
  pub process : new.process ≡ old.process
  pub kernel : new.kernel ≡ old.kernel
  pub runs : new.runs ≡ old.runs
  pub last : new.last ≡ old.last
