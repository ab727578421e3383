-- The process that begins.
use Rattle.std.specs.Prelude.{ℕ, None, replicate}
use Rattle.bk_space.specs.declared.registers.Regs.{Regs}
use Rattle.bk_process.specs.declared.process.Process.{Process}
use Rattle.bk_process.specs.declared.status.Status9.TheVariants.{Running}

-- so many windows has a process
abbrev pub windows_of_process : ℕ
windows_of_process = 32

-- so many faults have an entry
abbrev pub entries_of_process : ℕ
entries_of_process = 8

-- so many general registers are there beside stack pointers and program counter
abbrev pub general_registers : ℕ
general_registers = 6

-- these registers; all 32 windows are free, none of the 8 faults has an entry, and it runs
abbrev pub new_process : Regs → Process
new_process regs = record { registers = regs; windows = replicate windows_of_process None; entries = replicate entries_of_process 0; status = Running }
