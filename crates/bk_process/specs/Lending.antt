-- The registers of a process, lent to be changed.
use Rattle.std.specs.Borrow.{Lends, MutBor, Fml}
use Rattle.bk_space.specs.declared.registers.Regs.{Regs}
use Rattle.bk_space.specs.contracts.registers.Regs.{the_row as regs_row}
use Rattle.bk_process.specs.declared.process.Process.{Process}
use Rattle.bk_process.specs.contracts.process.Process.{the_row}

-- the registers become these; windows, fault entries and status stay
abbrev pub with_registers : Process → Regs → Process
with_registers process regs = record process { registers = regs }

-- the process ends with the last registers behind the reference, and with all else as it was
abbrev pub LendsRegisters : MutBor Process → MutBor Regs → Fml
LendsRegisters process regs = Lends the_row regs_row process regs (with_registers process.now)
