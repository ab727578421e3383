-- The core of a machine, lent to be changed.
use Rattle.std.specs.Borrow.{Lends, MutBor, Fml}
use Rattle.bk_core.specs.Memory.{Memory}
use Rattle.bk_core.specs.contracts.memory.Core.{the_row as core_row}
use Rattle.bk_machine.specs.Machine.{MachineState}
use Rattle.bk_machine.specs.contracts.machine.Machine.{the_row}

-- core becomes this; all else stays
abbrev pub with_core : MachineState → Memory → MachineState
with_core machine core = record machine { core = core }

-- the machine ends with the last core behind the reference, and with all else as it was
abbrev pub LendsCore : MutBor MachineState → MutBor Memory → Fml
LendsCore machine core = Lends the_row core_row machine core (with_core machine.now)
