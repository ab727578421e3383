-- A case of one instruction, on the machine.
use Rattle.std.specs.Prelude.{◌≡◌}
use Rattle.bk_space.specs.Counts.{counted_on}
use Rattle.bk_space.specs.declared.registers.Regs.{Regs}
use Rattle.bk_machine.specs.Machine.{MachineState, instruction_of}
use Rattle.bk_case.specs.declared.step_case.StepCase.{StepCase}

-- the machine with these registers in its process
abbrev pub with_process : MachineState → Regs → MachineState
with_process machine regs = record machine { process = regs }

-- over the pages and core of some machine, with the registers of the case in its process, the instruction gives the registers,
-- the event and the number of references of the case
abbrev pub IsGivenByMachine : StepCase → Type 0
IsGivenByMachine case = (machine : MachineState) × ((instruction_of (with_process machine case.before)).regs ≡ case.after)
    × ((instruction_of (with_process machine case.before)).outcome ≡ case.event)
    × (counted_on 0 (instruction_of (with_process machine case.before)).references ≡ case.references)
