use Rattle.std.proofs.Common.{rules, ◌≡◌, ◌↔◌, ◌*◌, None, IsNone, IsTrue, IfOk, Bool, true, false}
use Rattle.bk_space.specs.Counts.{counted_on}
use Rattle.bk_machine.specs.Machine.{instruction_of}
use Rattle.bk_case.specs.Machined.{IsGivenByMachine, with_process}
use Rattle.bk_case.proofs.machined.machine_agrees.Goals as goal
use Rattle.bk_case.proofs.machined.machine_agrees.Goals.{then-gives+in_ok-has_pages, else-gives}

-- the machine is the one with the pages of the case
pub returns : goal.returns
returns c = elim c.if-gives.branch [ then-gives+in_ok-has_pages w ↦ record { given = λ yes. (c.in_ok-machine.machine, search rules, search rules, search rules) } | else-gives w ↦ search rules ]
