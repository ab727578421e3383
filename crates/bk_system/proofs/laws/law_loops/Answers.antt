use Rattle.bk_system.proofs.Folds.{slot_of-turns, run_of-slots}
use Rattle.bk_system.proofs.laws.law_loops.Goals as goal

pub returns-clause-slot : goal.returns-clause-slot
returns-clause-slot c = slot_of-turns

pub returns-clause-run : goal.returns-clause-run
returns-clause-run c = run_of-slots
