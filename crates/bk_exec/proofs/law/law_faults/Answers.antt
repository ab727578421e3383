use Rattle.bk_exec.specs.Exec.{running, exec}
use Rattle.bk_exec.proofs.FaultLemmas.{cut_off_changes_nothing}
use Rattle.bk_exec.proofs.law.law_faults.Goals as goal

pub returns : goal.returns
unfolding exec
returns c = λ pages before cause. cut_off_changes_nothing before (running pages before).made (running pages before).outcome cause
