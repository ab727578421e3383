use Rattle.bk_exec.proofs.WriteLemmas.{exec_allowed}
use Rattle.bk_exec.proofs.law.law_write.Goals as goal

pub returns : goal.returns
returns c = exec_allowed
