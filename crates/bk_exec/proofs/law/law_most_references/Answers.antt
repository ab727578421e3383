use Rattle.bk_exec.proofs.MostLemmas.{exec_most}
use Rattle.bk_exec.proofs.law.law_most_references.Goals as goal

pub returns : goal.returns
returns c = exec_most
