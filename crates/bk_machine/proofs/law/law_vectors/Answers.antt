use Rattle.bk_machine.proofs.VectorLemmas.{entered-through, vectors-kept}
use Rattle.bk_machine.proofs.law.law_vectors.Goals as goal

pub returns-clause-kept : goal.returns-clause-kept
returns-clause-kept c = vectors-kept

pub returns-clause-entered : goal.returns-clause-entered
returns-clause-entered c = entered-through
