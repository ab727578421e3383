use Rattle.std.proofs.Common.{sym, subst}
use Rattle.bk_machine.specs.Vectors.{HasVectors}
use Rattle.bk_machine.proofs.VectorLemmas.{vectors-made}
use Rattle.bk_machine.proofs.machine.Machine.reserve.Goals as goal

pub returns-clause-vectors : goal.returns-clause-vectors
returns-clause-vectors c = subst (λ words. HasVectors words) (sym c.make_vectors.ensures) (vectors-made c.in_ok-core.core.words c.in_ok-core.core.full)
