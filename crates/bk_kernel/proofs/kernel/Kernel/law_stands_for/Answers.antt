use Rattle.std.proofs.Common.{subst}
use Rattle.bk_store.specs.Stored.{Stored}
use Rattle.bk_kernel.specs.Progress.{KernelState}
use Rattle.bk_kernel.specs.StandsFor.{StandsFor}
use Rattle.bk_kernel.proofs.kernel.Kernel.law_stands_for.Goals as goal

pub returns-clause-stands : goal.returns-clause-stands
returns-clause-stands c = subst (λ (k : KernelState). (store : Stored) × StandsFor store k.machine k.loaded k.progress.state) c.self.view_is c.law_stands_for.ensures.stands
