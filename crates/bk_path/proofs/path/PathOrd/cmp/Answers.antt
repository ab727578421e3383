use Rattle.std.proofs.Common.{◌∙◌}
use Rattle.std.specs.Ordering.{nat_cmp}
use Rattle.bk_path.proofs.KeyOrder.{key-order}
use Rattle.bk_path.proofs.path.PathOrd.cmp.Goals as goal

pub returns : goal.returns
returns c = c.cmp.ensures ∙ (λ i. nat_cmp (c.key.ensures.value i) (c.key-2.ensures.value i)) ∙ key-order c.args.self.now c.args.other.now c.key.ensures.path c.key-2.ensures.path
