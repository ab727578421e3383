use Rattle.std.proofs.Common.{◌≤◌, ◌∙◌, sym, ap, arith}
use Rattle.bk_level.proofs.MaskLemmas.{dominates_where}
use Rattle.bk_level.proofs.level.Level.has_at_least.Goals as goal

pub returns-then-other-self : goal.returns-then-other-self
returns-then-other-self c =
    let above = ap (λ level. level.class) c.self.view_is in
    let below = ap (λ level. level.class) c.other.view_is in
    let le : c.args.other.class ≤ c.args.self.class = let inside = c.if-other-self.true in omega (arith, above, below, inside) in
    dominates_where c.args.self c.args.other c.mask-then-other-self.result c.mask.result c.mask-then-other-self-2.result le
    c.mask-then-other-self.ensures.small c.mask.ensures.small c.mask-then-other-self.ensures.categories c.mask.ensures.categories
    (c.mask-then-other-self-2.ensures.value ∙ sym c.mask.ensures.value)
