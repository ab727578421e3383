use Rattle.std.proofs.Common.{◌∙◌, sym, subst}
use Rattle.bk_level.specs.Levels.{Dominates}
use Rattle.bk_level.specs.Masks.{level_of, mask_in, mask_in-small}
use Rattle.bk_level.proofs.MaskLemmas.{same_from_both, level_same}
use Rattle.bk_level.proofs.level.law_antisymmetric.Goals as goal

pub returns : goal.returns
returns c up down =
    sym c.a.view_is
    ∙ level_same c.a.inside.class c.b.inside.class (mask_in c.a.inside.cats) (mask_in c.b.inside.cats) (same_from_both c.a.inside.class c.b.inside.class (mask_in c.a.inside.cats) (mask_in c.b.inside.cats) (mask_in-small c.a.inside c.a.invariant) (mask_in-small c.b.inside c.b.invariant)
    (subst (λ a. Dominates a (level_of c.b.inside)) (sym c.a.view_is) (subst (λ b. Dominates c.args.a b) (sym c.b.view_is) up))
    (subst (λ a. Dominates (level_of c.b.inside) a) (sym c.a.view_is) (subst (λ b. Dominates b c.args.a) (sym c.b.view_is) down)))
    ∙ c.b.view_is
