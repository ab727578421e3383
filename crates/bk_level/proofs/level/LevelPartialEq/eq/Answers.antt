use Rattle.std.proofs.Common.{◌∙◌}
use Rattle.bk_level.specs.Levels.{is_same_level}
use Rattle.bk_level.specs.Masks.{level_of}
use Rattle.bk_level.proofs.MaskLemmas.{same_where}
use Rattle.bk_level.proofs.level.LevelPartialEq.eq.Goals as goal

pub returns-then-self-other : goal.returns-then-self-other
returns-then-self-other c =
    same_where (level_of c.self.inside) (level_of c.other.inside) c.mask.result c.mask-then-self-other.result c.if-self-other.true
    c.mask.ensures.small c.mask-then-self-other.ensures.small c.mask.ensures.categories c.mask-then-self-other.ensures.categories
    ∙ (λ i. is_same_level (c.self.view_is i) (c.other.view_is i))
