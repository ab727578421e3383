use Rattle.std.proofs.Common.{◌∙◌, ◌+◌, ◌*◌, ap, sym}
use Rattle.bk_level.specs.Masks.{mask_of, mask_in, mask_in-small, mask_of-categories_of}
use Rattle.bk_level.proofs.MaskLemmas.{mask_in-three}
use Rattle.bk_level.proofs.level.Level.mask.Goals as goal

pub returns-clause-value : goal.returns-clause-value
returns-clause-value c =
    (λ i. c.from.ensures i + c.from-2.ensures i * 65536 + c.from-3.ensures i * 4294967296)
    ∙ mask_in-three c.self.inside.cats c.self.invariant.three
    ∙ sym (mask_of-categories_of (mask_in c.self.inside.cats) (mask_in-small c.self.inside c.self.invariant))
    ∙ ap (λ level. mask_of level.categories) c.self.view_is
