use Rattle.std.proofs.Common.{◌-◌, ◌*◌, ◌≤◌, length, refl, ap, sym, ◌∙◌, arith}
use Rattle.std.proofs.Math.ListN.{drop_of_length-le}
use Rattle.bk_object.specs.Kinds.{kind_modes}
use Rattle.bk_object.specs.Modes.{is_within}
use Rattle.bk_object.specs.Pairs.{split_pairs}
use Rattle.bk_image.specs.Objects.{fits_modes}
use Rattle.bk_image.proofs.Pairs.{length-split_pairs, all_before}
use Rattle.bk_image.proofs.row.fits_modes.Goals as goal

pub returns : goal.returns
returns c =
    let sets = split_pairs c.args.pairs.now in
    let past : length sets ≤ c.loop-subject.subject = omega (arith, c.loop-subject-test.false, c.subjects_in-subject-end.ensures, length-split_pairs c.args.pairs.now) in
    sym (ap (fits_modes c.args.kind) (drop_of_length-le sets past))
    ∙ c.loop-subject.invariant
    ∙ sym (all_before (λ modes. is_within modes (kind_modes c.args.kind)) refl sets (64 - 2 * length c.args.pairs.now) 0)
