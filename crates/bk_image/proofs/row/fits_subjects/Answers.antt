use Rattle.std.proofs.Common.{◌-◌, ◌*◌, ◌≤◌, length, refl, ap, sym, ◌∙◌, arith}
use Rattle.std.proofs.Math.ListN.{drop_of_length-le}
use Rattle.std.specs.Prelude.{◌==◌}
use Rattle.std.specs.List.{list_all}
use Rattle.bk_object.specs.Pairs.{split_pairs}
use Rattle.bk_image.proofs.Pairs.{length-split_pairs, all_before}
use Rattle.bk_image.proofs.row.fits_subjects.Goals as goal

pub returns : goal.returns
returns c =
    let sets = split_pairs c.args.pairs.now in
    let past : length sets ≤ c.loop-subject.subject = omega (arith, c.loop-subject-test.false, c.subjects_in-subject-end.ensures, length-split_pairs c.args.pairs.now) in
    sym (ap (list_all (λ modes. modes.0 == 0)) (drop_of_length-le sets past))
    ∙ c.loop-subject.invariant
    ∙ sym (all_before (λ modes. modes.0 == 0) refl sets (64 - 2 * length c.args.pairs.now) c.args.subjects)
