use Rattle.std.proofs.Common.{◌≡◌, suc, ◌+◌, ◌-◌, ◌*◌, ◌++◌, ◌≤◌, take, length, replicate, ap, ◌∙◌, arith}
use Rattle.bk_object.specs.Modes.{no_modes}
use Rattle.bk_object.specs.Pairs.{split_pairs}
use Rattle.bk_object.specs.Rows.{given}
use Rattle.bk_image.proofs.Pairs.{length-split_pairs, take_length, one_more}
use Rattle.bk_image.proofs.row.row_of.Goals as goal

pub loop-subject-preserved : goal.loop-subject-preserved
loop-subject-preserved c =
    let sets = split_pairs c.args.pairs.now in
    let s = c.loop-subject.subject in
    let below : s + 1 ≤ 64 = omega (arith, c.loop-subject-test.true, c.subjects_in-subject-end.ensures, c.requires) in
    let left : 64 - s ≡ suc (64 - (s + 1)) = omega (arith, below) in
    let next : suc s ≡ s + 1 = omega arith in
    c.add.ensures
    ∙ ap (given s c.modes_at.result) (c.loop-subject.invariant ∙ ap (λ n. take s sets ++ replicate n no_modes) left)
    ∙ one_more sets s (64 - (s + 1)) c.modes_at.result (omega (arith, length-split_pairs c.args.pairs.now, c.subjects_in-subject-end.ensures, c.loop-subject-test.true)) c.modes_at.ensures.value c.modes_at.ensures.four
    ∙ ap (λ n. take n sets ++ replicate (64 - (s + 1)) no_modes) next

pub returns : goal.returns
returns c =
    let sets = split_pairs c.args.pairs.now in
    let last : c.loop-subject.subject ≡ 2 * length c.args.pairs.now = omega (arith, c.loop-subject-test.false, c.loop-subject.auto.subject-end, c.subjects_in-subject-end.ensures) in
    let many : c.loop-subject.subject ≡ length sets = omega (arith, last, length-split_pairs c.args.pairs.now) in
    c.loop-subject.invariant
    ∙ (λ i. take (many i) sets ++ replicate (64 - last i) no_modes)
    ∙ ap (λ all. all ++ replicate (64 - 2 * length c.args.pairs.now) no_modes) (take_length sets)
