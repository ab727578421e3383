use Rattle.std.proofs.Common.{◌≡◌, ◌≤◌, ◌≢◌, length, sym, ap, subst, ◌∙◌, arith}
use Rattle.bk_object.specs.declared.modes.Modes.{Modes}
use Rattle.bk_object.specs.Rows.{in_row}
use Rattle.bk_image.proofs.Pairs.{none_from, some_from}
use Rattle.bk_image.proofs.writing.fits_subjects.Goals as goal

pub returns-then-subject-subjects : goal.returns-then-subject-subjects
returns-then-subject-subjects c =
    let row = c.args.row.now in
    let subject = c.loop-subject.subject in
    let some : (in_row row subject).0 ≢ 0 = subst (λ k. k ≢ 0) (c.bits.ensures tt ∙ ap (λ (modes : Modes). modes.0) c.get.ensures.value) c.if-bits-ne0.true in
    sym (some_from row c.args.subjects subject (omega arith) (omega (arith, c.get.ensures.sets, c.loop-subject-test.true)) some)

pub returns : goal.returns
returns c =
    let row = c.args.row.now in
    let last : 64 ≤ c.loop-subject.subject = omega (arith, c.loop-subject-test.false) in
    let whole : length row ≡ 64 = c.loop-subject.invariant.sets (omega (arith, last)) in
    sym (none_from row c.args.subjects (λ subject from below. c.loop-subject.invariant.none subject from (omega (arith, below, whole, last))))
