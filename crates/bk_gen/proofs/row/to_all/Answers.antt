use Rattle.std.proofs.Common.{◌≡◌, true, refl, sym, ap, ◌∙◌, arith}
use Rattle.bk_object.specs.Rows.{given}
use Rattle.bk_gen.proofs.Rows.{granted, granted-none, granted-given, granted-all}
use Rattle.bk_gen.proofs.row.to_all.Goals as goal

pub loop-subject-init : goal.loop-subject-init
loop-subject-init c = c.new-row.ensures ∙ sym (granted-none (λ subject. true) c.args.modes)

pub loop-subject-preserved : goal.loop-subject-preserved
loop-subject-preserved c =
    c.add.ensures
    ∙ ap (given c.loop-subject.subject c.args.modes) c.loop-subject.invariant
    ∙ granted-given (λ subject. true) c.args.modes c.loop-subject.subject (omega arith) c.requires refl

pub returns : goal.returns
returns c =
    let all : c.loop-subject.subject ≡ 8 = omega arith in
    c.loop-subject.invariant ∙ ap (granted (λ subject. true) c.args.modes) all ∙ granted-all (λ subject. true) c.args.modes
