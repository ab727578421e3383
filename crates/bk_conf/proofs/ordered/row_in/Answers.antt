use Rattle.std.proofs.Common.{◌≡◌, ◌∙◌, ap, sym, arith}
use Rattle.bk_object.specs.Rows.{given}
use Rattle.bk_conf.specs.Ordered.{granted}
use Rattle.bk_conf.proofs.Granted.{granted_none, granted_next}
use Rattle.bk_conf.proofs.ordered.row_in.Goals as goal

pub loop-subject-init : goal.loop-subject-init
loop-subject-init c = c.new-row.ensures ∙ sym (granted_none c.args.rows.now.entries c.args.path)

pub loop-subject-preserved : goal.loop-subject-preserved
loop-subject-preserved c =
    c.add.ensures
    ∙ ap (λ modes. given c.loop-subject.subject modes c.loop-subject.row) c.modes_at.ensures
    ∙ ap (given c.loop-subject.subject _) c.loop-subject.invariant
    ∙ sym (granted_next c.args.rows.now.entries c.args.path c.loop-subject.subject)

pub returns : goal.returns
returns c =
    let all : c.loop-subject.subject ≡ 64 = omega arith in
    c.loop-subject.invariant ∙ ap (granted c.args.rows.now.entries c.args.path) all
