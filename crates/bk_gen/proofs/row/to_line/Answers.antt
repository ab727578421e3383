use Rattle.std.proofs.Common.{◌≡◌, ◌==◌, sym, ap, ◌∙◌, arith}
use Rattle.bk_object.specs.Modes.{only, Write}
use Rattle.bk_object.specs.Rows.{given}
use Rattle.bk_gen.specs.Subjects.{line_of}
use Rattle.bk_gen.proofs.Rows.{granted, granted-none, granted-given, granted-passed, granted-all, same_line, other_line}
use Rattle.bk_gen.proofs.row.to_line.Goals as goal
use Rattle.bk_gen.proofs.row.to_line.Goals.{then-subject-line, else-subject-line}

pub loop-subject-init : goal.loop-subject-init
loop-subject-init c = c.new-row.ensures ∙ sym (granted-none (λ subject. line_of subject == c.args.line) (only Write))

pub loop-subject-preserved : goal.loop-subject-preserved
loop-subject-preserved c =
    let n = c.loop-subject.subject in
    elim c.if-subject-line.branch [
      | then-subject-line w ↦
          w.row-is
          ∙ w.add.ensures
          ∙ ap (given n (only Write)) c.loop-subject.invariant
          ∙ granted-given (λ subject. line_of subject == c.args.line) (only Write) n (omega arith) (omega arith) (same_line (line_of n) c.args.line w.if-subject-line.true)
      | else-subject-line w ↦
          w.row-is
          ∙ c.loop-subject.invariant
          ∙ granted-passed (λ subject. line_of subject == c.args.line) (only Write) n (omega arith) (other_line (line_of n) c.args.line w.if-subject-line.false)
    ]

pub returns : goal.returns
returns c =
    let all : c.loop-subject.subject ≡ 8 = omega arith in
    c.loop-subject.invariant
    ∙ ap (granted (λ subject. line_of subject == c.args.line) (only Write)) all
    ∙ granted-all (λ subject. line_of subject == c.args.line) (only Write)
