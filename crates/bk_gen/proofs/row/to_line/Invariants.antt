use Rattle.std.proofs.Common.{◌≡◌, ◌==◌}
use Rattle.bk_object.specs.Modes.{only, Write}
use Rattle.bk_gen.specs.Subjects.{line_of}
use Rattle.bk_gen.proofs.Rows.{granted}
use Rattle.bk_gen.proofs.row.to_line.Given as goal

abbrev pub invariant-loop-subject : goal.invariant-loop-subject
invariant-loop-subject l = l.row ≡ granted (λ subject. line_of subject == l.line) (only Write) l.subject
