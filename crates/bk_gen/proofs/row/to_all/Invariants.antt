use Rattle.std.proofs.Common.{◌≡◌, true}
use Rattle.bk_gen.proofs.Rows.{granted}
use Rattle.bk_gen.proofs.row.to_all.Given as goal

abbrev pub invariant-loop-subject : goal.invariant-loop-subject
invariant-loop-subject l = l.row ≡ granted (λ subject. true) l.modes l.subject
