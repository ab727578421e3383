use Rattle.std.proofs.Common.{◌≡◌}
use Rattle.bk_conf.specs.Ordered.{granted}
use Rattle.bk_conf.proofs.ordered.row_in.Given as goal

abbrev pub invariant-loop-subject : goal.invariant-loop-subject
invariant-loop-subject l = l.row ≡ granted l.rows.entries l.path l.subject
