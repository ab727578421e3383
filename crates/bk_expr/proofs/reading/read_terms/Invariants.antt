use Rattle.std.proofs.Common.{◌≡◌, ◌+◌, vec_len}
use Rattle.bk_expr.specs.Expression.{expression_at}
use Rattle.bk_expr.specs.Waiting.{through_all, front_of, left_at}
use Rattle.bk_expr.proofs.reading.read_terms.Given as goal

abbrev pub invariant-steps : goal.invariant-steps
invariant-steps l = through_all l.waiting.items (front_of l.step) ≡ expression_at l.fn.text

abbrev pub decreases-steps : goal.decreases-steps
decreases-steps l = vec_len l.waiting + left_at l.step
