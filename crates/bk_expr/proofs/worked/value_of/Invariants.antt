use Rattle.std.proofs.Common.{◌≡◌, ◌+◌}
use Rattle.bk_expr.specs.Tree.{plain}
use Rattle.bk_expr.specs.Value.{worked}
use Rattle.bk_expr.specs.Working.{through_all, worked_by, left_of, left_at}
use Rattle.bk_expr.proofs.worked.value_of.Given as goal

abbrev pub invariant-steps : goal.invariant-steps
invariant-steps g l = through_all (g.N.Names.values l.names) l.here l.waiting.items (worked_by (g.N.Names.values l.names) l.here l.step) ≡ worked (g.N.Names.values l.names) l.here (plain l.fn.expr)

abbrev pub decreases-steps : goal.decreases-steps
decreases-steps g l = left_of l.waiting.items + left_at l.step
