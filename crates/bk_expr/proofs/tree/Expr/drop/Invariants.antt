use Rattle.bk_expr.specs.Weight.{weight}
use Rattle.bk_expr.proofs.tree.Expr.drop.Given as goal

abbrev pub decreases-turns : goal.decreases-turns
decreases-turns l = weight l.self
