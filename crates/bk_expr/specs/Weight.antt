-- How much of an expression is left to let go.
use Rattle.std.specs.Prelude.{ℕ, ◌+◌, ◌*◌}
use Rattle.bk_expr.specs.declared.tree.Expr.{Expr}
use Rattle.bk_expr.specs.declared.tree.Expr.TheVariants.{Number, Name, Local, Here, Negate', Binary'}

-- what stands on the left counts twice, so that a turn to the right makes it less
abbrev pub weight : Expr → ℕ
weight (Number n) = 1
weight (Name name) = 1
weight (Local n) = 1
weight Here = 1
weight (Negate' p inner) = weight inner + 1
weight (Binary' op p left q right) = 2 * weight left + weight right + 1
