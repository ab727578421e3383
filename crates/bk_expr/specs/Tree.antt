-- An expression as a plain tree, without the boxes that hold its parts in memory.
use Rattle.std.specs.Prelude.{ℕ, List}
use Rattle.bk_expr.specs.declared.tree.Expr.{Expr}
use Rattle.bk_expr.specs.declared.tree.Expr.TheVariants as boxed
use Rattle.bk_expr.specs.declared.tree.ExprOp.{ExprOp}

-- an expression; a name is in upper case
pub data Expression : Type 0 where
  Number : ℕ → Expression
  Name : List ℕ → Expression
  Local : ℕ → Expression
  Here : Expression
  Negate : Expression → Expression
  Binary : ExprOp → Expression → Expression → Expression

-- the tree that an expression in memory is
abbrev pub plain : Expr → Expression
plain (boxed.Number n) = Number n
plain (boxed.Name name) = Name name
plain (boxed.Local n) = Local n
plain boxed.Here = Here
plain (boxed.Negate' p inner) = Negate (plain inner)
plain (boxed.Binary' op p left q right) = Binary op (plain left) (plain right)
