-- What waits while an expression is worked out, and what it makes of a part that was worked out.
use Rattle.std.specs.Prelude.{ℕ, ◌+◌, ◌-◌, ◌%◌, ◌^◌, List, [], ◌∷◌}
use Rattle.bk_expr.specs.declared.tree.ExprOp.{ExprOp}
use Rattle.bk_expr.specs.declared.tree.Expr.{Expr}
use Rattle.bk_expr.specs.declared.tree.Expr.TheVariants.{Number, Name, Local, Here, Negate', Binary'}
use Rattle.bk_expr.specs.declared.worked.Waiting.{Waiting}
use Rattle.bk_expr.specs.declared.worked.Waiting.TheVariants.{Negation, Left, Right}
use Rattle.bk_expr.specs.declared.worked.Step.{Step}
use Rattle.bk_expr.specs.declared.worked.Step.TheVariants.{Part, Found}
use Rattle.bk_expr.specs.declared.worked.Worked.{Worked}
use Rattle.bk_expr.specs.declared.worked.Worked.TheVariants.{Value, Undefined, Divide}
use Rattle.bk_expr.specs.Tree.{plain}
use Rattle.bk_expr.specs.Value.{Values, join, or_divide, worked}

-- 0 less a part
abbrev pub negated : Worked → Worked
negated (Value n) = Value ((2 ^ 16 - n) % 2 ^ 16)
negated Undefined = Undefined
negated Divide = Divide

-- two parts joined: undefined where either is, then a division by 0 where either is one
abbrev pub joined : ExprOp → Worked → Worked → Worked
joined op Undefined right = Undefined
joined op (Value a) Undefined = Undefined
joined op Divide Undefined = Undefined
joined op Divide (Value b) = Divide
joined op Divide Divide = Divide
joined op (Value a) Divide = Divide
joined op (Value a) (Value b) = or_divide (join op a b)

-- what one that waits makes of a part
abbrev pub through : Values → ℕ → Waiting → Worked → Worked
through values here Negation part = negated part
through values here (Left op right) part = joined op part (worked values here (plain right.now))
through values here (Right op left) part = joined op left part

-- what all that wait make of a part, the last first
abbrev pub through_all : Values → ℕ → List Waiting → Worked → Worked
through_all values here [] part = part
through_all values here (one ∷ waiting) part = through values here one (through_all values here waiting part)

-- what a step comes to
abbrev pub worked_by : Values → ℕ → Step → Worked
worked_by values here (Part expr) = worked values here (plain expr.now)
worked_by values here (Found part) = part

-- how many steps an expression takes
abbrev pub left_in : Expr → ℕ
left_in (Number n) = 1
left_in (Name name) = 1
left_in (Local n) = 1
left_in Here = 1
left_in (Negate' p inner) = left_in inner + 2
left_in (Binary' op p left q right) = left_in left + left_in right + 3

-- .. what one that waits takes
abbrev pub left_by : Waiting → ℕ
left_by Negation = 1
left_by (Left op right) = left_in right.now + 2
left_by (Right op left) = 1

-- .. a step
abbrev pub left_at : Step → ℕ
left_at (Part expr) = left_in expr.now
left_at (Found part) = 0

-- .. all that wait
abbrev pub left_of : List Waiting → ℕ
left_of [] = 0
left_of (one ∷ waiting) = left_by one + left_of waiting
