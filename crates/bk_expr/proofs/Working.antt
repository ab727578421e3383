-- What waits while an expression is worked out: one that comes last comes first to the part.
use Rattle.std.specs.Prelude.{◌≡◌, ℕ, ◌+◌, ◌-◌, ◌%◌, ◌^◌, ◌&&◌, Bool, true, false, if◌then◌else◌, List, [], ◌∷◌, ◌++◌, Option, Some, None, refl}
use Rattle.std.proofs.Common.{ap, arith}
use Rattle.bk_expr.specs.declared.tree.ExprOp.{ExprOp}
use Rattle.bk_expr.specs.declared.worked.Waiting.{Waiting}
use Rattle.bk_expr.specs.declared.worked.Worked.{Worked}
use Rattle.bk_expr.specs.declared.worked.Worked.TheVariants.{Undefined}
use Rattle.bk_expr.specs.Text.{◌>>=◌}
use Rattle.bk_expr.specs.Tree.{Expression, Negate, Binary}
use Rattle.bk_expr.specs.Value.{Values, is_defined, join, value_at, or_divide, worked}
use Rattle.bk_expr.specs.Working.{negated, joined, through, through_all, left_by, left_of}

pub through_last : (values : Values) (here : ℕ) (waiting : List Waiting) (one : Waiting) (part : Worked)
    → through_all values here (waiting ++ (one ∷ [])) part ≡ through_all values here waiting (through values here one part)
through_last values here [] one part = refl
through_last values here (first ∷ waiting) one part = ap (through values here first) (through_last values here waiting one part)

pub left_last : (waiting : List Waiting) (one : Waiting) → left_of (waiting ++ (one ∷ [])) ≡ left_of waiting + left_by one
left_last [] one = omega arith
left_last (first ∷ waiting) one = let e : left_of (waiting ++ (one ∷ [])) ≡ left_of waiting + left_by one = left_last waiting one in omega arith

-- 0 less an expression, by what the expression comes to
pub worked_negate : (values : Values) (here : ℕ) (inner : Expression) → worked values here (Negate inner) ≡ negated (worked values here inner)
worked_negate values here inner = by (is_defined values inner) (value_at values here inner) where
  by : (b : Bool) (o : Option ℕ) → (if b then or_divide (o >>= λ n. Some ((2 ^ 16 - n) % 2 ^ 16)) else Undefined) ≡ negated (if b then or_divide o else Undefined)
  by true None = refl
  by true (Some n) = refl
  by false o = refl

-- two expressions joined, by what they come to
pub worked_binary : (values : Values) (here : ℕ) (op : ExprOp) (left right : Expression)
    → worked values here (Binary op left right) ≡ joined op (worked values here left) (worked values here right)
worked_binary values here op left right = by (is_defined values left) (is_defined values right) (value_at values here left) (value_at values here right) where
  by : (b d : Bool) (o p : Option ℕ)
      → (if b && d then or_divide (o >>= λ m. p >>= λ n. join op m n) else Undefined) ≡ joined op (if b then or_divide o else Undefined) (if d then or_divide p else Undefined)
  by true true None None = refl
  by true true None (Some n) = refl
  by true true (Some m) None = refl
  by true true (Some m) (Some n) = refl
  by true false None p = refl
  by true false (Some m) p = refl
  by false d o p = refl
