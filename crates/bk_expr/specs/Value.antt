-- What an expression comes to.
use Rattle.std.specs.Prelude.{ℕ, ◌+◌, ◌-◌, ◌*◌, ◌/◌, ◌%◌, ◌^◌, ◌==◌, Bool, true, ◌&&◌, if◌then◌else◌, List, Option, Some, None, is_some, bit_and, bit_or}
use Rattle.bk_expr.specs.declared.tree.ExprOp.{ExprOp}
use Rattle.bk_expr.specs.declared.tree.ExprOp.TheVariants.{Add, Sub, Mul, Div, And, Or}
use Rattle.bk_expr.specs.declared.worked.Worked.{Worked}
use Rattle.bk_expr.specs.declared.worked.Worked.TheVariants.{Value, Undefined, Divide}
use Rattle.bk_expr.specs.Text.{◌>>=◌}
use Rattle.bk_expr.specs.Tree.{Expression, Number, Name, Local, Here, Negate, Binary}

-- the values of names and of local labels, where they have one
pub record Values : Type 0 where
  pub name : List ℕ → Option ℕ
  pub local : ℕ → Option ℕ

-- each name and local label of the expression has a value
abbrev pub is_defined : Values → Expression → Bool
is_defined values (Number n) = true
is_defined values (Name name) = is_some (values.name name)
is_defined values (Local n) = is_some (values.local n)
is_defined values Here = true
is_defined values (Negate inner) = is_defined values inner
is_defined values (Binary op left right) = is_defined values left && is_defined values right

-- two values joined, modulo 65,536; a quotient is unsigned and truncated, and there is none by 0
abbrev pub join : ExprOp → ℕ → ℕ → Option ℕ
join Add a b = Some ((a + b) % 2 ^ 16)
join Sub a b = Some ((a + 2 ^ 16 - b) % 2 ^ 16)
join Mul a b = Some (a * b % 2 ^ 16)
join Div a b = if b == 0 then None else Some (a / b)
join And a b = Some (bit_and a b)
join Or a b = Some (bit_or a b)

-- the value of an expression whose words stand at an address; none where a part has none
abbrev pub value_at : Values → (here : ℕ) → Expression → Option ℕ
value_at values here (Number n) = Some n
value_at values here (Name name) = values.name name
value_at values here (Local n) = values.local n
value_at values here Here = Some here
value_at values here (Negate inner) = do
  n ← value_at values here inner
  Some ((2 ^ 16 - n) % 2 ^ 16)
value_at values here (Binary op left right) = do
  a ← value_at values here left
  b ← value_at values here right
  join op a b

-- a value, or a division by 0
abbrev pub or_divide : Option ℕ → Worked
or_divide None = Divide
or_divide (Some n) = Value n

-- what an expression comes to: undefined where one of its names or local labels is, else by its value
abbrev pub worked : Values → (here : ℕ) → Expression → Worked
worked values here expression = if is_defined values expression then or_divide (value_at values here expression) else Undefined
