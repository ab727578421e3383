-- What waits while an expression is read, and what it makes of a part that was read.
use Rattle.std.specs.Prelude.{ℕ, ◌+◌, ◌*◌, List, [], ◌∷◌, length, Some, None}
use Rattle.bk_expr.specs.declared.reading.Waiting.{Waiting}
use Rattle.bk_expr.specs.declared.reading.Waiting.TheVariants.{Negation, Closing, More, Right}
use Rattle.bk_expr.specs.declared.reading.Step.{Step}
use Rattle.bk_expr.specs.declared.reading.Step.TheVariants.{Term, Read, Nothing}
use Rattle.bk_expr.specs.Expression.{term_at, more_at}
use Rattle.bk_expr.specs.Text.{◌>>=◌, Front, sign_at}
use Rattle.bk_expr.specs.Tree.{Expression, Negate, Binary, plain}

-- what one that waits makes of a part
abbrev pub through : Waiting → Front Expression → Front Expression
through Negation front = front >>= λ inner. Some (Negate inner.0, inner.1)
through Closing front = front >>= λ inner. sign_at 62 inner.1 >>= λ rest. Some (inner.0, rest)
through More front = front >>= λ first. more_at first.0 first.1
through (Right op left) front = front >>= λ right. more_at (Binary op (plain left) right.0) right.1

-- what all that wait make of a part, the last first
abbrev pub through_all : List Waiting → Front Expression → Front Expression
through_all [] front = front
through_all (one ∷ waiting) front = through one (through_all waiting front)

-- the part that a step comes to
abbrev pub front_of : Step → Front Expression
front_of (Term text) = term_at text.now
front_of (Read expr text) = Some (plain expr, text.now)
front_of Nothing = None

-- how much is left to read, but for what waits
abbrev pub left_at : Step → ℕ
left_at (Term text) = 3 * length text.now + 1
left_at (Read expr text) = 3 * length text.now
left_at Nothing = 0
