-- Expressions of assembly text, by their grammar.
use Rattle.std.specs.Prelude.{ℕ, zero, suc, ◌==◌, if◌then◌else◌, List, [], ◌∷◌, length, bytes_eq, codes, Option, Some, None, option_map}
use Rattle.std.specs.Option.{option_or}
use Rattle.bk_expr.specs.declared.reading.Opening.{Opening}
use Rattle.bk_expr.specs.declared.reading.Opening.TheVariants.{Plus, Minus, Bracket, Quote, Run}
use Rattle.bk_expr.specs.declared.tree.ExprOp.{ExprOp}
use Rattle.bk_expr.specs.declared.tree.ExprOp.TheVariants.{Add, Sub, Mul, Div, And, Or}
use Rattle.bk_expr.specs.Names.{name_of, number_of, local_of}
use Rattle.bk_expr.specs.Text.{◌>>=◌, Front, is_of_text, past_blanks, in_run, sign_at}
use Rattle.bk_expr.specs.Tree.{Expression, Number, Name, Local, Here, Negate, Binary}

-- the operators: + - * / & !
abbrev pub operator : ℕ → Option ExprOp
operator c =
    if c == 43 then Some Add
    else if c == 45 then Some Sub
    else if c == 42 then Some Mul
    else if c == 47 then Some Div
    else if c == 38 then Some And
    else if c == 33 then Some Or
    else None

-- an operator at the very front of a text
abbrev pub operator_in : List ℕ → Front ExprOp
operator_in [] = None
operator_in (c ∷ text) = option_map (λ op. (op, text)) (operator c)

-- .. blanks before it
abbrev pub operator_at : List ℕ → Front ExprOp
operator_at text = operator_in (past_blanks text)

-- a character at the very front of a text, kept as it is
abbrev pub character_in : List ℕ → Front Expression
character_in [] = None
character_in (c ∷ text) = if is_of_text c then Some (Number c, text) else None

-- the term that a run is: `.`, a number, a local label or a name
unfoldable pub term_of_run : List ℕ → Option Expression
term_of_run run =
    if bytes_eq run (codes ".") then Some Here
    else option_or (option_map Number (number_of run)) (option_or (option_map Local (local_of run)) (option_map Name (name_of run)))

-- how a term begins, by its first byte
abbrev pub opening : ℕ → Opening
opening c = if c == 43 then Plus else if c == 45 then Minus else if c == 60 then Bracket else if c == 39 then Quote else Run

-- a term by how it begins, from its first byte on and after it: + and a term, - and a term, an expression between < and >,
-- ' and a character, or a run
abbrev pub term_by : (term expression : List ℕ → Front Expression) → Opening → (from text : List ℕ) → Front Expression
term_by term expression Plus from text = term text
term_by term expression Minus from text = do
  inner ← term text
  Some (Negate inner.0, inner.1)
term_by term expression Bracket from text = do
  inner ← expression text
  rest ← sign_at 62 inner.1
  Some (inner.0, rest)
term_by term expression Quote from text = character_in text
term_by term expression Run from text = in_run term_of_run from

-- a term at the very front of a text
abbrev pub term_in : (term expression : List ℕ → Front Expression) → List ℕ → Front Expression
term_in term expression [] = None
term_in term expression (c ∷ text) = term_by term expression (opening c) (c ∷ text) text

-- where no operator follows, an expression ends; otherwise a term must follow that
abbrev pub ends_or : Expression × List ℕ → (ExprOp → List ℕ → Front Expression) → Front ExprOp → Front Expression
ends_or end joined None = Some end
ends_or end joined (Some op) = joined op.0 op.1

-- n bounds how many bytes are read
abbrev mutual
  -- a term at the front of a text
  pub term_within : ℕ → List ℕ → Front Expression
  term_within zero text = None
  term_within (suc n) text = term_in (term_within n) (λ inside. term_within n inside >>= λ first. more_within n first.0 first.1) (past_blanks text)

  -- an expression by its first term and the text after that: operators and terms follow, joined from left to right
  pub more_within : ℕ → Expression → List ℕ → Front Expression
  more_within zero left text = Some (left, text)
  more_within (suc n) left text =
      ends_or (left, text) (λ op rest. term_within n rest >>= λ right. more_within n (Binary op left right.0) right.1) (operator_at text)

-- a term at the front of a text
abbrev pub term_at : List ℕ → Front Expression
term_at text = term_within (length text) text

-- an expression by its first term and the text after that
abbrev pub more_at : Expression → List ℕ → Front Expression
more_at left text = more_within (length text) left text

-- the term at the front of a text joined to what stands before, and what follows it
abbrev pub joined_at : Expression → ExprOp → List ℕ → Front Expression
joined_at left op text = do
  right ← term_at text
  more_at (Binary op left right.0) right.1

-- an expression at the front of a text
abbrev pub expression_at : List ℕ → Front Expression
expression_at text = do
  first ← term_at text
  more_at first.0 first.1
