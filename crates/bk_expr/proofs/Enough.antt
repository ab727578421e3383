-- A reading is the same under every bound that the bytes fit in, so that the grammar holds without one.
use Rattle.std.specs.Prelude.{◌≡◌, ℕ, zero, suc, ◌<◌, ◌≤◌, List, [], ◌∷◌, length, Option, Some, None, refl}
use Rattle.std.proofs.Common.{ap, sym, ◌∙◌, arith}
use Rattle.bk_expr.specs.declared.reading.Opening.{Opening}
use Rattle.bk_expr.specs.declared.reading.Opening.TheVariants.{Plus, Minus, Bracket, Quote, Run}
use Rattle.bk_expr.specs.declared.tree.ExprOp.{ExprOp}
use Rattle.bk_expr.specs.Expression.{operator_at, opening, term_by, term_in, ends_or, term_within, more_within, term_at, more_at, expression_at}
use Rattle.bk_expr.specs.Text.{◌>>=◌, past_blanks, sign_at}
use Rattle.bk_expr.specs.Tree.{Expression, Negate, Binary}
use Rattle.bk_expr.proofs.Shorter.{Under, past_blanks-le, operator_at-shorter, under_term}

-- two ways to go on that agree on what is left
then_same : (k : ℕ) (x y : Option (Expression × List ℕ)) (go on : Expression × List ℕ → Option (Expression × List ℕ)) → x ≡ y → Under k x
    → ((p : Expression × List ℕ) → length p.1 < k → go p ≡ on p) → (x >>= go) ≡ (y >>= on)
then_same k None y go on e h q = ap (λ z. z >>= on) e
then_same k (Some p) y go on e h q = q p h ∙ ap (λ z. z >>= on) e

-- two readings of terms and expressions that agree on what is left
by_same : (k : ℕ) (t u e f : List ℕ → Option (Expression × List ℕ)) → ((s : List ℕ) → length s ≤ k → t s ≡ u s) → ((s : List ℕ) → length s ≤ k → e s ≡ f s)
    → (o : Opening) (from text : List ℕ) → length text ≤ k → term_by t e o from text ≡ term_by u f o from text
by_same k t u e f p q Plus from text h = p text h
by_same k t u e f p q Minus from text h = ap (λ z. z >>= λ inner. Some (Negate inner.0, inner.1)) (p text h)
by_same k t u e f p q Bracket from text h = ap (λ z. z >>= λ inner. sign_at 62 inner.1 >>= λ rest. Some (inner.0, rest)) (q text h)
by_same k t u e f p q Quote from text h = refl
by_same k t u e f p q Run from text h = refl

in_same : (k : ℕ) (t u e f : List ℕ → Option (Expression × List ℕ)) → ((s : List ℕ) → length s ≤ k → t s ≡ u s) → ((s : List ℕ) → length s ≤ k → e s ≡ f s)
    → (from : List ℕ) → length from ≤ suc k → term_in t e from ≡ term_in u f from
in_same k t u e f p q [] h = refl
in_same k t u e f p q (c ∷ text) h = by_same k t u e f p q (opening c) (c ∷ text) text (omega arith)

ends_same : (end : Expression × List ℕ) (go on : ExprOp → List ℕ → Option (Expression × List ℕ)) (k : ℕ) (o : Option (ExprOp × List ℕ)) → Under k o
    → ((op : ExprOp) (rest : List ℕ) → length rest < k → go op rest ≡ on op rest) → ends_or end go o ≡ ends_or end on o
ends_same end go on k None h q = refl
ends_same end go on k (Some op) h q = q op.0 op.1 h

mutual
  pub term_enough : (n m : ℕ) (s : List ℕ) → length s ≤ n → length s ≤ m → term_within n s ≡ term_within m s
  term_enough zero zero s h k = refl
  term_enough zero (suc m) [] h k = refl
  term_enough zero (suc m) (c ∷ s) h k = absurd (let f : ⊥ = omega arith in f)
  term_enough (suc n) zero [] h k = refl
  term_enough (suc n) zero (c ∷ s) h k = absurd (let f : ⊥ = omega arith in f)
  term_enough (suc n) (suc m) [] h k = refl
  term_enough (suc n) (suc m) (c ∷ s) h k =
      in_same (length s) (term_within n) (term_within m) _ _
      (λ t l. term_enough n m t (omega arith) (omega arith))
      (λ t l. then_same (length t) (term_within n t) (term_within m t) _ _ (term_enough n m t (omega arith) (omega arith)) (under_term n t)
      (λ first d. more_enough n m first.0 first.1 (omega arith) (omega arith)))
      (past_blanks (c ∷ s)) (omega (arith, past_blanks-le (c ∷ s)))

  pub more_enough : (n m : ℕ) (left : Expression) (s : List ℕ) → length s ≤ n → length s ≤ m → more_within n left s ≡ more_within m left s
  more_enough zero zero left s h k = refl
  more_enough zero (suc m) left [] h k = refl
  more_enough zero (suc m) left (c ∷ s) h k = absurd (let f : ⊥ = omega arith in f)
  more_enough (suc n) zero left [] h k = refl
  more_enough (suc n) zero left (c ∷ s) h k = absurd (let f : ⊥ = omega arith in f)
  more_enough (suc n) (suc m) left s h k =
      ends_same (left, s) _ _ (length s) (operator_at s) (operator_at-shorter s)
      (λ op rest l. then_same (length rest) (term_within n rest) (term_within m rest) _ _ (term_enough n m rest (omega arith) (omega arith)) (under_term n rest)
      (λ right d. more_enough n m (Binary op left right.0) right.1 (omega arith) (omega arith)))

-- a term by its first byte, without a bound
pub term_opens : (text : List ℕ) → term_at text ≡ term_in term_at expression_at (past_blanks text)
term_opens [] = refl
term_opens (c ∷ s) =
    let m : suc (length s) ≡ length (c ∷ s) = omega arith in
    let n = length s in
    sym (ap (λ k. term_within k (c ∷ s)) m)
    ∙ in_same n (term_within n) term_at _ expression_at
    (λ t l. term_enough n (length t) t l (omega arith))
    (λ t l. then_same (length t) (term_within n t) (term_at t) _ _ (term_enough n (length t) t l (omega arith)) (under_term n t)
    (λ first d. more_enough n (length first.1) first.0 first.1 (omega arith) (omega arith)))
    (past_blanks (c ∷ s)) (omega (arith, past_blanks-le (c ∷ s)))

-- what follows a term, without a bound
pub more_opens : (left : Expression) (text : List ℕ)
    → more_at left text ≡ ends_or (left, text) (λ op rest. term_at rest >>= λ right. more_at (Binary op left right.0) right.1) (operator_at text)
more_opens left [] = refl
more_opens left (c ∷ s) =
    let m : suc (length s) ≡ length (c ∷ s) = omega arith in
    let n = length s in
    sym (ap (λ k. more_within k left (c ∷ s)) m)
    ∙ ends_same (left, c ∷ s) _ _ (length (c ∷ s)) (operator_at (c ∷ s)) (operator_at-shorter (c ∷ s))
    (λ op rest l. then_same (length rest) (term_within n rest) (term_at rest) _ _ (term_enough n (length rest) rest (omega arith) (omega arith)) (under_term n rest)
    (λ right d. more_enough n (length right.1) (Binary op left right.0) right.1 (omega arith) (omega arith)))
