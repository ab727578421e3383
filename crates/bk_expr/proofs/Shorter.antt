-- What is read leaves fewer bytes than it was read from.
use Rattle.std.specs.Prelude.{◌≡◌, ℕ, zero, suc, ◌<◌, ◌≤◌, Bool, true, false, ◌==◌, if◌then◌else◌, List, [], ◌∷◌, length, take, drop, Option, Some}
use Rattle.std.specs.Prelude.{None, option_map}
use Rattle.std.specs.List.{prefix_len}
use Rattle.std.proofs.Common.{arith, length-drop, refl}
use Rattle.std.proofs.lemmas.List.Sums.{prefix_len-le-length}
use Rattle.bk_expr.specs.declared.reading.Opening.{Opening}
use Rattle.bk_expr.specs.declared.reading.Opening.TheVariants.{Plus, Minus, Bracket, Quote, Run}
use Rattle.bk_expr.specs.declared.tree.ExprOp.{ExprOp}
use Rattle.bk_expr.specs.Expression.{operator, operator_in, operator_at, character_in, term_of_run, opening, term_by, term_in, ends_or, term_within}
use Rattle.bk_expr.specs.Expression.{more_within, term_at, more_at, expression_at}
use Rattle.bk_expr.specs.Names.{is_name, number_of, local_of}
use Rattle.bk_expr.specs.Text.{◌>>=◌, is_of_text, is_blank, is_of_run, past_blanks, in_run, sign_in, sign_at}
use Rattle.bk_expr.specs.Tree.{Expression, Number, Binary}

-- what follows has fewer bytes than k
abbrev pub Under : {X : Type 0} → ℕ → Option (X × List ℕ) → Type 0
Under k None = Unit {0}
Under k (Some front) = length front.1 < k

-- .. where there is nothing but that
abbrev pub UnderRest : ℕ → Option (List ℕ) → Type 0
UnderRest k None = Unit {0}
UnderRest k (Some rest) = length rest < k

pub under_map : {X : Type 0} (k : ℕ) (rest : List ℕ) (o : Option X) → length rest < k → Under k (option_map (λ x. (x, rest)) o)
under_map k rest None h = tt
under_map k rest (Some x) h = h

pub under_more : {X : Type 0} (k m : ℕ) (front : Option (X × List ℕ)) → k ≤ m → Under k front → Under m front
under_more k m None h p = tt
under_more k m (Some y) h p = omega arith

pub under_then : {X Y : Type 0} (k m : ℕ) (front : Option (X × List ℕ)) (go : X × List ℕ → Option (Y × List ℕ)) → Under k front
    → ((p : X × List ℕ) → length p.1 < k → Under m (go p)) → Under m (front >>= go)
under_then k m None go h q = tt
under_then k m (Some p) go h q = q p h

pub past_blanks-le : (text : List ℕ) → length (past_blanks text) ≤ length text
past_blanks-le text = omega (arith, length-drop (prefix_len is_blank text) text)

sign_in-shorter : (sign : ℕ) (text : List ℕ) → UnderRest (length text) (sign_in sign text)
sign_in-shorter sign [] = tt
sign_in-shorter sign (c ∷ text) = by (c == sign) where
  by : (b : Bool) → UnderRest (length (c ∷ text)) (if b then Some text else None)
  by true = omega arith
  by false = tt

rest_then : (k m : ℕ) (x : Expression) (o : Option (List ℕ)) → k ≤ m → UnderRest k o → Under m (o >>= λ rest. Some (x, rest))
rest_then k m x None h p = tt
rest_then k m x (Some rest) h p = omega arith

under_sign : (m sign : ℕ) (x : Expression) (text : List ℕ) → length text < m → Under m (sign_at sign text >>= λ rest. Some (x, rest))
under_sign m sign x text h = rest_then (length (past_blanks text)) m x (sign_at sign text) (omega (arith, past_blanks-le text)) (sign_in-shorter sign (past_blanks text))

operator_in-shorter : (text : List ℕ) → Under (length text) (operator_in text)
operator_in-shorter [] = tt
operator_in-shorter (c ∷ text) = under_map (length (c ∷ text)) text (operator c) (omega arith)

pub operator_at-shorter : (text : List ℕ) → Under (length text) (operator_at text)
operator_at-shorter text = under_more (length (past_blanks text)) (length text) (operator_at text) (past_blanks-le text) (operator_in-shorter (past_blanks text))

character_in-shorter : (text : List ℕ) → Under (length text) (character_in text)
character_in-shorter [] = tt
character_in-shorter (c ∷ text) = by (is_of_text c) where
  by : (b : Bool) → Under (length (c ∷ text)) (if b then Some (Number c, text) else None)
  by true = omega arith
  by false = tt

-- a run that is something isn't empty
pub in_run-shorter : {X : Type 0} (of_run : List ℕ → Option X) → of_run [] ≡ None → (text : List ℕ) → Under (length text) (in_run of_run text)
in_run-shorter of_run none text = by (prefix_len is_of_run (past_blanks text)) (prefix_len-le-length is_of_run (past_blanks text)) where
  by : (k : ℕ) → k ≤ length (past_blanks text) → Under (length text) (option_map (λ x. (x, drop k (past_blanks text))) (of_run (take k (past_blanks text))))
  by zero h = rw none tt
  by (suc k) h = under_map (length text) (drop (suc k) (past_blanks text)) (of_run (take (suc k) (past_blanks text)))
      (omega (arith, length-drop (suc k) (past_blanks text), past_blanks-le text))

term_of_run-empty : term_of_run [] ≡ None
unfolding term_of_run number_of local_of is_name
term_of_run-empty = refl

under_by : (term expression : List ℕ → Option (Expression × List ℕ)) → ((s : List ℕ) → Under (length s) (term s)) → ((s : List ℕ) → Under (length s) (expression s))
    → (o : Opening) (c : ℕ) (text : List ℕ) → Under (length (c ∷ text)) (term_by term expression o (c ∷ text) text)
under_by term expression p q Plus c text = under_more (length text) (length (c ∷ text)) (term text) (omega arith) (p text)
under_by term expression p q Minus c text = under_then (length text) (length (c ∷ text)) (term text) _ (p text) (λ inner h. omega arith)
under_by term expression p q Bracket c text =
    under_then (length text) (length (c ∷ text)) (expression text) _ (q text) (λ inner h. under_sign (length (c ∷ text)) 62 inner.0 inner.1 (omega arith))
under_by term expression p q Quote c text = under_more (length text) (length (c ∷ text)) (character_in text) (omega arith) (character_in-shorter text)
under_by term expression p q Run c text = in_run-shorter term_of_run term_of_run-empty (c ∷ text)

under_in : (term expression : List ℕ → Option (Expression × List ℕ)) → ((s : List ℕ) → Under (length s) (term s)) → ((s : List ℕ) → Under (length s) (expression s))
    → (from : List ℕ) → Under (length from) (term_in term expression from)
under_in term expression p q [] = tt
under_in term expression p q (c ∷ text) = under_by term expression p q (opening c) c text

under_ends : (m : ℕ) (end : Expression × List ℕ) (joined : ExprOp → List ℕ → Option (Expression × List ℕ)) (o : Option (ExprOp × List ℕ)) → length end.1 < m
    → Under m o → ((op : ExprOp) (rest : List ℕ) → length rest < m → Under m (joined op rest)) → Under m (ends_or end joined o)
under_ends m end joined None h p q = h
under_ends m end joined (Some op) h p q = q op.0 op.1 p

mutual
  pub under_term : (n : ℕ) (text : List ℕ) → Under (length text) (term_within n text)
  under_term zero text = tt
  under_term (suc n) text =
      under_more (length (past_blanks text)) (length text) (term_within (suc n) text) (past_blanks-le text)
      (under_in (term_within n) (λ inside. term_within n inside >>= λ first. more_within n first.0 first.1) (λ s. under_term n s)
      (λ s. under_then (length s) (length s) (term_within n s) _ (under_term n s)
      (λ first h. under_more (suc (length first.1)) (length s) (more_within n first.0 first.1) (omega arith) (under_tail n first.0 first.1)))
      (past_blanks text))

  pub under_tail : (n : ℕ) (left : Expression) (text : List ℕ) → Under (suc (length text)) (more_within n left text)
  under_tail zero left text = omega arith
  under_tail (suc n) left text =
      under_ends (suc (length text)) (left, text) _ (operator_at text) (omega arith)
      (under_more (length text) (suc (length text)) (operator_at text) (omega arith) (operator_at-shorter text))
      (λ op rest h. under_then (length rest) (suc (length text)) (term_within n rest) _ (under_term n rest)
      (λ right l. under_more (suc (length right.1)) (suc (length text)) (more_within n (Binary op left right.0) right.1) (omega arith) (under_tail n (Binary op left right.0) right.1)))

-- an expression leaves fewer bytes than its text has
pub expression_shorter : (text : List ℕ) → Under (length text) (expression_at text)
expression_shorter text =
    under_then (length text) (length text) (term_at text) _ (under_term (length text) text)
    (λ first h. under_more (suc (length first.1)) (length text) (more_at first.0 first.1) (omega arith) (under_tail (length first.1) first.0 first.1))
