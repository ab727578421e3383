-- What stands at the front of a text, and what then doesn't.
use Rattle.std.proofs.Common.{◌≡◌, ℕ, zero, suc, Bool, true, false, List, [], ◌∷◌, length, Some, None, refl, ap, ◌∙◌, arith, cond}
use Rattle.std.specs.Prelude.{Option, option_map, ◌==◌}
use Rattle.std.specs.Option.{option_or}
use Rattle.std.proofs.lemmas.Bool.Decides.{nat_tests}
use Rattle.bk_expr.specs.Expression.{term_of_run, term_in, term_within, more_within, more_at, expression_at}
use Rattle.bk_expr.specs.Names.{is_name, number_of, local_of, register_of, register_digit, register_at}
use Rattle.bk_expr.specs.Text.{Front, ◌>>=◌, past_blanks, run_in, in_run, sign_in, sign_at}
use Rattle.bk_expr.specs.Tree.{Expression}
use Rattle.bk_asm_text.specs.Parts.{is_operand_end_in, is_operand_end}

-- ---- what a sign tells of the front

sign_found : (c : ℕ) (text rest : List ℕ) → sign_in c text ≡ Some rest → text ≡ c ∷ rest
sign_found c [] rest e = absurd (cc)
sign_found c (d ∷ text) rest e = by (d == c) refl e where
  by : (b : Bool) → (d == c) ≡ b → cond {A = Option (List ℕ)} b (Some text) None ≡ Some rest → d ∷ text ≡ c ∷ rest
  by true t e = let same : d ≡ c = grind (arith, nat_tests, t) in cc
  by false t e = absurd (cc)

pub sign_front : (c : ℕ) (text rest : List ℕ) → sign_at c text ≡ Some rest → past_blanks text ≡ c ∷ rest
sign_front c text rest e = sign_found c (past_blanks text) rest e

-- another sign doesn't stand there
pub no_other_sign : (c d : ℕ) (text rest : List ℕ) → past_blanks text ≡ c ∷ rest → (c == d) ≡ false → sign_at d text ≡ None
no_other_sign c d text rest front other = ap (sign_in d) front ∙ ap (λ b. cond {A = Option (List ℕ)} b (Some rest) None) other

-- ---- bytes that begin neither a register nor an expression

-- no term begins with (, with @ or with #
bracket_term : (term expression : List ℕ → Front Expression) (rest : List ℕ) → term_in term expression (40 ∷ rest) ≡ None
unfolding term_of_run is_name number_of local_of
bracket_term term expression rest = refl

at_term : (term expression : List ℕ → Front Expression) (rest : List ℕ) → term_in term expression (64 ∷ rest) ≡ None
unfolding term_of_run is_name number_of local_of
at_term term expression rest = refl

number_term : (term expression : List ℕ → Front Expression) (rest : List ℕ) → term_in term expression (35 ∷ rest) ≡ None
unfolding term_of_run is_name number_of local_of
number_term term expression rest = refl

-- an expression doesn't begin with a byte that no term begins with
abbrev IsNoTerm : ℕ → List ℕ → Type 0
IsNoTerm c rest = (term expression : List ℕ → Front Expression) → term_in term expression (c ∷ rest) ≡ None

term_none : (n c : ℕ) (text rest : List ℕ) → past_blanks text ≡ c ∷ rest → IsNoTerm c rest → term_within n text ≡ None
term_none zero c text rest front none = refl
term_none (suc n) c text rest front none =
    ap (term_in (term_within n) (λ inside. term_within n inside >>= (λ first. more_within n first.0 first.1))) front
    ∙ none (term_within n) (λ inside. term_within n inside >>= (λ first. more_within n first.0 first.1))

expression_none : (c : ℕ) (text rest : List ℕ) → past_blanks text ≡ c ∷ rest → IsNoTerm c rest → expression_at text ≡ None
expression_none c text rest front none =
    ap (λ (first : Front Expression). first >>= (λ first. more_at first.0 first.1)) (term_none (length text) c text rest front none)

-- the register at the very front
abbrev register_in : List ℕ → Front ℕ
register_in text = option_or (option_map (λ x. (x, (run_in text).1)) (register_of (run_in text).0)) (sign_in 37 text >>= in_run register_digit)

register_none : (c : ℕ) (text rest : List ℕ) → past_blanks text ≡ c ∷ rest → register_in (c ∷ rest) ≡ None → register_at text ≡ None
register_none c text rest front none = ap register_in front ∙ none

-- what doesn't stand where ( does
pub record Opened (text : List ℕ) : Type 0 where
  pub register : register_at text ≡ None
  pub expression : expression_at text ≡ None
  pub minus : sign_at 45 text ≡ None
  pub number : sign_at 35 text ≡ None
  pub at : sign_at 64 text ≡ None

pub opened : (text rest : List ℕ) → sign_at 40 text ≡ Some rest → Opened text
opened text rest e =
    let front = sign_front 40 text rest e in
    record {
      register = register_none 40 text rest front refl;
      expression = expression_none 40 text rest front (λ term expression. bracket_term term expression rest);
      minus = no_other_sign 40 45 text rest front refl;
      number = no_other_sign 40 35 text rest front refl;
      at = no_other_sign 40 64 text rest front refl;
    }

-- what doesn't stand where - does
pub record Negative (text : List ℕ) : Type 0 where
  pub register : register_at text ≡ None
  pub bracket : sign_at 40 text ≡ None

pub negative : (text rest : List ℕ) → sign_at 45 text ≡ Some rest → Negative text
negative text rest e =
    let front = sign_front 45 text rest e in
    record {
      register = register_none 45 text rest front refl;
      bracket = no_other_sign 45 40 text rest front refl;
    }

-- what doesn't stand where # does
pub no_expression_at_number : (text rest : List ℕ) → sign_at 35 text ≡ Some rest → expression_at text ≡ None
no_expression_at_number text rest e = expression_none 35 text rest (sign_front 35 text rest e) (λ term expression. number_term term expression rest)

-- what doesn't stand where @ does
pub record Deferring (text : List ℕ) : Type 0 where
  pub register : register_at text ≡ None
  pub expression : expression_at text ≡ None
  pub bracket : sign_at 40 text ≡ None
  pub minus : sign_at 45 text ≡ None
  pub number : sign_at 35 text ≡ None

pub deferring : (text rest : List ℕ) → sign_at 64 text ≡ Some rest → Deferring text
deferring text rest e =
    let front = sign_front 64 text rest e in
    record {
      register = register_none 64 text rest front refl;
      expression = expression_none 64 text rest front (λ term expression. at_term term expression rest);
      bracket = no_other_sign 64 40 text rest front refl;
      minus = no_other_sign 64 45 text rest front refl;
      number = no_other_sign 64 35 text rest front refl;
    }

-- ---- where an operand doesn't end

pub no_end_at_plus : (text rest : List ℕ) → sign_at 43 text ≡ Some rest → is_operand_end text ≡ false
unfolding is_operand_end
no_end_at_plus text rest e = ap is_operand_end_in (sign_front 43 text rest e)

pub no_end_at_bracket : (text rest : List ℕ) → sign_at 40 text ≡ Some rest → is_operand_end text ≡ false
unfolding is_operand_end
no_end_at_bracket text rest e = ap is_operand_end_in (sign_front 40 text rest e)
