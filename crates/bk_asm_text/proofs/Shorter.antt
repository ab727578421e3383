-- Labels, and expressions behind commas, leave fewer bytes than their text has.
use Rattle.std.proofs.Common.{◌≡◌, ℕ, ◌<◌, ◌≤◌, List, [], ◌∷◌, length, Some, None, refl, ap, arith}
use Rattle.std.specs.Prelude.{Option}
use Rattle.bk_expr.specs.Expression.{expression_at}
use Rattle.bk_expr.specs.Names.{is_name, local_of}
use Rattle.bk_expr.specs.Text.{Front, ◌>>=◌, past_blanks, in_run, sign_at}
use Rattle.bk_expr.proofs.Shorter.{Under, under_then, under_more, past_blanks-le, in_run-shorter, expression_shorter}
use Rattle.bk_asm_text.specs.Directives.{next_expression_at}
use Rattle.bk_asm_text.specs.Statements.{label_of_run, label_at}
use Rattle.bk_asm_text.proofs.Fronts.{sign_front}
use Rattle.bk_asm_text.proofs.Many.{Shortens}

sign_shorter : (c : ℕ) (text rest : List ℕ) → sign_at c text ≡ Some rest → length rest < length text
sign_shorter c text rest e =
    let front : length (past_blanks text) ≡ length (c ∷ rest) = ap length (sign_front c text rest e) in
    let within : length (past_blanks text) ≤ length text = past_blanks-le text in
    omega (arith, front, within)

-- what a sign leaves is shorter, and so is what is then read
under_sign : {X : Type 0} (c : ℕ) (text : List ℕ) (go : List ℕ → Front X) → ((rest : List ℕ) → length rest < length text → Under (length text) (go rest))
    → Under (length text) (sign_at c text >>= go)
under_sign c text go p = by (sign_at c text) refl where
  by : (o : Option (List ℕ)) → sign_at c text ≡ o → Under (length text) (o >>= go)
  by None e = tt
  by (Some rest) e = p rest (sign_shorter c text rest e)

label_of_run-empty : label_of_run [] ≡ None
unfolding label_of_run is_name local_of
label_of_run-empty = refl

pub label_shorter : Shortens label_at
unfolding label_at
label_shorter text =
    under_then (length text) (length text) (in_run label_of_run text) _ (in_run-shorter label_of_run label_of_run-empty text)
    (λ label h. under_more (length label.1) (length text) (sign_at 58 label.1 >>= (λ rest. Some (label.0, rest))) (omega (arith, h))
    (under_sign 58 label.1 (λ rest. Some (label.0, rest)) (λ rest l. l)))

pub next_expression_shorter : Shortens next_expression_at
unfolding next_expression_at
next_expression_shorter text =
    under_sign 44 text (λ rest. expression_at rest)
    (λ rest h. under_more (length rest) (length text) (expression_at rest) (omega (arith, h)) (expression_shorter rest))
