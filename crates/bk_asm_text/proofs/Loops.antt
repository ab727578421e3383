-- The loops over labels and over expressions, by the next one.
use Rattle.std.proofs.Common.{◌≡◌, ℕ, List, [], ◌∷◌, ◌++◌, Some, None, ap, sym, ◌∙◌, append_assoc}
use Rattle.std.proofs.lemmas.List.{append-nil}
use Rattle.bk_expr.specs.Expression.{expression_at}
use Rattle.bk_expr.specs.Text.{Front, ◌>>=◌}
use Rattle.bk_asm_text.specs.Directives.{next_expression_at, expressions_at}
use Rattle.bk_asm_text.specs.Parts.{all_of}
use Rattle.bk_asm_text.specs.Plain.{PlainLabel}
use Rattle.bk_asm_text.specs.Read.{ReadsValue}
use Rattle.bk_asm_text.specs.Statements.{label_at}
use Rattle.bk_expr.specs.Tree.{Expression}
use Rattle.bk_asm_text.proofs.Many.{Shortens, all_some, all_none}
use Rattle.bk_asm_text.proofs.Shorter.{label_shorter, next_expression_shorter}

-- what is read, before the parts that are left, and the text after all of them
abbrev pub on : {X : Type 0} → (List ℕ → Front X) → List X → List ℕ → List X × List ℕ
on part before text = (before ++ (all_of part text).0, (all_of part text).1)

on_some : {X : Type 0} (part : List ℕ → Front X) → Shortens part → (before : List X) (text : List ℕ) (x : X) (rest : List ℕ) → part text ≡ Some (x, rest)
    → on part (before ++ x ∷ []) rest ≡ on part before text
on_some {X} part short before text x rest e =
    ap (λ (items : List X). (items, (all_of part rest).1)) (append_assoc before (x ∷ []) (all_of part rest).0)
    ∙ ap (λ (all : List X × List ℕ). (before ++ all.0, all.1)) (sym (all_some part short text (x, rest) e))

on_none : {X : Type 0} (part : List ℕ → Front X) (before : List X) (text : List ℕ) → part text ≡ None → on part before text ≡ (before, text)
on_none {X} part before text e =
    ap (λ (all : List X × List ℕ). (before ++ all.0, all.1)) (all_none part text e) ∙ ap (λ (items : List X). (items, text)) (append-nil before)

pub next_label : (before : List PlainLabel) (text : List ℕ) (label : PlainLabel) (rest : List ℕ) → label_at text ≡ Some (label, rest)
    → on label_at (before ++ label ∷ []) rest ≡ on label_at before text
next_label before text label rest e = on_some label_at label_shorter before text label rest e

pub no_label : (before : List PlainLabel) (text : List ℕ) → label_at text ≡ None → on label_at before text ≡ (before, text)
no_label before text e = on_none label_at before text e

-- one expression more
pub next_read : (before after : List Expression) (text rest : List ℕ) → ReadsValue before after rest (next_expression_at text)
    → on next_expression_at after rest ≡ on next_expression_at before text
next_read before after text rest reads =
    ap (λ (values : List Expression). on next_expression_at values rest) reads.added
    ∙ on_some next_expression_at next_expression_shorter before text reads.value rest reads.read

no_expression : (before : List Expression) (text : List ℕ) → next_expression_at text ≡ None → on next_expression_at before text ≡ (before, text)
no_expression before text e = on_none next_expression_at before text e

-- a first expression, and the others after it
abbrev with_first : Expression × List ℕ → Front (List Expression)
with_first first = Some (first.0 ∷ (all_of next_expression_at first.1).0, (all_of next_expression_at first.1).1)

expressions_some : (text : List ℕ) (first : Expression) (rest : List ℕ) → expression_at text ≡ Some (first, rest)
    → expressions_at text ≡ with_first (first, rest)
unfolding expressions_at
expressions_some text first rest e = ap (λ (o : Front Expression). o >>= with_first) e

abbrev some_all : List Expression × List ℕ → Front (List Expression)
some_all all = Some all

-- the expressions that were read are all, where no comma and expression follow
pub expressions_done : (text : List ℕ) (first : List Expression) (begun : List ℕ) (values : List Expression) (rest : List ℕ) → ReadsValue [] first begun (expression_at text)
    → on next_expression_at values rest ≡ on next_expression_at first begun → next_expression_at rest ≡ None → expressions_at text ≡ Some (values, rest)
expressions_done text first begun values rest reads read none =
    let all = sym (read ∙ ap (λ (values : List Expression). on next_expression_at values begun) reads.added) ∙ no_expression values rest none in
    expressions_some text reads.value begun reads.read ∙ ap some_all all
