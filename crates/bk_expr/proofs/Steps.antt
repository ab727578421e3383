-- One step of the grammar.
use Rattle.std.specs.Prelude.{◌≡◌, ℕ, List, [], ◌∷◌, Some, None, option_map}
use Rattle.std.proofs.Common.{ap, ◌∙◌}
use Rattle.bk_expr.specs.declared.reading.Opening.{Opening}
use Rattle.bk_expr.specs.declared.reading.Opening.TheVariants.{Run}
use Rattle.bk_expr.specs.declared.tree.ExprOp.{ExprOp}
use Rattle.bk_expr.specs.Expression.{operator_at, opening, term_by, term_in, term_of_run, ends_or, term_at, more_at, expression_at}
use Rattle.bk_expr.specs.Text.{◌>>=◌, past_blanks, run_at}
use Rattle.bk_expr.specs.Tree.{Expression, Binary}
use Rattle.bk_expr.proofs.Enough.{term_opens, more_opens}

-- a term by how it begins
pub term_begins : (text rest : List ℕ) (c : ℕ) (o : Opening) → past_blanks text ≡ c ∷ rest → opening c ≡ o
    → term_at text ≡ term_by term_at expression_at o (c ∷ rest) rest
term_begins text rest c o e h = term_opens text ∙ ap (term_in term_at expression_at) e ∙ ap (λ x. term_by term_at expression_at x (c ∷ rest) rest) h

pub term_ended : (text : List ℕ) → past_blanks text ≡ [] → term_at text ≡ None
term_ended text e = term_opens text ∙ ap (term_in term_at expression_at) e

-- an operator follows, and then a term
pub more_joins : (left : Expression) (text rest : List ℕ) (op : ExprOp) → operator_at text ≡ Some (op, rest)
    → more_at left text ≡ (term_at rest >>= λ right. more_at (Binary op left right.0) right.1)
more_joins left text rest op e =
    more_opens left text ∙ ap (ends_or (left, text) (λ op rest. term_at rest >>= λ right. more_at (Binary op left right.0) right.1)) e

-- none follows
pub more_ends : (left : Expression) (text : List ℕ) → operator_at text ≡ None → more_at left text ≡ Some (left, text)
more_ends left text e =
    more_opens left text ∙ ap (ends_or (left, text) (λ op rest. term_at rest >>= λ right. more_at (Binary op left right.0) right.1)) e

-- a run that is a term, where no operator follows it, is the expression
pub lone_run : (text rest : List ℕ) (c : ℕ) (term : Expression) → past_blanks text ≡ c ∷ rest → opening c ≡ Run
    → term_of_run (run_at (c ∷ rest)).0 ≡ Some term → operator_at (run_at (c ∷ rest)).1 ≡ None
    → expression_at text ≡ Some (term, (run_at (c ∷ rest)).1)
lone_run text rest c term e h t o =
    let after = (run_at (c ∷ rest)).1 in
    ap (λ front. front >>= λ first. more_at first.0 first.1) (term_begins text rest c Run e h ∙ ap (option_map (λ x. (x, after))) t)
    ∙ more_ends term after o
