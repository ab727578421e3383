use Rattle.std.proofs.Common.{rules, arith, ap, sym, ◌∙◌, ◌≡◌, ◌∷◌}
use Rattle.bk_expr.specs.declared.reading.Opening.TheVariants.{Plus, Minus, Bracket}
use Rattle.bk_expr.specs.declared.reading.Waiting.TheVariants.{More}
use Rattle.bk_expr.specs.Expression.{opening, term_at}
use Rattle.bk_expr.specs.Text.{past_blanks}
use Rattle.bk_expr.specs.Waiting.{through, through_all}
use Rattle.bk_expr.proofs.Steps.{term_begins}
use Rattle.bk_expr.proofs.reading.begin.Goals as goal

pub returns-in-Plus-clause-same : goal.returns-in-Plus-clause-same
returns-in-Plus-clause-same c =
    let next : past_blanks c.args.text.now ≡ c.in-Some.c ∷ c.in-Some.rest.now = first_of (search rules, grind arith) in
    let opens : opening c.in-Some.c ≡ Plus = first_of (search rules, grind arith) in
    ap (through_all c.args.waiting.now.items) (sym (term_begins c.args.text.now c.in-Some.rest.now c.in-Some.c Plus next opens))

pub returns-in_ok-wait-in-Minus-clause-same : goal.returns-in_ok-wait-in-Minus-clause-same
returns-in_ok-wait-in-Minus-clause-same c =
    let next : past_blanks c.args.text.now ≡ c.in-Some.c ∷ c.in-Some.rest.now = first_of (search rules, grind arith) in
    let opens : opening c.in-Some.c ≡ Minus = first_of (search rules, grind arith) in
    c.in_ok-wait-in-Minus.ensures.same (term_at c.in-Some.rest.now)
    ∙ ap (through_all c.args.waiting.now.items) (sym (term_begins c.args.text.now c.in-Some.rest.now c.in-Some.c Minus next opens))

pub returns-in_ok-wait-in-Bracket-2-clause-same : goal.returns-in_ok-wait-in-Bracket-2-clause-same
returns-in_ok-wait-in-Bracket-2-clause-same c =
    let next : past_blanks c.args.text.now ≡ c.in-Some.c ∷ c.in-Some.rest.now = first_of (search rules, grind arith) in
    let opens : opening c.in-Some.c ≡ Bracket = first_of (search rules, grind arith) in
    c.in_ok-wait-in-Bracket-2.ensures.same (term_at c.in-Some.rest.now)
    ∙ c.in_ok-wait-in-Bracket.ensures.same (through More (term_at c.in-Some.rest.now))
    ∙ ap (through_all c.args.waiting.now.items) (sym (term_begins c.args.text.now c.in-Some.rest.now c.in-Some.c Bracket next opens))
