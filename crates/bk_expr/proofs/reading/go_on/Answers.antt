use Rattle.std.proofs.Common.{rules, arith, ap, sym, ◌∙◌, ◌≡◌, Some}
use Rattle.bk_expr.specs.Expression.{operator_at, term_at}
use Rattle.bk_expr.specs.Tree.{plain}
use Rattle.bk_expr.specs.Waiting.{through_all}
use Rattle.bk_expr.proofs.Steps.{more_joins}
use Rattle.bk_expr.proofs.reading.go_on.Goals as goal

pub returns-clause-same : goal.returns-clause-same
returns-clause-same c =
    let next : operator_at c.args.text.now ≡ Some (c.in-Some.op, c.in-Some.rest.now) = first_of (search rules, grind arith) in
    c.in_ok-wait.ensures.same (term_at c.in-Some.rest.now)
    ∙ ap (through_all c.args.waiting.now.items) (sym (more_joins (plain c.args.left) c.args.text.now c.in-Some.rest.now c.in-Some.op next))
