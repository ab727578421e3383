use Rattle.std.proofs.Common.{rules, ◌≡◌, [], List, None, map, ap, sym, subst, ◌∙◌}
use Rattle.bk_expr.specs.Expression.{expression_at}
use Rattle.bk_expr.specs.Tree.{plain}
use Rattle.bk_expr.specs.declared.tree.Expr.{Expr}
use Rattle.bk_asm_text.specs.Directives.{next_expression_at}
use Rattle.bk_asm_text.specs.Read.{ReadsValue}
use Rattle.bk_asm_text.proofs.Loops.{on, next_read, expressions_done}
use Rattle.bk_asm_text.proofs.directive.expressions.Goals as goal

pub each-preserved : goal.each-preserved
each-preserved c =
    let reads : ReadsValue (map plain c.each.values.items) (map plain c.next_expression.new.values.items) c.in-Some-2.after.now (next_expression_at c.each.rest.now) = search rules in
    next_read (map plain c.each.values.items) (map plain c.next_expression.new.values.items) c.each.rest.now c.in-Some-2.after.now reads ∙ c.each.invariant

pub returns : goal.returns
returns c =
    let after = map plain c.read_value.new.values.items in
    let reads : ReadsValue (map plain c.args.values.now.items) after c.in-Some.rest.now (expression_at c.args.text.now) = search rules in
    let first : ReadsValue [] after c.in-Some.rest.now (expression_at c.args.text.now) =
    subst (λ (items : List Expr). ReadsValue (map plain items) after c.in-Some.rest.now (expression_at c.args.text.now)) c.requires reads in
    let none : next_expression_at c.each.rest.now ≡ None = search rules in
    let same : c.next_expression.new.values.items ≡ c.each.values.items = search rules in
    let read : on next_expression_at (map plain c.next_expression.new.values.items) c.each.rest.now ≡ on next_expression_at after c.in-Some.rest.now =
    ap (λ (items : List Expr). on next_expression_at (map plain items) c.each.rest.now) same ∙ c.each.invariant in
    sym (expressions_done c.args.text.now after c.in-Some.rest.now (map plain c.next_expression.new.values.items) c.each.rest.now first read none)
