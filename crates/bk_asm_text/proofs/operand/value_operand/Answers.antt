use Rattle.std.proofs.Common.{rules, ◌≡◌, Some, None, map, sym, subst}
use Rattle.std.specs.Prelude.{IfOk, option_map}
use Rattle.bk_expr.specs.Expression.{expression_at}
use Rattle.bk_expr.specs.Text.{Front, sign_at}
use Rattle.bk_expr.specs.Tree.{plain}
use Rattle.bk_asm_text.specs.Plain.{PlainOperand}
use Rattle.bk_asm_text.specs.Read.{OperandRead, ReadsValue}
use Rattle.bk_asm_text.proofs.Reading.{number_first, no_value, value_first}
use Rattle.bk_asm_text.proofs.operand.value_operand.Goals as goal

pub returns-in-Some : goal.returns-in-Some
returns-in-Some c =
    let number : sign_at 35 c.args.text.now ≡ Some c.in-Some.rest.now = search rules in
    subst (λ (o : Front PlainOperand). IfOk c.immediate.result (λ read. OperandRead (map plain c.args.values.now.items) (map plain c.immediate.new.values.items) (option_map (λ x. (x.0, x.1.now)) read) o))
    (sym (number_first c.args.text.now c.in-Some.rest.now number)) c.immediate.ensures

pub returns-in_default-2 : goal.returns-in_default-2
returns-in_default-2 c =
    let none : sign_at 35 c.args.text.now ≡ None = search rules in
    let nothing : expression_at c.args.text.now ≡ None = search rules in
    no_value c.args.text.now none nothing

pub returns : goal.returns
returns c =
    let none : sign_at 35 c.args.text.now ≡ None = search rules in
    let reads : ReadsValue (map plain c.args.values.now.items) (map plain c.read_value.new.values.items) c.in-Some-2.rest.now (expression_at c.args.text.now) = search rules in
    value_first (map plain c.args.values.now.items) (map plain c.read_value.new.values.items) c.in-Some-2.rest.now c.args.text.now
    (c.indexed.result.0, c.indexed.result.1.now) none reads c.indexed.ensures
