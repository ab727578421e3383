use Rattle.std.proofs.Common.{rules, ◌≡◌, [], true, false, Some, None, map, ◌∙◌}
use Rattle.bk_expr.specs.Tree.{plain}
use Rattle.bk_asm_text.specs.Addressing.{closed, register_operand_at, value_operand_at}
use Rattle.bk_asm_text.specs.Flat.{has_value, operand_with}
use Rattle.bk_asm_text.specs.Parts.{is_operand_end}
use Rattle.bk_asm_text.specs.Read.{ReadsOperand}
use Rattle.bk_asm_text.proofs.Reading.{register_first, after_register, closed_nothing, closed_on, direct_reads}
use Rattle.bk_asm_text.proofs.operand.direct.Goals as goal

pub returns-in-Some : goal.returns-in-Some
returns-in-Some c =
    let operand = c.in-Some.operand in
    let found : closed (register_operand_at c.args.text.now) ≡ Some (operand_with operand [], c.in-Some.rest.now) = search rules in
    let alone : has_value operand ≡ false = search rules in
    register_first (map plain c.args.values.now.items) operand c.in-Some.rest.now c.args.text.now found alone

pub returns-in_default-2 : goal.returns-in_default-2
returns-in_default-2 c =
    let none : closed (register_operand_at c.args.text.now) ≡ None = search rules in
    let nothing : value_operand_at c.args.text.now ≡ None = search rules in
    after_register c.args.text.now none ∙ closed_nothing (value_operand_at c.args.text.now) nothing

pub returns-then-not-is_operand_end : goal.returns-then-not-is_operand_end
returns-then-not-is_operand_end c =
    let none : closed (register_operand_at c.args.text.now) ≡ None = search rules in
    let reads : ReadsOperand (map plain c.args.values.now.items) (map plain c.value_operand.new.values.items) c.in-Some-2.operand c.in-Some-2.rest.now (value_operand_at c.args.text.now) = search rules in
    let on : is_operand_end c.in-Some-2.rest.now ≡ false = search rules in
    after_register c.args.text.now none ∙ closed_on (map plain c.args.values.now.items) (map plain c.value_operand.new.values.items) c.in-Some-2.operand c.in-Some-2.rest.now (value_operand_at c.args.text.now) reads on

pub returns : goal.returns
returns c =
    let none : closed (register_operand_at c.args.text.now) ≡ None = search rules in
    let reads : ReadsOperand (map plain c.args.values.now.items) (map plain c.value_operand.new.values.items) c.in-Some-2.operand c.in-Some-2.rest.now (value_operand_at c.args.text.now) = search rules in
    let ends : is_operand_end c.in-Some-2.rest.now ≡ true = search rules in
    direct_reads (map plain c.args.values.now.items) (map plain c.value_operand.new.values.items) c.in-Some-2.operand c.in-Some-2.rest.now c.args.text.now none reads ends
