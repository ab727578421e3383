use Rattle.std.proofs.Common.{rules, ◌≡◌, None, map}
use Rattle.bk_expr.specs.Tree.{plain}
use Rattle.bk_asm_text.specs.Addressing.{direct_at}
use Rattle.bk_asm_text.specs.Read.{ReadsOperand}
use Rattle.bk_asm_text.proofs.Reading.{operand_none, operand_some}
use Rattle.bk_asm_text.proofs.operand.read_operand.Goals as goal

pub returns-in_default : goal.returns-in_default
returns-in_default c =
    let none : direct_at c.past_at-at.result.1.now ≡ None = search rules in
    operand_none c.args.text.now c.past_at-at.result.1.now c.past_at-at.result.0 c.past_at-at.ensures none

pub returns : goal.returns
returns c =
    let reads : ReadsOperand (map plain c.args.values.now.items) (map plain c.direct.new.values.items) c.in-Some.operand c.in-Some.rest.now (direct_at c.past_at-at.result.1.now) = search rules in
    operand_some (map plain c.args.values.now.items) (map plain c.direct.new.values.items) c.args.text.now c.past_at-at.result.1.now c.in-Some.rest.now c.past_at-at.result.0
    c.in-Some.operand c.behind.result c.past_at-at.ensures reads c.behind.ensures.with c.behind.ensures.same
