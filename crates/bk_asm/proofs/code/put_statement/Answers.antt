use Rattle.std.proofs.Common.{◌≡◌, ℕ, List, ◌++◌, ap, sym, refl, ◌∙◌}
use Rattle.std.specs.Prelude.{map}
use Rattle.bk_expr.specs.Tree.{plain}
use Rattle.bk_asm_text.specs.Flat.{body_with}
use Rattle.bk_asm.specs.Codes.{zeros_of}
use Rattle.bk_asm.specs.Names.{values_in}
use Rattle.bk_asm.specs.Pieces.{pieces_of, role_of}
use Rattle.bk_asm.specs.Seen.{plain_placed, seen, written_so}
use Rattle.bk_asm.specs.Written.{Written, all_written, begun}
use Rattle.bk_asm.proofs.Coding.{coded_now, refused_now}
use Rattle.bk_asm.proofs.Writing.{whole_bytes, whole_failing}
use Rattle.bk_asm.proofs.code.put_statement.Goals as goal

pub returns-in-Err-clause-bad : goal.returns-in-Err-clause-bad
returns-in-Err-clause-bad c =
    let one = c.args.placed.now in
    let here = c.as_value.result in
    let values = values_in (seen c.args.table.now) one.range in
    let before = c.args.coding.now.bytes.items in
    let pieces = pieces_of (body_with one.statement.body (map plain one.statement.values.now)) in
    let now = written_so c.put_body.new.self in
    let is : now ≡ all_written values here (begun before here) pieces = c.in_ok-put_body.ensures ∙ ap (λ (w : Written). all_written values here w pieces) c.begin.ensures in
    refused_now (seen c.args.table.now) (plain_placed one) here pieces now.undefined now.divides now.beyond c.in-Err.fault
    c.as_value.ensures refl (whole_failing values here before pieces now is) (sym c.check.ensures ∙ c.in-Err.is)

pub returns-clause-ok : goal.returns-clause-ok
returns-clause-ok c =
    let one = c.args.placed.now in
    let here = c.as_value.result in
    let values = values_in (seen c.args.table.now) one.range in
    let before = c.args.coding.now.bytes.items in
    let body = body_with one.statement.body (map plain one.statement.values.now) in
    let pieces = pieces_of body in
    let now = written_so c.put_body.new.self in
    let is : now ≡ all_written values here (begun before here) pieces = c.in_ok-put_body.ensures ∙ ap (λ (w : Written). all_written values here w pieces) c.begin.ensures in
    let zeros = zeros_of one.size (role_of body) in
    coded_now (seen c.args.table.now) before c.put_filling.new.out.items (plain_placed one) here pieces
    now.undefined now.divides now.beyond
    c.as_value.ensures refl (whole_failing values here before pieces now is) (sym c.check.ensures ∙ c.in_default.is)
    (c.in_ok-put_filling.ensures (map plain one.statement.values.now) ∙ ap (λ (items : List ℕ). items ++ zeros) (whole_bytes values here before pieces now is))
