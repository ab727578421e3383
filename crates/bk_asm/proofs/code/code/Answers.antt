use Rattle.std.proofs.Common.{ap, sym, subst, ◌∙◌}
use Rattle.std.specs.Prelude.{map}
use Rattle.std.proofs.lemmas.List.{drop_all}
use Rattle.std.proofs.lemmas.Result.{err_from_is_err_and}
use Rattle.bk_base.specs.Faults.{Refuses}
use Rattle.bk_asm.specs.Codes.{coded}
use Rattle.bk_asm.specs.Seen.{plain_placed, seen}
use Rattle.bk_asm.proofs.Coding.{coded_next, coded_stops, coded_end}
use Rattle.bk_asm.proofs.Loops.{drop_next}
use Rattle.bk_asm.proofs.code.code.Goals as goal

pub loop-one-preserved : goal.loop-one-preserved
loop-one-preserved c =
    let next = drop_next c.args.placed.now c.loop-one.one-index c.one-item.result c.loop-one-test.true c.one-item.is in
    sym (coded_next (seen c.args.table.now) c.loop-one.coding.bytes.items c.put_statement.new.coding.bytes.items (plain_placed c.one-item.result) _ c.in_ok-put_statement.ensures.ok)
    ∙ ap (λ xs. coded (seen c.args.table.now) c.loop-one.coding.bytes.items (map plain_placed xs)) (sym next)
    ∙ c.loop-one.invariant

pub returns-in_err-put_statement : goal.returns-in_err-put_statement
returns-in_err-put_statement c =
    let p = err_from_is_err_and c.from_residual.result c.from_residual.ensures.1 in
    let next = drop_next c.args.placed.now c.loop-one.one-index c.one-item.result c.loop-one-test.true c.one-item.is in
    let total = ap (λ xs. coded (seen c.args.table.now) c.loop-one.coding.bytes.items (map plain_placed xs)) (sym next) ∙ c.loop-one.invariant in
    rw (p.1, p.2) (subst (Refuses c.in_err-put_statement.field-0.0) total
    (coded_stops (seen c.args.table.now) c.loop-one.coding.bytes.items (plain_placed c.one-item.result) _ c.in_err-put_statement.field-0.0 c.in_err-put_statement.ensures.bad))

pub returns : goal.returns
returns c =
    sym c.loop-one.invariant
    ∙ ap (λ xs. coded (seen c.args.table.now) c.loop-one.coding.bytes.items (map plain_placed xs)) (drop_all c.loop-one.one-index c.args.placed.now c.loop-one-test.false)
    ∙ coded_end (seen c.args.table.now) c.loop-one.coding.bytes.items
