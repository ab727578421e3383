use Rattle.std.proofs.Common.{◌≡◌, ◌<◌, sym, ◌∙◌, arith}
use Rattle.bk_report.specs.Lines.{has_bit}
use Rattle.bk_report.proofs.Naming.{names_in-found, names_in-none}
use Rattle.bk_report.proofs.records.is_named.Goals as goal

pub returns-then-is_number : goal.returns-then-is_number
returns-then-is_number c =
    let small : c.loop-n.n < 16 = omega arith in
    sym (names_in-found (has_bit c.args.lines) c.args.word.now c.loop-n.n small (sym c.has_bit.ensures.value ∙ c.if-has_bit.true) (sym c.is_number.ensures ∙ c.if-is_number.true))

pub returns : goal.returns
returns c =
    let top : c.loop-n.n ≡ 16 = omega arith in
    sym (names_in-none c.args.lines c.loop-n.n c.args.word.now (omega arith) top c.loop-n.invariant)
