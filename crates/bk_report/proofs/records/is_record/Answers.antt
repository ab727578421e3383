use Rattle.std.proofs.Common.{sym}
use Rattle.std.specs.Prelude.{◌==◌}
use Rattle.bk_report.specs.Lines.{has_bit}
use Rattle.bk_report.proofs.Naming.{are_record-six}
use Rattle.bk_report.proofs.records.is_record.Goals as goal

pub returns-in-Some-cut-4 : goal.returns-in-Some-cut-4
returns-in-Some-cut-4 c =
    rw (c.in-Some.ensures.found, c.in-Some-cut.ensures.found, c.in-Some-cut-2.ensures.found, c.in-Some-cut-3.ensures.found, c.in-Some-cut-4.ensures.found)
    (sym (are_record-six (has_bit c.args.lines) c.in-Some.kind.now c.in-Some-cut._slot.now c.in-Some-cut-2._turn.now c.in-Some-cut-3.line.now c.in-Some-cut-4._byte.now (λ b. b == 32) c.in-Some-cut-4._more.now))
