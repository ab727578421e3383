use Rattle.std.proofs.Common.{◌≡◌, ◌++◌, length}
use Rattle.bk_report.specs.Lines.{has_bit, line_records_of}
use Rattle.bk_report.proofs.records.line_records.Given as goal

abbrev pub invariant-loop-text : goal.invariant-loop-text
invariant-loop-text l = l.records.items ++ line_records_of (has_bit l.lines) l.rest ≡ line_records_of (has_bit l.lines) l.report

abbrev pub decreases-loop-text : goal.decreases-loop-text
decreases-loop-text l = length l.rest
