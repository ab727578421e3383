use Rattle.std.proofs.Common.{◌≡◌, false}
use Rattle.bk_report.specs.Lines.{names_below, has_bit}
use Rattle.bk_report.proofs.records.is_named.Given as goal

abbrev pub invariant-loop-n : goal.invariant-loop-n
invariant-loop-n l = names_below (has_bit l.lines) l.word l.n ≡ false
