use Rattle.std.proofs.Common.{◌≡◌, drop}
use Rattle.bk_report.specs.Reading.{front}
use Rattle.bk_report.proofs.reading.number_in_front.Given as goal

abbrev pub invariant-loop-i : goal.invariant-loop-i
invariant-loop-i l = front l.base l.n (drop l.i l.bytes) ≡ front l.base 0 l.bytes
