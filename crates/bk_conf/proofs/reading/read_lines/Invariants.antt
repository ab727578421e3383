use Rattle.std.proofs.Common.{◌≡◌}
use Rattle.bk_conf.specs.Lines.{lines_of}
use Rattle.bk_conf.specs.Said.{nothing}
use Rattle.bk_conf.specs.Steps.{with_all}
use Rattle.bk_conf.specs.Views.{lines_left, said_of, size_left}
use Rattle.bk_conf.proofs.reading.read_lines.Given as goal

abbrev pub invariant-loop-left : goal.invariant-loop-left
invariant-loop-left l = with_all (said_of l.said) l.at 0 (lines_left l.left) ≡ with_all nothing 1 0 (lines_of l.fn.text)

abbrev pub decreases-loop-left : goal.decreases-loop-left
decreases-loop-left l = size_left l.left
