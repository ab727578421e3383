use Rattle.std.proofs.Common.{length}
use Rattle.bk_conf.proofs.Bodies.{Passed}
use Rattle.bk_conf.proofs.program.body_of.Given as goal

abbrev pub invariant-lines : goal.invariant-lines
invariant-lines l = Passed l.text l.rest l.lines

abbrev pub decreases-lines : goal.decreases-lines
decreases-lines l = length l.rest
