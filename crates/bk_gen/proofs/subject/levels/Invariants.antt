use Rattle.std.proofs.Common.{◌≡◌, map}
use Rattle.bk_gen.specs.Subjects.{level_of, numbers_below}
use Rattle.bk_gen.proofs.subject.levels.Given as goal

abbrev pub invariant-loop-class : goal.invariant-loop-class
invariant-loop-class l = l.levels ≡ map level_of (numbers_below l.class)
