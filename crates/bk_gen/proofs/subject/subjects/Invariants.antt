use Rattle.std.proofs.Common.{◌≡◌, map}
use Rattle.bk_gen.specs.Subjects.{subject_of, numbers_below}
use Rattle.bk_gen.proofs.subject.subjects.Given as goal

abbrev pub invariant-loop-number : goal.invariant-loop-number
invariant-loop-number l = l.subjects.items ≡ map subject_of (numbers_below l.number)
