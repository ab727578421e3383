use Rattle.std.proofs.Common.{◌≡◌, ◌++◌, map}
use Rattle.bk_gen.specs.Subjects.{numbers_below}
use Rattle.bk_gen.specs.Objects.{segment}
use Rattle.bk_gen.proofs.object.add_segments.Given as goal

abbrev pub invariant-loop-b : goal.invariant-loop-b
invariant-loop-b l = l.objects.items ≡ l.initial.objects.items ++ map (segment l.a) (numbers_below l.b)
