use Rattle.std.proofs.Common.{◌≡◌, ◌++◌, map}
use Rattle.bk_gen.specs.Subjects.{numbers_below}
use Rattle.bk_gen.specs.Objects.{line_object}
use Rattle.bk_gen.proofs.object.add_lines.Given as goal

abbrev pub invariant-loop-number : goal.invariant-loop-number
invariant-loop-number l = l.objects.items ≡ l.initial.objects.items ++ map line_object (numbers_below l.number)
