use Rattle.std.proofs.Common.{◌≡◌, ◌++◌}
use Rattle.std.specs.Prelude.{flat_map}
use Rattle.bk_gen.specs.Subjects.{numbers_below}
use Rattle.bk_gen.specs.Objects.{group}
use Rattle.bk_gen.proofs.object.add_groups.Given as goal

abbrev pub invariant-loop-a : goal.invariant-loop-a
invariant-loop-a l = l.objects.items ≡ l.initial.objects.items ++ flat_map group (numbers_below l.a)
