use Rattle.std.proofs.Common.{◌≡◌, ◌-◌, ◌+◌, [], length}
use Rattle.std.specs.Prelude.{sum_by}
use Rattle.bk_image.specs.Parts.{each_of}
use Rattle.bk_image.specs.Views.{rest_of, IsAscending}
use Rattle.bk_image.specs.Objects.{object_at, size}
use Rattle.bk_image.proofs.object.read_objects.Given as goal

abbrev pub invariant-loop : goal.invariant-loop
invariant-loop l = record {
  exact : each_of (object_at l.version l.levels l.subjects l.lines) (l.count - l.counter) l.objects.items (rest_of l.rest) ≡ each_of (object_at l.version l.levels l.subjects l.lines) l.count [] (rest_of l.initial.rest);
  place : l.rest.at ≡ l.initial.rest.at + sum_by (size l.version) l.objects.items;
  ascending : IsAscending l.objects.items;
  few : length l.objects.items ≡ l.counter;
}
