use Rattle.std.proofs.Common.{◌≡◌, ◌-◌, [], length}
use Rattle.bk_image.specs.Parts.{each_of}
use Rattle.bk_image.specs.Views.{rest_of}
use Rattle.bk_image.specs.Subjects.{level_at}
use Rattle.bk_image.proofs.level.read_levels.Given as goal

abbrev pub invariant-loop : goal.invariant-loop
invariant-loop l = record {
  exact : each_of (level_at l.version) (l.count - l.counter) l.levels (rest_of l.rest) ≡ each_of (level_at l.version) l.count [] (rest_of l.initial.rest);
  few : length l.levels ≡ l.counter;
}
