use Rattle.std.proofs.Common.{◌≡◌, drop}
use Rattle.std.specs.List.{list_all}
use Rattle.bk_level.specs.Levels.{has_only_below}
use Rattle.bk_image.proofs.version.have_only_first_words.Given as goal

abbrev pub invariant-loop-level : goal.invariant-loop-level
invariant-loop-level l = list_all (has_only_below 16) (drop l.level-index l.levels) ≡ list_all (has_only_below 16) l.levels
