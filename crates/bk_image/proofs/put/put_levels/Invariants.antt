use Rattle.std.proofs.Common.{◌≡◌, ◌++◌, take}
use Rattle.std.specs.Prelude.{All, flat_map}
use Rattle.bk_image.specs.Spelling.{level_bytes}
use Rattle.bk_image.specs.Writing.{LevelFits}
use Rattle.bk_image.proofs.put.put_levels.Given as goal

abbrev pub invariant-loop-level : goal.invariant-loop-level
invariant-loop-level l = record {
  text : l.out.items ≡ l.fn.out.items ++ flat_map (level_bytes l.version) (take l.level-index l.levels);
  fits : All LevelFits (take l.level-index l.levels);
}
