use Rattle.std.proofs.Common.{refl, arith}
use Rattle.std.specs.List.{IsDistinct}
use Rattle.bk_level.specs.Masks.{categories_of}
use Rattle.bk_level.proofs.table.LevelTable.new.Goals as goal

pub invariant_of-result-2 : goal.invariant_of-result-2
unfolding categories_of IsDistinct
invariant_of-result-2 c = record { places = refl; used = omega arith; unused = refl; distinct = tt }
