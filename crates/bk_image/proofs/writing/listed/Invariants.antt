use Rattle.std.proofs.Common.{◌≡◌, take}
use Rattle.bk_image.proofs.writing.listed.Given as goal

abbrev pub invariant-loop-n : goal.invariant-loop-n
invariant-loop-n l = l.levels.items ≡ take l.n l.table
