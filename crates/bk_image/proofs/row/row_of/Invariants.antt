use Rattle.std.proofs.Common.{◌≡◌, ◌-◌, ◌++◌, take, replicate}
use Rattle.bk_object.specs.Modes.{no_modes}
use Rattle.bk_object.specs.Pairs.{split_pairs}
use Rattle.bk_image.proofs.row.row_of.Given as goal

abbrev pub invariant-loop-subject : goal.invariant-loop-subject
invariant-loop-subject l = l.row ≡ take l.subject (split_pairs l.pairs) ++ replicate (64 - l.subject) no_modes
