use Rattle.std.proofs.Common.{◌≡◌, drop}
use Rattle.std.specs.List.{list_all}
use Rattle.bk_image.specs.Writing.{windows_fit}
use Rattle.bk_image.proofs.writing.all_windows_fit.Given as goal

abbrev pub invariant-loop-s : goal.invariant-loop-s
invariant-loop-s l = list_all windows_fit (drop l.s-index l.subjects) ≡ list_all windows_fit l.subjects
