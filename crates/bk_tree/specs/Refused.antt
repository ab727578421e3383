-- When no object is created.
use Rattle.std.specs.Prelude.{IsNone, IsSome}
use Rattle.std.specs.FinMap as map
use Rattle.bk_object.specs.declared.Facts.{Facts}
use Rattle.bk_path.specs.Paths.{Path}
use Rattle.bk_tree.specs.declared.tree.TreeNo.{TreeNo}
use Rattle.bk_tree.specs.declared.tree.TreeNo.TheVariants.{Taken, Quota}
use Rattle.bk_tree.specs.Objects.{Objects}
use Rattle.bk_tree.specs.Kept.{Fits}

-- Taken exactly where an object is at the path, Quota exactly where none is and the charge doesn't fit
abbrev pub Refuses : Objects → Path → Facts → TreeNo → Type 0
Refuses m path facts Taken = IsSome (map.get m path)
Refuses m path facts Quota = IsNone (map.get m path) × ¬ Fits m path facts
