-- Rows, one subject after the other.
use Rattle.std.proofs.Common.{◌≡◌, ℕ, ◌+◌, ap, add-one, refl}
use Rattle.bk_object.specs.declared.modes.Modes.{Modes}
use Rattle.bk_object.specs.Rows.{empty_row, given}
use Rattle.bk_path.specs.Paths.{Path}
use Rattle.bk_conf.specs.Ordered.{granted, modes_at}
use Rattle.bk_conf.specs.Said.{Entries}

pub granted_none : (rows : Entries (Path × ℕ) Modes) (path : Path) → granted rows path 0 ≡ empty_row
unfolding granted
granted_none rows path = refl

pub granted_next : (rows : Entries (Path × ℕ) Modes) (path : Path) (subject : ℕ)
    → granted rows path (subject + 1) ≡ given subject (modes_at rows path subject) (granted rows path subject)
unfolding granted
granted_next rows path subject = ap (granted rows path) (add-one subject)
