-- Charges and cells of a state, taken from its objects as they are.
use Rattle.std.specs.Prelude.{ℕ, Bool}
use Rattle.bk_path.specs.Paths.{Path}
use Rattle.bk_quota.specs.Charges.{is_upgraded_in, governing_in, level_in, quota_in, used_in}
use Rattle.bk_state.specs.State.{State}

-- a directory below root whose level is not its parent's
abbrev pub is_upgraded : State → Path → Bool
is_upgraded v path = is_upgraded_in (λ object. object.facts) v.objects path

-- the nearest of a directory and its ancestors that has a cell
abbrev pub governing : State → Path → Path
governing v path = governing_in (λ object. object.facts) v.objects path

-- the number of the object's level
abbrev pub level_number : State → Path → ℕ
level_number v path = level_in (λ object. object.facts) v.objects path

-- the limit of the object's cell
abbrev pub quota_at : State → Path → ℕ
quota_at v path = quota_in (λ object. object.facts) v.objects path

-- the used number of a cell: 1, and the charges of all objects whose parent it governs
abbrev pub used : State → (cell : Path) → ℕ
used v cell = used_in (λ object. object.facts) v.objects cell
