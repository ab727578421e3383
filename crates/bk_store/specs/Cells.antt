-- Quota cells of a store.
use Rattle.std.specs.Prelude.{ℕ, ◌+◌, ◌≤◌}
use Rattle.bk_object.specs.declared.Facts.{Facts}
use Rattle.bk_path.specs.Paths.{Path, parent}
use Rattle.bk_quota.specs.Charges.{charge_of, governing_in, level_in, quota_in, used_in}
use Rattle.bk_quota.specs.Usage.{Usage}
use Rattle.bk_store.specs.Entries.{Stored}

-- the number of the level of the object at the path
abbrev pub level_number : Stored → Path → ℕ
level_number v path = level_in (λ e. e.facts) v.objects path

-- the cell that governs the directory: its own where it has one, else that of its nearest ancestor with a cell
abbrev pub cell_of : Stored → Path → Usage
cell_of v path = record {
  limit = quota_in (λ e. e.facts) v.objects (governing_in (λ e. e.facts) v.objects path);
  used = used_in (λ e. e.facts) v.objects (governing_in (λ e. e.facts) v.objects path);
}

-- the charge of an object at the path fits under the limit of the cell that governs its parent
abbrev pub Fits : Stored → Path → Facts → Type 0
Fits v path facts = (cell_of v (parent path)).used + charge_of facts (level_number v (parent path)) ≤ (cell_of v (parent path)).limit
