-- What every tree keeps: parents are there, each object is charged something, and no cell is overdrawn.
use Rattle.std.specs.Prelude.{◌≡◌, ℕ, ◌≤◌, ◌+◌, ◌&&◌, not, ◌==◌, false, ◌||◌, Bool, true, ◌∷◌, Some}
use Rattle.std.specs.FinMap as map
use Rattle.bk_object.specs.declared.Facts.{Facts}
use Rattle.bk_object.specs.declared.Kind.{Kind}
use Rattle.bk_object.specs.declared.Kind.TheVariants.{Directory, Segment, Mailbox, Line}
use Rattle.bk_object.specs.Kinds.{is_directory}
use Rattle.bk_object.specs.Limits.{largest_quota, most_blocks}
use Rattle.bk_path.specs.Paths.{Path, is_root, parent}
use Rattle.bk_quota.specs.Charges.{charge_of, governing_in, level_in, quota_in, is_upgraded_in, used_in}
use Rattle.bk_quota.specs.Usage.{Usage}
use Rattle.bk_tree.specs.declared.place.Placed.{Placed}
use Rattle.bk_tree.specs.Objects.{Objects, facts_of}

-- root and each upgraded directory have a cell
abbrev pub has_cell : Objects → Path → Bool
has_cell m path = is_root path || is_upgraded_in facts_of m path

-- the cell at the path
abbrev pub cell_in : Objects → Path → Usage
cell_in m path = record { limit = quota_in facts_of m path; used = used_in facts_of m path }

-- the charge of an object at the path fits under the limit of the cell that governs its parent
abbrev pub Fits : Objects → Path → Facts → Type 0
Fits m path facts =
    used_in facts_of m (governing_in facts_of m (parent path)) + charge_of facts (level_in facts_of m (parent path)) ≤ quota_in facts_of m (governing_in facts_of m (parent path))

-- so many blocks: 1 to 128 for a segment, 0 for other kinds
abbrev pub HasBlocks : Kind → ℕ → Type 0
HasBlocks Directory blocks = blocks ≡ 0
HasBlocks Segment blocks = (1 ≤ blocks) × (blocks ≤ most_blocks)
HasBlocks Mailbox blocks = blocks ≡ 0
HasBlocks (Line n) blocks = blocks ≡ 0

-- such a quota: 1 to 3,904 for an upgraded directory, 0 for all else
abbrev pub HasQuota : (upgraded : Bool) → ℕ → Type 0
HasQuota true quota = (1 ≤ quota) × (quota ≤ largest_quota)
HasQuota false quota = quota ≡ 0

-- the facts of an object below a directory of that level
pub record IsFit (facts : Facts) (above : ℕ) : Type 0 where
  pub blocks : HasBlocks facts.kind facts.blocks
  pub quota : HasQuota (is_directory facts.kind && not (above == facts.level)) facts.quota

-- a directory is there
abbrev pub HasDirectory : Objects → Path → Type 0
HasDirectory m path = (a : Placed) × (map.get m path ≡ Some a) × (is_directory a.facts.kind ≡ true)

-- the parent of each object but root is a directory that is there
abbrev pub IsClosed : Objects → Type 0
IsClosed m = (entry : ℕ) (path : Path) (a : Placed) → map.get m (entry ∷ path) ≡ Some a → HasDirectory m path

-- what every tree keeps
pub record IsKept (m : Objects) : Type 0 where
  pub parents : IsClosed m
  pub charges : (entry : ℕ) (path : Path) (a : Placed) → map.get m (entry ∷ path) ≡ Some a → 1 ≤ charge_of a.facts (level_in facts_of m path)
  pub within : (path : Path) (a : Placed) → map.get m path ≡ Some a → has_cell m path ≡ true → used_in facts_of m path ≤ a.facts.quota
