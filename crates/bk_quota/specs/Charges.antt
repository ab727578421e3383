-- What objects are charged, and to which cell, over a map from paths to values that have facts.
use Rattle.std.specs.Prelude.{ℕ, ◌+◌, Bool, false, ◌&&◌, not, [], ◌∷◌, Option, Some, None, ◌==◌, sum_by, unwrap_or, option_map, if◌then◌else◌}
use Rattle.std.specs.FinMap as map
use Rattle.bk_object.specs.declared.Kind.{Kind}
use Rattle.bk_object.specs.declared.Kind.TheVariants.{Directory, Segment, Mailbox, Line}
use Rattle.bk_object.specs.declared.Facts.{Facts}
use Rattle.bk_object.specs.Kinds.{is_directory}
use Rattle.bk_path.specs.Paths.{Path, path_cmp, is_same}

-- there is a value, and it passes the test
abbrev pub passes : {A : Type 0} → (A → Bool) → Option A → Bool
passes test None = false
passes test (Some x) = test x

-- the charge of an object whose parent has that level number
abbrev pub charge_of : Facts → (above : ℕ) → ℕ
charge_of facts above = charge_by facts.kind
  where
    charge_by : Kind → ℕ
    charge_by Directory = if facts.level == above then 1 else facts.quota
    charge_by Segment = facts.blocks
    charge_by Mailbox = 2
    charge_by (Line n) = 1

module _ {X : Type 0} (facts_of : X → Facts) where
  -- the facts of the object at the path
  abbrev pub facts_in : map.FinMap path_cmp X → Path → Option Facts
  facts_in m path = option_map facts_of (map.get m path)

  -- a directory below root whose level is not its parent's
  abbrev pub is_upgraded_in : map.FinMap path_cmp X → Path → Bool
  is_upgraded_in m [] = false
  is_upgraded_in m (entry ∷ path) = passes (λ facts. is_directory facts.kind && passes (λ above. not (above.level == facts.level)) (facts_in m path)) (facts_in m (entry ∷ path))

  -- the nearest of a directory and its ancestors that has a cell: root, or an upgraded directory
  abbrev pub governing_in : map.FinMap path_cmp X → Path → Path
  governing_in m [] = []
  governing_in m (entry ∷ path) = if is_upgraded_in m (entry ∷ path) then entry ∷ path else governing_in m path

  -- the number of the level of what is at the path, and 0 where nothing is
  abbrev pub level_in : map.FinMap path_cmp X → Path → ℕ
  level_in m path = unwrap_or (option_map (λ facts. facts.level) (facts_in m path)) 0

  -- the quota of what is at the path, and 0 where nothing is
  abbrev pub quota_in : map.FinMap path_cmp X → Path → ℕ
  quota_in m path = unwrap_or (option_map (λ facts. facts.quota) (facts_in m path)) 0

  -- what an object at the path adds to the used number of the cell: its charge, where the cell governs its parent
  abbrev pub share_in : map.FinMap path_cmp X → (cell : Path) → Path → Facts → ℕ
  share_in m cell [] facts = 0
  share_in m cell (entry ∷ path) facts = if is_same (governing_in m path) cell then charge_of facts (level_in m path) else 0

  -- the used number of a cell: 1, and the charges of all objects whose parent it governs
  abbrev pub used_in : map.FinMap path_cmp X → (cell : Path) → ℕ
  used_in m cell = 1 + sum_by (λ object. share_in m cell object.0 (facts_of object.1)) (map.entries m)
