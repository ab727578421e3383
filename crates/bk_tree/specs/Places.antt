-- A list of places as the map from paths to slots and facts.
use Rattle.std.specs.Prelude.{◌≡◌, ◌≢◌, ℕ, suc, ◌≤◌, true, List, [], ◌∷◌, length, Option, Some, None, slice_get, ◌<◌}
use Rattle.std.specs.FinMap as map
use Rattle.bk_object.specs.declared.Facts.{Facts}
use Rattle.bk_object.specs.Kinds.{is_directory}
use Rattle.bk_object.specs.Limits.{largest_quota}
use Rattle.bk_path.specs.Paths.{Path}
use Rattle.bk_tree.specs.declared.place.Placed.{Placed}
use Rattle.bk_tree.specs.declared.place.Object.{Object}
use Rattle.bk_tree.specs.Objects.{Objects}
use Rattle.bk_tree.specs.Kept.{IsKept}

-- what the places hold, the first of them having that number
abbrev pub entries_from : ℕ → List (Option Object) → List (Path × Placed)
entries_from n [] = []
entries_from n (None ∷ places) = entries_from (suc n) places
entries_from n (Some object ∷ places) = (object.path, record { slot = n; facts = object.facts }) ∷ entries_from (suc n) places

-- the map that a list of places stands for
abbrev pub tree_of : List (Option Object) → Objects
tree_of places = map.from_entries (entries_from 0 places)

-- no path stands at two places
abbrev pub IsApart : List (Option Object) → Type 0
IsApart places = (i j : ℕ) (a b : Object) → slice_get places i ≡ Some (Some a) → slice_get places j ≡ Some (Some b) → a.path ≡ b.path → i ≡ j

-- the first place is root's, with as many places as its quota
pub record IsRooted (places : List (Option Object)) (root : Facts) : Type 0 where
  pub first : slice_get places 0 ≡ Some (Some (record { path = []; facts = root }))
  pub kind : is_directory root.kind ≡ true
  pub quota : root.quota ≡ length places

-- each path stands once, root is there, and no cell is overdrawn
pub record IsTree (places : List (Option Object)) : Type 0 where
  pub apart : IsApart places
  pub rooted : (root : Facts) × IsRooted places root
  pub short : length places ≤ largest_quota
  pub kept : IsKept (tree_of places)

-- none of the first places is free
abbrev pub IsFull : List (Option Object) → (first : ℕ) → Type 0
IsFull places first = (place : ℕ) → place < first → slice_get places place ≢ Some None
