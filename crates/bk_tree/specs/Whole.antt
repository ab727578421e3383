-- What every tree keeps of its tables: the list of paths, the cells and the free places are those of its map.
use Rattle.std.specs.Prelude.{◌≡◌, ℕ, ◌+◌, ◌≤◌, true, List, length, Option, Some, None, option_map, slice_get}
use Rattle.std.specs.FinMap as map
use Rattle.std.specs.Ordering.{nat_cmp}
use Rattle.bk_path.specs.Paths.{Path, IsPath}
use Rattle.bk_quota.specs.Usage.{Usage}
use Rattle.bk_tree.specs.declared.place.Placed.{Placed}
use Rattle.bk_tree.specs.declared.place.Object.{Object}
use Rattle.bk_tree.specs.declared.order.Entry.{Entry}
use Rattle.bk_tree.specs.Objects.{Objects}
use Rattle.bk_tree.specs.Kept.{cell_in, has_cell}
use Rattle.bk_path.specs.Keys.{key_of}
use Rattle.bk_tree.specs.Order.{keyed, HasKey, IsSorted}
use Rattle.bk_tree.specs.Places.{tree_of, IsTree}

-- the object at the path has its entry in the list
pub record IsEntered (order : List Entry) (path : Path) (slot : ℕ) : Type 0 where
  pub valid : IsPath path
  pub there : HasKey order (key_of path) slot

-- the entry is that of an object
pub record IsOfObject (m : Objects) (number place : ℕ) : Type 0 where
  pub path : Path
  pub object : Placed
  pub valid : IsPath path
  pub key : key_of path ≡ number
  pub there : map.get m path ≡ Some object
  pub slot : object.slot ≡ place

-- the list has each object's path and no other
pub record IsIndex (m : Objects) (order : List Entry) : Type 0 where
  pub sorted : IsSorted order
  pub entered : (path : Path) (a : Placed) → map.get m path ≡ Some a → IsEntered order path a.slot
  pub known : (key slot : ℕ) → HasKey order key slot → IsOfObject m key slot

-- a search of the list finds the slot of each object, and none where none is
pub record Finds (m : Objects) (order : List Entry) : Type 0 where
  pub sorted : IsSorted order
  pub found : (path : Path) → IsPath path → map.find nat_cmp (key_of path) (keyed order) ≡ option_map (λ a. a.slot) (map.get m path)

-- the counter of each directory with a cell is the used number of its cell, and its limit that cell's
pub record IsCounted (m : Objects) (cells : List Usage) : Type 0 where
  pub counts : (path : Path) (a : Placed) → map.get m path ≡ Some a → has_cell m path ≡ true → slice_get cells a.slot ≡ Some (cell_in m path)

-- the list has each free place, once
pub record IsVacant (places : List (Option Object)) (free : List ℕ) : Type 0 where
  pub vacant : (i slot : ℕ) → slice_get free i ≡ Some slot → slice_get places slot ≡ Some None
  pub once : (i j slot : ℕ) → slice_get free i ≡ Some slot → slice_get free j ≡ Some slot → i ≡ j
  pub all : (slot : ℕ) → slice_get places slot ≡ Some None → (i : ℕ) × (slice_get free i ≡ Some slot)

-- all of it; each place is in one of the two lists, for which there is room
pub record IsWhole (places : List (Option Object)) (cells : List Usage) (order : List Entry) (free : List ℕ) (entries frees : ℕ) : Type 0 where
  pub tree : IsTree places
  pub index : IsIndex (tree_of places) order
  pub counted : IsCounted (tree_of places) cells
  pub vacant : IsVacant places free
  pub cells_of : length cells ≡ length places
  pub shared : length order + length free ≡ length places
  pub room_entered : length places ≤ entries
  pub room_free : length places ≤ frees
