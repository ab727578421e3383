-- The tree as its callers see it: a map from paths to slots and facts.
use Rattle.std.specs.Prelude.{◌≡◌, ◌≢◌, ℕ, not, [], ◌∷◌, Some, IsNone, IsTrue}
use Rattle.std.specs.FinMap as map
use Rattle.bk_object.specs.declared.Facts.{Facts}
use Rattle.bk_object.specs.declared.Slot.{Slot}
use Rattle.bk_path.specs.Paths.{Path, path_cmp, is_inferior, is_same}
use Rattle.bk_tree.specs.declared.place.Placed.{Placed}

-- from each path to the slot and the facts of the object there
abbrev pub Objects : Type 0
Objects = map.FinMap path_cmp Placed

-- the facts of an object
abbrev pub facts_of : Placed → Facts
facts_of placed = placed.facts

-- the slot of an object
abbrev pub slot_of : Placed → Slot
slot_of placed = record { n = placed.slot }

-- the object at the path has that slot and those facts
abbrev pub IsAt : Objects → Path → (slot : ℕ) → Facts → Type 0
IsAt m path slot facts = map.get m path ≡ Some (record { slot = slot; facts = facts })

-- an object that is there has the slot
abbrev pub HasSlot : Objects → (slot : ℕ) → Type 0
HasSlot m slot = (path : Path) × (facts : Facts) × IsAt m path slot facts

-- root alone, at slot 0
abbrev pub begun : Facts → Objects
begun root = map.from_entries (([], record { slot = 0; facts = root }) ∷ [])

-- no object is one entry below the path
abbrev pub HasNoChild : Objects → Path → Type 0
HasNoChild m path = (entry : ℕ) → IsNone (map.get m (entry ∷ path))

-- an inferior of the path, without children, has the slot
pub record IsLeafOf (m : Objects) (of : Path) (slot : ℕ) : Type 0 where
  pub path : Path
  pub facts : Facts
  pub there : IsAt m path slot facts
  pub inferior : IsTrue (is_inferior path of)
  pub childless : HasNoChild m path

-- an object other than root, without children, has the slot
pub record CanGo (m : Objects) (slot : ℕ) : Type 0 where
  pub path : Path
  pub facts : Facts
  pub there : IsAt m path slot facts
  pub below_root : path ≢ []
  pub childless : HasNoChild m path

-- no object is at the path or below it
abbrev pub HasNone : Objects → (of : Path) → Type 0
HasNone m of = (path : Path) → IsTrue (is_inferior path of) → IsNone (map.get m path)

-- without the object at the path
abbrev pub without : Objects → Path → Objects
without m path = map.retain_keys m (λ other. not (is_same other path))
