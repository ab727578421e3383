-- The list of all paths' numbers with their slots, sorted by the numbers.
use Rattle.std.specs.Prelude.{◌≡◌, ℕ, suc, ◌<◌, ◌≤◌, ◌==◌, nat_le, nat_lt, Bool, true, ◌&&◌, if◌then◌else◌, List, [], ◌∷◌, map, Option, Some, None}
use Rattle.std.specs.FinMap as finite
use Rattle.std.specs.Ordering.{nat_cmp}
use Rattle.bk_path.specs.Paths.{Path}
use Rattle.bk_tree.specs.declared.order.Entry.{Entry}
use Rattle.bk_path.specs.Keys.{key_of, past_of}

-- each number with its slot
abbrev pub keyed : List Entry → List (ℕ × ℕ)
keyed order = map (λ e. (e.key, e.slot)) order

-- the numbers rise, from one on
abbrev pub is_rising : (low : ℕ) → List Entry → Bool
is_rising low [] = true
is_rising low (e ∷ es) = nat_le low e.key && is_rising (suc e.key) es

-- the numbers rise
abbrev pub IsSorted : List Entry → Type 0
IsSorted order = is_rising 0 order ≡ true

-- the slot of an entry that has the number
abbrev pub slot_if : (key : ℕ) → Option Entry → Option ℕ
slot_if key None = None
slot_if key (Some e) = if e.key == key then Some e.slot else None

-- how many stand before the first that isn't below the number
abbrev pub rank : (key : ℕ) → List Entry → ℕ
rank key [] = 0
rank key (e ∷ es) = if nat_lt e.key key then suc (rank key es) else 0

-- the number has the slot
abbrev pub HasKey : List Entry → (key slot : ℕ) → Type 0
HasKey order key slot = finite.find nat_cmp key (keyed order) ≡ Some slot

-- the slot is that of the highest number that isn't past the path's inferiors, which is not below the path's
pub record IsLastOf (order : List Entry) (of : Path) (slot : ℕ) : Type 0 where
  pub key : ℕ
  pub there : HasKey order key slot
  pub from : key_of of ≤ key
  pub to : key < past_of of
  pub last : (k s : ℕ) → HasKey order k s → k < past_of of → k ≤ key

-- each number that isn't past the path's inferiors is below the path's
abbrev pub IsNoneOf : List Entry → (of : Path) → Type 0
IsNoneOf order of = (k s : ℕ) → HasKey order k s → k < past_of of → k < key_of of
