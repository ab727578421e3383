-- Finite maps with each value changed, and lists of entries in which no key stands twice.
use Rattle.std.specs.Prelude.{map, List, [], ◌∷◌, ◌≡◌, ⊤, None}
use Rattle.std.specs.FinMap.{FinMap, entries, from_sorted, find}
use Rattle.std.specs.declared.cmp.Ordering.{Ordering}

-- the map with each value changed
abbrev pub map_values : {K X Y : Type 0} {R : K → K → Ordering} → (X → Y) → FinMap R X → FinMap R Y
map_values f m = from_sorted (map (λ e. (e.0, f e.1)) (entries m))

module _ {K X : Type 0} (R : K → K → Ordering) where
  -- no key stands twice
  abbrev pub IsDistinct : List (K × X) → Type 0
  IsDistinct [] = ⊤
  IsDistinct (e ∷ es) = (find R e.0 es ≡ None) × IsDistinct es
