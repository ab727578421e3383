-- That the tests meet the conditions of the calls.
use Rattle.std.proofs.Common.{◌≡◌, ℕ, true, [], ◌∷◌, Option, Some, None, Result, Ok, refl, sym, ap, ◌∙◌, subst}
use Rattle.std.specs.Prelude.{IfOk, IfSome, option_map}
use Rattle.std.specs.FinMap.{get, get-from_entries}
use Rattle.std.proofs.lemmas.Option.{same_Some}
use Rattle.bk_object.specs.declared.Facts.{Facts}
use Rattle.bk_object.specs.declared.Slot.{Slot}
use Rattle.bk_object.specs.declared.Kind.TheVariants.{Directory}
use Rattle.bk_object.specs.Kinds.{is_directory}
use Rattle.bk_path.specs.Paths.{Path, parent}
use Rattle.bk_path.specs.Orders.{path_total}
use Rattle.bk_tree.specs.declared.place.Placed.{Placed}
use Rattle.bk_tree.specs.Objects.{IsAt, Objects, begun, slot_of}
use Rattle.bk_tree.specs.Kept.{HasDirectory}

root_there : (root : Facts) → is_directory root.kind ≡ true → HasDirectory (begun root) []
root_there root kind = (record { slot = 0; facts = root }, get-from_entries path_total (([], record { slot = 0; facts = root }) ∷ []) [], kind)

-- root is there at first
pub parent_there : {E : Type 0} (root : Facts) (r : Result Objects E) (m : Objects) (path : Path) → r ≡ Ok m → IfOk r (λ tree. tree ≡ begun root) → is_directory root.kind ≡ true → parent path ≡ [] → HasDirectory m (parent path)
parent_there root r m path ok is kind above =
    let same : m ≡ begun root = subst (λ (r : Result Objects _). IfOk r (λ tree. tree ≡ begun root)) ok is in
    subst (λ t. HasDirectory t (parent path)) (sym same) (subst (HasDirectory (begun root)) (sym above) (root_there root kind))

pub parent_is : (root : Path) (o : Option Path) (path : Path) (entry : ℕ) → root ≡ [] → o ≡ Some path → IfSome o (λ path. path ≡ entry ∷ root) → parent path ≡ []
parent_is root o path entry is some below =
    let child : path ≡ entry ∷ root = subst (λ (o : Option Path). IfSome o (λ path. path ≡ entry ∷ root)) some below in
    ap parent child ∙ is

-- what is found and read is there
pub found_there : (m : Objects) (path : Path) (slot : Slot) (held : Facts) → Some slot ≡ option_map slot_of (get m path) →
    ((q : Path) (facts : Facts) → IsAt m q slot.n facts → held ≡ facts) → (n : ℕ) × IsAt m path n held
found_there m path slot held found read = by (get m path) refl found
  where
    by : (o : Option Placed) → get m path ≡ o → Some slot ≡ option_map slot_of o → (n : ℕ) × IsAt m path n held
    by None is h = cc
    by (Some a) is h =
        let one : slot.n ≡ a.slot = ap (λ (s : Slot). s.n) (same_Some slot (slot_of a) h) in
        let at : IsAt m path slot.n a.facts = is ∙ (λ i. Some (record { slot = sym one i; facts = a.facts })) in
        (slot.n, at ∙ (λ i. Some (record { slot = slot.n; facts = sym (read path a.facts at) i })))

-- the parent of its child is there
pub directory_there : (m : Objects) (above path : Path) (held : Facts) (entry : ℕ) → (n : ℕ) × IsAt m above n held → held.kind ≡ Directory → path ≡ entry ∷ above → HasDirectory m (parent path)
directory_there m above path held entry (n, at) kind child =
    (record { slot = n; facts = held }, ap (λ q. get m (parent q)) child ∙ at, ap is_directory kind)
