-- What is looked up in the map of a list of places is what stands at the place.
use Rattle.std.proofs.Common.{◌≡◌, ℕ, zero, suc, ◌+◌, Bool, true, false, cond, List, [], ◌∷◌, Option, Some, None, refl, sym, ap, ◌∙◌, subst, arith, is_eq}
use Rattle.std.specs.Prelude.{slice_get, option_map, IfSome, IsNone, IsSome, ◌↔◌}
use Rattle.std.specs.Ordering.{eq_by_cmp}
use Rattle.std.specs.Cmp.{tied_itself}
use Rattle.std.specs.FinMap.{find, get, get-from_entries}
use Rattle.std.proofs.lemmas.Option.{same_Some}
use Rattle.bk_object.specs.declared.Facts.{Facts}
use Rattle.bk_object.specs.declared.Slot.{Slot}
use Rattle.bk_path.specs.Paths.{Path, path_cmp}
use Rattle.bk_path.specs.Orders.{path_total, same_path, ties-same}
use Rattle.bk_tree.specs.declared.place.Placed.{Placed}
use Rattle.bk_tree.specs.declared.place.Object.{Object}
use Rattle.bk_tree.specs.Objects.{Objects, HasSlot, IsAt, facts_of, slot_of}
use Rattle.bk_tree.specs.Places.{entries_from, tree_of, IsApart}

-- paths that tie are one
pub tied_path : (p q : Path) → eq_by_cmp path_cmp p q ≡ true → p ≡ q
tied_path p q e = same_path p q (sym (ties-same p q) ∙ e)

pub tied-itself : (p : Path) → eq_by_cmp path_cmp p p ≡ true
tied-itself p = ap is_eq (tied_itself path_total p)

abbrev pub placed_at : ℕ → Object → Placed
placed_at n object = record { slot = n; facts = object.facts }

-- what is found stands at its place
pub found-at : (n : ℕ) (places : List (Option Object)) (q : Path) (a : Placed) → find path_cmp q (entries_from n places) ≡ Some a →
    (k : ℕ) × (a.slot ≡ n + k) × (slice_get places k ≡ Some (Some (record { path = q; facts = a.facts })))
found-at n [] q a h = cc
found-at n (None ∷ places) q a h = let (k, slot, there) = found-at (suc n) places q a h in (suc k, omega (arith, slot), there)
found-at n (Some object ∷ places) q a h = by (eq_by_cmp path_cmp q object.path) refl h (found-at (suc n) places q a)
  where
    by : (b : Bool) → eq_by_cmp path_cmp q object.path ≡ b → cond b (Some (placed_at n object)) (find path_cmp q (entries_from (suc n) places)) ≡ Some a →
        (find path_cmp q (entries_from (suc n) places) ≡ Some a → (k : ℕ) × (a.slot ≡ suc n + k) × (slice_get places k ≡ Some (Some (record { path = q; facts = a.facts })))) →
        (k : ℕ) × (a.slot ≡ n + k) × (slice_get (Some object ∷ places) k ≡ Some (Some (record { path = q; facts = a.facts })))
    by true tie h rest =
        let is : placed_at n object ≡ a = same_Some (placed_at n object) a h in
        let slot : n ≡ a.slot = ap (λ (x : Placed). x.slot) is in
        let facts : object.facts ≡ a.facts = ap (λ (x : Placed). x.facts) is in
        (0, omega (arith, slot), λ i. Some (Some (record { path = sym (tied_path q object.path tie) i; facts = facts i })))
    by false tie h rest = let (k, slot, there) = rest h in (suc k, omega (arith, slot), there)

-- what stands at a place is found
pub at-found : (n : ℕ) (places : List (Option Object)) (k : ℕ) (a : Object) → IsApart places → slice_get places k ≡ Some (Some a) →
    find path_cmp a.path (entries_from n places) ≡ Some (placed_at (n + k) a)
at-found n [] k a apart h = cc
at-found n (None ∷ places) zero a apart h = cc
at-found n (None ∷ places) (suc k) a apart h =
    let more : suc n + k ≡ n + suc k = omega arith in
    at-found (suc n) places k a (λ i j x y hx hy same. let e = apart (suc i) (suc j) x y hx hy same in omega (arith, e)) h ∙ ap (λ m. Some (placed_at m a)) more
at-found n (Some object ∷ places) zero a apart h =
    let is : object ≡ a = same_Some object a (same_Some (Some object) (Some a) h) in
    let none : n ≡ n + zero = omega arith in
    ap (λ b. cond b (Some (placed_at n object)) (find path_cmp a.path (entries_from (suc n) places))) (ap (λ (x : Object). eq_by_cmp path_cmp a.path x.path) is ∙ tied-itself a.path)
    ∙ (λ i. Some (placed_at (none i) (is i)))
at-found n (Some object ∷ places) (suc k) a apart h = by (eq_by_cmp path_cmp a.path object.path) refl
    (at-found (suc n) places k a (λ i j x y hx hy same. let e = apart (suc i) (suc j) x y hx hy same in omega (arith, e)) h)
  where
    by : (b : Bool) → eq_by_cmp path_cmp a.path object.path ≡ b → find path_cmp a.path (entries_from (suc n) places) ≡ Some (placed_at (suc n + k) a) →
        cond b (Some (placed_at n object)) (find path_cmp a.path (entries_from (suc n) places)) ≡ Some (placed_at (n + suc k) a)
    by true tie rest = let e = apart (suc k) 0 a object h refl (tied_path a.path object.path tie) in absurd (omega (arith, e))
    by false tie rest = let more : suc n + k ≡ n + suc k = omega arith in rest ∙ ap (λ m. Some (placed_at m a)) more

module _ (places : List (Option Object)) where
  -- an object of the map stands at its place
  pub stands : (path : Path) (slot : ℕ) (facts : Facts) → IsAt (tree_of places) path slot facts → slice_get places slot ≡ Some (Some (record { path = path; facts = facts }))
  stands path slot facts h =
      let (k, is, there) = found-at 0 places path (record { slot = slot; facts = facts }) (sym (get-from_entries path_total (entries_from 0 places) path) ∙ h) in
      let same : k ≡ slot = omega (arith, is) in
      ap (slice_get places) (sym same) ∙ there

  -- an object that stands at a place is in the map
  pub is_there : IsApart places → (slot : ℕ) (a : Object) → slice_get places slot ≡ Some (Some a) → IsAt (tree_of places) a.path slot a.facts
  is_there apart slot a h =
      let same : 0 + slot ≡ slot = omega arith in
      get-from_entries path_total (entries_from 0 places) a.path ∙ at-found 0 places slot a apart h ∙ ap (λ m. Some (placed_at m a)) same

-- who has a slot stands at its place
pub stands_there : (places seen : List (Option Object)) (m : Objects) (slot : ℕ) → seen ≡ places → tree_of places ≡ m → HasSlot m slot → (x : Object) × (slice_get seen slot ≡ Some (Some x))
stands_there places seen m slot same view (path, facts, h) =
    (record { path = path; facts = facts }, ap (λ xs. slice_get xs slot) same ∙ stands places path slot facts (ap (λ t. get t path) view ∙ h))

pub facts_there : (places seen : List (Option Object)) (m : Objects) (slot : ℕ) (x : Object) → seen ≡ places → tree_of places ≡ m → slice_get seen slot ≡ Some (Some x) →
    (path : Path) (facts : Facts) → IsAt m path slot facts → x.facts ≡ facts
facts_there places seen m slot x same view at path facts h =
    let both = sym at ∙ ap (λ xs. slice_get xs slot) same ∙ stands places path slot facts (ap (λ t. get t path) view ∙ h) in
    ap (λ (o : Object). o.facts) (same_Some x (record { path = path; facts = facts }) (same_Some (Some x) (Some (record { path = path; facts = facts })) both))

-- the slot that is found, if one is
pub slot_found : (m : Objects) (q : Path) → IfSome (option_map slot_of (get m q)) (λ slot. HasSlot m slot.n)
slot_found m q = by (get m q) refl
  where
    by : (o : Option Placed) → get m q ≡ o → IfSome (option_map slot_of o) (λ slot. HasSlot m slot.n)
    by None is = tt
    by (Some a) is = (q, a.facts, is)

pub none_found : (o : Option Placed) → IsNone (option_map slot_of o) ↔ IsNone o
none_found None = (λ h. h, λ h. h)
none_found (Some a) = (λ h. h, λ h. h)

-- the slot that a search gives has the object
pub found_slot : (places : List (Option Object)) (path : Path) (slot : Slot) → Some slot ≡ option_map slot_of (find path_cmp path (entries_from 0 places)) →
    (a : Placed) × (find path_cmp path (entries_from 0 places) ≡ Some a) × (slice_get places slot.n ≡ Some (Some (record { path = path; facts = a.facts })))
found_slot places path slot h = by (find path_cmp path (entries_from 0 places)) refl h
  where
    by : (o : Option Placed) → find path_cmp path (entries_from 0 places) ≡ o → Some slot ≡ option_map slot_of o →
        (a : Placed) × (find path_cmp path (entries_from 0 places) ≡ Some a) × (slice_get places slot.n ≡ Some (Some (record { path = path; facts = a.facts })))
    by None is h = cc
    by (Some a) is h =
        let (k, slot_is, there) = found-at 0 places path a is in
        let one : slot.n ≡ a.slot = ap (λ (s : Slot). s.n) (same_Some slot (slot_of a) h) in
        let same : k ≡ slot.n = omega (arith, slot_is, one) in
        (a, is, ap (slice_get places) (sym same) ∙ there)

pub facts_some : (places : List (Option Object)) (path : Path) (slot : Slot) (x : Object) → Some slot ≡ option_map slot_of (find path_cmp path (entries_from 0 places)) →
    slice_get places slot.n ≡ Some (Some x) → Some x.facts ≡ option_map facts_of (get (tree_of places) path)
facts_some places path slot x found at =
    let (a, is, there) = found_slot places path slot found in
    let one : x.facts ≡ a.facts = ap (λ (o : Object). o.facts) (same_Some x (record { path = path; facts = a.facts }) (same_Some (Some x) (Some (record { path = path; facts = a.facts })) (sym at ∙ there))) in
    ap Some one ∙ ap (option_map facts_of) (sym (get-from_entries path_total (entries_from 0 places) path ∙ is))

pub facts_none : (places : List (Option Object)) (path : Path) → None ≡ option_map slot_of (find path_cmp path (entries_from 0 places)) → None ≡ option_map facts_of (get (tree_of places) path)
facts_none places path found = by (find path_cmp path (entries_from 0 places)) found ∙ ap (option_map facts_of) (sym (get-from_entries path_total (entries_from 0 places) path))
  where
    by : (o : Option Placed) → None ≡ option_map slot_of o → None ≡ option_map facts_of o
    by None h = refl
    by (Some a) h = cc

module _ (places seen : List (Option Object)) (m : Objects) (slot : ℕ) (x : Object) (same : seen ≡ places) (view : tree_of places ≡ m) (at : slice_get seen slot ≡ Some (Some x)) where
  pub path_there : (path : Path) (facts : Facts) → IsAt m path slot facts → x.path ≡ path
  path_there path facts h =
      let both = sym at ∙ ap (λ xs. slice_get xs slot) same ∙ stands places path slot facts (ap (λ t. get t path) view ∙ h) in
      ap (λ (o : Object). o.path) (same_Some x (record { path = path; facts = facts }) (same_Some (Some x) (Some (record { path = path; facts = facts })) both))

  pub some_there : IsApart places → (other : List (Option Object)) → other ≡ places → IsSome (get (tree_of other) x.path)
  some_there apart other alike =
      let there : get (tree_of other) x.path ≡ Some (placed_at slot x) = ap (λ xs. get (tree_of xs) x.path) alike ∙ is_there places apart slot x (ap (λ xs. slice_get xs slot) (sym same) ∙ at) in
      subst IsSome (sym there) refl
