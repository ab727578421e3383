-- The entries of a store by its tree: what an object has where it is, and which objects are one.
use Rattle.std.proofs.Common.{◌≡◌, ℕ, Bool, true, false, cond, List, Option, Some, None, refl, sym, ap, ◌∙◌, is_some}
use Rattle.std.specs.Prelude.{option_map}
use Rattle.std.specs.FinMap as finite
use Rattle.std.specs.FinSet as set
use Rattle.std.proofs.lemmas.Option.{same_Some}
use Rattle.bk_base.proofs.MapValues.{get-map_values}
use Rattle.bk_level.specs.Levels.{Level}
use Rattle.bk_state.specs.State.{triple_cmp}
use Rattle.bk_object.specs.declared.Facts.{Facts}
use Rattle.bk_object.specs.declared.Slot.{Slot}
use Rattle.bk_path.specs.Paths.{Path, path_cmp, is_same}
use Rattle.bk_path.specs.Orders.{path_total, path_apart, ties-same}
use Rattle.bk_quota.specs.Charges.{passes}
use Rattle.bk_tree.specs.declared.place.Placed.{Placed}
use Rattle.bk_tree.specs.Objects.{Objects, slot_of, IsAt}
use Rattle.bk_store.specs.Stored.{Entry, Stored, changed_by, changed_at}
use Rattle.bk_store.specs.Joined.{Tables, entry_of, entries_of, slot_in}

abbrev pub as_stored : List Level → (lines : ℕ) → finite.FinMap path_cmp Entry → set.FinSet triple_cmp → Stored
as_stored levels lines objects access = record { levels = levels; lines = lines; objects = objects; access = access }

pub get-entry : (tree : Objects) (tables : Tables) (p : Path) → finite.get (entries_of tree tables) p ≡ option_map (entry_of tables) (finite.get tree p)
get-entry tree tables p = get-map_values path_cmp (entry_of tables) tree p

-- the object whose slot was found
pub at_slot : (tree : Objects) (path : Path) (slot : Slot) → Some slot ≡ option_map slot_of (finite.get tree path) → (facts : Facts) × IsAt tree path slot.n facts
at_slot tree path slot h = by (finite.get tree path) refl h
  where
    by : (o : Option Placed) → finite.get tree path ≡ o → Some slot ≡ option_map slot_of o → (facts : Facts) × IsAt tree path slot.n facts
    by None is h = cc
    by (Some a) is h =
        let same : a.slot ≡ slot.n = ap (λ (s : Slot). s.n) (sym (same_Some slot (slot_of a) h)) in
        (a.facts, is ∙ (λ i. Some (record { slot = same i; facts = a.facts })))

pub none_at : (tree : Objects) (path : Path) → None ≡ option_map slot_of (finite.get tree path) → finite.get tree path ≡ None
none_at tree path h = by (finite.get tree path) h
  where
    by : (o : Option Placed) → None ≡ option_map slot_of o → o ≡ None
    by None h = refl
    by (Some a) h = cc

pub its_slot : (tree : Objects) (path : Path) (slot : ℕ) (facts : Facts) → IsAt tree path slot facts → slot_in tree path ≡ Some slot
its_slot tree path slot facts at = ap (option_map (λ (a : Placed). a.slot)) at

-- where an object is, a slot is found
pub some_slot : (tree : Objects) (tables : Tables) (path : Path) (r : Option Slot) → r ≡ option_map slot_of (finite.get tree path) → is_some (finite.get (entries_of tree tables) path) ≡ true → is_some r ≡ true
some_slot tree tables path r is h = ap is_some is ∙ by (finite.get tree path) ∙ ap is_some (sym (get-entry tree tables path)) ∙ h
  where
    by : (o : Option Placed) → is_some (option_map slot_of o) ≡ is_some (option_map (entry_of tables) o)
    by None = refl
    by (Some a) = refl

-- what passes a test is there
pub there : (test : Entry → Bool) (o : Option Entry) → passes test o ≡ true → is_some o ≡ true
there test None h = cc
there test (Some e) h = refl

-- an object of some kind has that kind in the tree
pub kind_is : (tree : Objects) (tables : Tables) (path : Path) (slot : ℕ) (facts : Facts) (test : Entry → Bool) → IsAt tree path slot facts → passes test (finite.get (entries_of tree tables) path) ≡ true → test (entry_of tables (record { slot = slot; facts = facts })) ≡ true
kind_is tree tables path slot facts test at h = sym (ap (passes test) (get-entry tree tables path ∙ ap (option_map (entry_of tables)) at)) ∙ h

-- a change of one object by the tree and the tables is that change of the store
pub one-changed : (levels : List Level) (lines : ℕ) (tree new : Objects) (tables later : Tables) (access now : set.FinSet triple_cmp) (path : Path) (a b : Placed) (change : Entry → Entry) →
    finite.get tree path ≡ Some a → entry_of later b ≡ change (entry_of tables a) →
    ((q : Path) → finite.get new q ≡ cond (is_same q path) (Some b) (finite.get tree q)) →
    ((q : Path) (x : Placed) → is_same q path ≡ false → finite.get tree q ≡ Some x → entry_of later x ≡ entry_of tables x) →
    now ≡ access →
    as_stored levels lines (entries_of new later) now ≡ changed_at path change (as_stored levels lines (entries_of tree tables) access)
one-changed levels lines tree new tables later access now path a b change at becomes is others same_access =
    (λ i. as_stored levels lines (objects i) (same_access i))
    ∙ sym (ap (changed_by (as_stored levels lines (entries_of tree tables) access) path change) (get-entry tree tables path ∙ ap (option_map (entry_of tables)) at))
  where
    same : (q : Path) → is_same q path ≡ false → (o : Option Placed) → finite.get tree q ≡ o → option_map (entry_of later) o ≡ option_map (entry_of tables) o
    same q e None h = refl
    same q e (Some x) h = ap Some (others q x e h)

    each : (q : Path) (c : Bool) → is_same q path ≡ c → option_map (entry_of later) (cond c (Some b) (finite.get tree q)) ≡ cond c (Some (change (entry_of tables a))) (option_map (entry_of tables) (finite.get tree q))
    each q true e = ap Some becomes
    each q false e = same q e (finite.get tree q) refl

    objects : entries_of new later ≡ finite.insert (entries_of tree tables) path (change (entry_of tables a))
    objects = finite.same_map path_total path_apart _ _ (λ q.
        get-entry new later q ∙ ap (option_map (entry_of later)) (is q) ∙ each q (is_same q path) refl
        ∙ sym (finite.get-insert path_total (entries_of tree tables) path (change (entry_of tables a)) q ∙ (λ i. cond (ties-same q path i) (Some (change (entry_of tables a))) (get-entry tree tables q i))))
