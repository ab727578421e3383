-- What the store finds and changes, as the state that a call sees.
use Rattle.std.proofs.Common.{◌≡◌, ℕ, Bool, true, false, cond, List, Option, Some, None, refl, sym, ap, ◌∙◌}
use Rattle.std.specs.Prelude.{option_map}
use Rattle.std.specs.Ordering.{eq_by_cmp}
use Rattle.std.specs.FinMap as finite
use Rattle.bk_path.specs.Paths.{Path, path_cmp}
use Rattle.bk_path.specs.Orders.{path_total, path_apart, same_path, ties-same}
use Rattle.bk_object.specs.declared.Facts.{Facts}
use Rattle.bk_quota.specs.Charges.{passes}
use Rattle.bk_state.specs.State.{State, Object, find}
use Rattle.bk_state.specs.RowCalls.{changed_at as state_changed_at, changed_by as state_changed_by}
use Rattle.bk_store.specs.Stored.{Entry, Stored, changed_at, changed_by, facts_in, object_of, objects_of}
use Rattle.bk_store.proofs.Stands.{get-objects_of, objects_of-insert}
use Rattle.bk_calls.specs.declared.caller.Caller.{Caller}
use Rattle.bk_calls.specs.Made.{seen_by}

-- an object put where it stands is no change
insert-found : (m : finite.FinMap path_cmp Entry) (path : Path) (e : Entry) → finite.get m path ≡ Some e → finite.insert m path e ≡ m
insert-found m path e has = finite.same_map path_total path_apart _ _ (λ q. finite.get-insert path_total m path e q ∙ by q (eq_by_cmp path_cmp q path) refl)
  where
    by : (q : Path) (b : Bool) → eq_by_cmp path_cmp q path ≡ b → cond b (Some e) (finite.get m q) ≡ finite.get m q
    by q true is = sym has ∙ ap (finite.get m) (sym (same_path q path (sym (ties-same q path) ∙ is)))
    by q false is = refl

-- a change that leaves the object as it is is none
pub unchanged : (store : Stored) (path : Path) (change : Entry → Entry) (e : Entry) → finite.get store.objects path ≡ Some e → change e ≡ e → changed_at path change store ≡ store
unchanged store path change e has same =
    ap (changed_by store path change) has
    ∙ ap (λ (x : Entry). record store { objects = finite.insert store.objects path x }) same
    ∙ ap (λ m. record store { objects = m }) (insert-found store.objects path e has)

-- the entry of which the facts are
pub entry_there : {P : Type 0} (store : Stored) (path : Path) (facts : Facts) → facts_in store path ≡ Some facts → ((e : Entry) → finite.get store.objects path ≡ Some e → e.facts ≡ facts → P) → P
entry_there {P} store path facts has use_it = by (finite.get store.objects path) refl has
  where
    by : (o : Option Entry) → finite.get store.objects path ≡ o → option_map (λ (e : Entry). e.facts) o ≡ Some facts → P
    by None is h = cc
    by (Some e) is h = use_it e is (let same : Some e.facts ≡ Some facts = h in cc)

-- a test of the facts is one of the entry
pub passes-facts : (store : Stored) (path : Path) (facts : Facts) (test : Facts → Bool) → facts_in store path ≡ Some facts → passes (λ (e : Entry). test e.facts) (finite.get store.objects path) ≡ test facts
passes-facts store path facts test has = entry_there store path facts has (λ e is same. ap (passes (λ (x : Entry). test x.facts)) is ∙ ap test same)

module _ (caller : Caller) (store : Stored) (words : List ℕ) where
  abbrev seen : State
  seen = seen_by caller store words

  -- the store's other parts stay
  pub changed-access : (path : Path) (becomes : Object → Object) → (state_changed_at seen path becomes).access ≡ store.access
  changed-access path becomes = by (find seen path)
    where
      by : (o : Option Object) → (state_changed_by seen path becomes o).access ≡ store.access
      by None = refl
      by (Some o) = refl

  -- one object becomes another, in the store and in the state
  pub changed-objects : (path : Path) (change : Entry → Entry) (becomes : Object → Object) → ((e : Entry) → object_of words (change e) ≡ becomes (object_of words e)) →
      objects_of (changed_at path change store) words ≡ (state_changed_at seen path becomes).objects
  changed-objects path change becomes agree =
      by (finite.get store.objects path) ∙ sym (ap (λ o. (state_changed_by seen path becomes o).objects) (get-objects_of store words path))
    where
      by : (o : Option Entry) → objects_of (changed_by store path change o) words ≡ (state_changed_by seen path becomes (option_map (object_of words) o)).objects
      by None = refl
      by (Some e) = objects_of-insert words store.objects path (change e) ∙ ap (finite.insert (objects_of store words) path) (agree e)

-- the store's other parts stay
pub store-access : (path : Path) (change : Entry → Entry) (store : Stored) → (changed_at path change store).access ≡ store.access
store-access path change store = by (finite.get store.objects path)
  where
    by : (o : Option Entry) → (changed_by store path change o).access ≡ store.access
    by None = refl
    by (Some e) = refl

pub store-levels : (path : Path) (change : Entry → Entry) (store : Stored) → (changed_at path change store).levels ≡ store.levels
store-levels path change store = by (finite.get store.objects path)
  where
    by : (o : Option Entry) → (changed_by store path change o).levels ≡ store.levels
    by None = refl
    by (Some e) = refl

pub store-lines : (path : Path) (change : Entry → Entry) (store : Stored) → (changed_at path change store).lines ≡ store.lines
store-lines path change store = by (finite.get store.objects path)
  where
    by : (o : Option Entry) → (changed_by store path change o).lines ≡ store.lines
    by None = refl
    by (Some e) = refl

-- a store that has become another, as the state has
pub record Moved (before after : Stored) (words words_after : List ℕ) (x : State) : Type 0 where
  pub objects : objects_of after words_after ≡ x.objects
  pub access : after.access ≡ x.access
  pub levels : after.levels ≡ before.levels
  pub lines : after.lines ≡ before.lines

pub moved : (caller : Caller) (store after : Stored) (words : List ℕ) (asked path : Path) → asked ≡ path → (change : Entry → Entry) (becomes : Object → Object) → ((e : Entry) → object_of words (change e) ≡ becomes (object_of words e)) →
    after ≡ changed_at path change store → Moved store after words words (state_changed_at (seen_by caller store words) asked becomes)
moved caller store after words asked path same change becomes agree is = record {
  objects = ap (λ (v : Stored). objects_of v words) is ∙ changed-objects caller store words path change becomes agree ∙ ap (λ p. (state_changed_at (seen_by caller store words) p becomes).objects) (sym same);
  access = ap (λ (v : Stored). v.access) is ∙ store-access path change store ∙ sym (changed-access caller store words asked becomes);
  levels = ap (λ (v : Stored). v.levels) is ∙ store-levels path change store;
  lines = ap (λ (v : Stored). v.lines) is ∙ store-lines path change store;
}
