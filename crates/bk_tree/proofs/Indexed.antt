-- The list of paths against the map, before and after an object comes or goes.
use Rattle.std.proofs.Common.{◌≡◌, ◌≢◌, ℕ, Bool, true, false, cond, not, List, [], ◌∷◌, Option, Some, None, refl, sym, ap, ◌∙◌, subst, arith}
use Rattle.std.specs.Prelude.{option_map}
use Rattle.std.specs.List.{insert as put_in, remove as taken_out}
use Rattle.std.specs.Ordering.{nat_cmp, eq_by_cmp}
use Rattle.std.specs.FinMap.{empty, get-empty, get, insert, find, get-insert, get-from_entries, get-retain_keys, same_map}
use Rattle.std.proofs.lemmas.Option.{same_Some}
use Rattle.bk_object.specs.declared.Facts.{Facts}
use Rattle.bk_object.specs.declared.Slot.{Slot}
use Rattle.bk_path.specs.Paths.{Path, path_cmp, is_same, IsPath}
use Rattle.bk_path.specs.Orders.{path_total, path_apart, same_path, is_same-itself}
use Rattle.bk_tree.specs.declared.place.Placed.{Placed}
use Rattle.bk_tree.specs.declared.order.Entry.{Entry}
use Rattle.bk_tree.specs.Objects.{Objects, begun, slot_of, without}
use Rattle.bk_path.specs.Keys.{key_of}
use Rattle.bk_tree.specs.Order.{keyed, rank}
use Rattle.bk_tree.specs.Whole.{Finds, IsEntered, IsIndex, IsOfObject}
use Rattle.bk_tree.proofs.Found.{tied_path, tied-itself}
use Rattle.bk_path.proofs.KeyLemmas.{same_key}
use Rattle.bk_tree.proofs.OrderLemmas.{Entered, Left, entering, found, leaving, number_itself, other_number, rising_from, rising_to, same_number}

-- a search finds what the map has
pub finds : (m : Objects) (order : List Entry) → IsIndex m order → Finds m order
finds m order index = record { sorted = index.sorted; found = λ path is. by path is (get m path) refl }
  where
    by : (path : Path) → IsPath path → (o : Option Placed) → get m path ≡ o → find nat_cmp (key_of path) (keyed order) ≡ option_map (λ (a : Placed). a.slot) o
    by path is (Some a) h = (index.entered path a h).there
    by path is None h = none (find nat_cmp (key_of path) (keyed order)) refl
      where
        none : (o : Option ℕ) → find nat_cmp (key_of path) (keyed order) ≡ o → o ≡ None
        none None at = refl
        none (Some s) at =
            let it = index.known (key_of path) s at in
            let same = same_key it.path path it.valid is it.key in
            absurd (cc (sym it.there ∙ ap (get m) same ∙ h))

-- the map has the object that a slot was found for
pub found_there : (m : Objects) (order : List Entry) → Finds m order → (path : Path) → IsPath path → (slot : ℕ) → find nat_cmp (key_of path) (keyed order) ≡ Some slot → (a : Placed) × (get m path ≡ Some a) × (a.slot ≡ slot)
found_there m order finds path is slot h = by (get m path) refl
  where
    by : (o : Option Placed) → get m path ≡ o → (a : Placed) × (get m path ≡ Some a) × (a.slot ≡ slot)
    by None at = absurd (cc (sym h ∙ finds.found path is ∙ ap (option_map (λ (a : Placed). a.slot)) at))
    by (Some a) at =
        let both : Some slot ≡ Some a.slot = sym h ∙ finds.found path is ∙ ap (option_map (λ (a : Placed). a.slot)) at in
        (a, at, sym (same_Some slot a.slot both))

module _ (m : Objects) (order : List Entry) (index : IsIndex m order) (path : Path) (valid : IsPath path) where
  abbrev pub key : ℕ
  key = key_of path

  other_key : (q : Path) → IsPath q → q ≢ path → key_of q ≢ key
  other_key q is differ same = differ (same_key q path is valid same)

  -- an object comes
  pub index-insert : (x : Placed) → get m path ≡ None → IsIndex (insert m path x) (put_in order (rank key order) (record { key = key; slot = x.slot }))
  index-insert x free = record {
    sorted = rising_to 0 _ after.rising;
    entered = λ q a h. entered q a (eq_by_cmp path_cmp q path) refl (sym (get-insert path_total m path x q) ∙ h);
    known = λ k s h. known k s (eq_by_cmp nat_cmp k key) refl (sym (after.each k) ∙ h);
  }
    where
      none : found key order ≡ None
      none = (finds m order index).found path valid ∙ ap (option_map (λ (a : Placed). a.slot)) free

      after : Entered 0 key x.slot order (put_in order (rank key order) (record { key = key; slot = x.slot }))
      after = entering 0 key x.slot order (rising_from 0 order index.sorted) (omega arith) none

      entered : (q : Path) (a : Placed) (t : Bool) → eq_by_cmp path_cmp q path ≡ t → cond t (Some x) (get m q) ≡ Some a → IsEntered (put_in order (rank key order) (record { key = key; slot = x.slot })) q a.slot
      entered q a true tie h =
          let is = tied_path q path tie in
          let one : x ≡ a = same_Some x a h in
          record {
            valid = subst IsPath (sym is) valid;
            there = ap (λ r. found (key_of r) (put_in order (rank key order) (record { key = key; slot = x.slot }))) is ∙ after.each key ∙ ap (λ t. cond t (Some x.slot) (found key order)) (number_itself key) ∙ ap (λ (y : Placed). Some y.slot) one;
          }
      entered q a false tie h =
          let old = index.entered q a h in
          let differ : q ≢ path = λ same. absurd (cc (sym tie ∙ ap (λ r. eq_by_cmp path_cmp r path) same ∙ tied-itself path)) in
          record {
            valid = old.valid;
            there = after.each (key_of q) ∙ ap (λ t. cond t (Some x.slot) (found (key_of q) order)) (other_number (key_of q) key (other_key q old.valid differ)) ∙ old.there;
          }

      known : (k s : ℕ) (t : Bool) → eq_by_cmp nat_cmp k key ≡ t → cond t (Some x.slot) (found k order) ≡ Some s → IsOfObject (insert m path x) k s
      known k s true same h = record {
        path = path;
        object = x;
        valid = valid;
        key = sym (same_number k key same);
        there = get-insert path_total m path x path ∙ ap (λ t. cond t (Some x) (get m path)) (tied-itself path);
        slot = same_Some x.slot s h;
      }
      known k s false other h =
          let old = index.known k s h in record {
            path = old.path;
            object = old.object;
            valid = old.valid;
            key = old.key;
            there = get-insert path_total m path x old.path ∙ by old.path old.object old.there (eq_by_cmp path_cmp old.path path) refl;
            slot = old.slot;
          }
        where
          by : (q : Path) (a : Placed) → get m q ≡ Some a → (t : Bool) → eq_by_cmp path_cmp q path ≡ t → cond t (Some x) (get m q) ≡ Some a
          by q a there true tie = absurd (cc (sym there ∙ ap (get m) (tied_path q path tie) ∙ free))
          by q a there false tie = there

  -- an object goes
  pub index-remove : (a : Placed) → get m path ≡ Some a → IsIndex (without m path) (taken_out order (rank key order))
  index-remove a there = record {
    sorted = rising_to 0 _ after.rising;
    entered = λ q b h. entered q b (is_same q path) refl (sym (get-without q) ∙ h);
    known = λ k s h. known k s (eq_by_cmp nat_cmp k key) refl (sym (after.each k) ∙ h);
  }
    where
      after : Left 0 key order (taken_out order (rank key order))
      after = leaving 0 key a.slot order (rising_from 0 order index.sorted) ((index.entered path a there).there)

      get-without : (q : Path) → get (without m path) q ≡ cond (not (is_same q path)) (get m q) None
      get-without q = get-retain_keys m (λ r. not (is_same r path)) q (λ x same. ap (λ r. not (is_same r path)) (sym (path_apart q x same)))

      entered : (q : Path) (b : Placed) (t : Bool) → is_same q path ≡ t → cond (not t) (get m q) None ≡ Some b → IsEntered (taken_out order (rank key order)) q b.slot
      entered q b true same h = cc
      entered q b false other h =
          let old = index.entered q b h in
          let differ : q ≢ path = λ same. absurd (cc (sym other ∙ ap (λ r. is_same r path) same ∙ is_same-itself path)) in
          record {
            valid = old.valid;
            there = after.each (key_of q) ∙ ap (λ t. cond t None (found (key_of q) order)) (other_number (key_of q) key (other_key q old.valid differ)) ∙ old.there;
          }

      known : (k s : ℕ) (t : Bool) → eq_by_cmp nat_cmp k key ≡ t → cond t None (found k order) ≡ Some s → IsOfObject (without m path) k s
      known k s true same h = cc
      known k s false other h =
          let old = index.known k s h in
          let differ = apart old.path old.key (is_same old.path path) refl in record {
            path = old.path;
            object = old.object;
            valid = old.valid;
            key = old.key;
            there = get-without old.path ∙ ap (λ t. cond (not t) (get m old.path) None) differ ∙ old.there;
            slot = old.slot;
          }
        where
          apart : (q : Path) → key_of q ≡ k → (t : Bool) → is_same q path ≡ t → is_same q path ≡ false
          apart q at true same = absurd (cc (sym other ∙ ap (λ n. eq_by_cmp nat_cmp n key) (sym at ∙ ap key_of (same_path q path same)) ∙ number_itself key))
          apart q at false same = same

  -- an object changes, at its slot
  pub index-row : (a b : Placed) → get m path ≡ Some a → b.slot ≡ a.slot → IsIndex (insert m path b) order
  index-row a b there same = record {
    sorted = index.sorted;
    entered = λ q x h. entered q x (eq_by_cmp path_cmp q path) refl (sym (get-insert path_total m path b q) ∙ h);
    known = λ k s h. known k s (index.known k s h);
  }
    where
      entered : (q : Path) (x : Placed) (t : Bool) → eq_by_cmp path_cmp q path ≡ t → cond t (Some b) (get m q) ≡ Some x → IsEntered order q x.slot
      entered q x true tie h =
          let slot : a.slot ≡ x.slot = sym same ∙ ap (λ (y : Placed). y.slot) (same_Some b x h) in
          subst (IsEntered order q) slot (index.entered q a (ap (get m) (tied_path q path tie) ∙ there))
      entered q x false tie h = index.entered q x h

      known : (k s : ℕ) → IsOfObject m k s → IsOfObject (insert m path b) k s
      known k s old = by (eq_by_cmp path_cmp old.path path) refl
        where
          by : (t : Bool) → eq_by_cmp path_cmp old.path path ≡ t → IsOfObject (insert m path b) k s
          by true tie = record {
            path = old.path;
            object = b;
            valid = old.valid;
            key = old.key;
            there = get-insert path_total m path b old.path ∙ ap (λ t. cond t (Some b) (get m old.path)) tie;
            slot = same ∙ ap (λ (y : Placed). y.slot) (same_Some a old.object (sym there ∙ ap (get m) (sym (tied_path old.path path tie)) ∙ old.there)) ∙ old.slot;
          }
          by false tie = record {
            path = old.path;
            object = old.object;
            valid = old.valid;
            key = old.key;
            there = get-insert path_total m path b old.path ∙ ap (λ t. cond t (Some b) (get m old.path)) tie ∙ old.there;
            slot = old.slot;
          }

-- root alone
pub index-begun : (root : Facts) → IsPath [] → IsIndex (begun root) (record { key = key_of []; slot = 0 } ∷ [])
index-begun root valid = subst (λ m. IsIndex m (record { key = key_of []; slot = 0 } ∷ [])) same (index-insert empty [] none [] valid (record { slot = 0; facts = root }) (get-empty path_cmp []))
  where
    none : IsIndex empty []
    none = record { sorted = refl; entered = λ q a h. absurd (cc (sym (get-empty path_cmp q) ∙ h)); known = λ k s h. absurd (cc h) }

    same : insert empty [] (record { slot = 0; facts = root }) ≡ begun root
    same = same_map path_total path_apart _ _ (λ q. get-insert path_total empty [] (record { slot = 0; facts = root }) q ∙ ap (cond (eq_by_cmp path_cmp q []) (Some (record { slot = 0; facts = root }))) (get-empty path_cmp q)
        ∙ sym (get-from_entries path_total (([], record { slot = 0; facts = root }) ∷ []) q))

-- slots that are those of objects
pub same_slot : (r : Option Slot) (o : Option Placed) → option_map (λ (s : Slot). s.n) r ≡ option_map (λ (a : Placed). a.slot) o → r ≡ option_map slot_of o
same_slot None None h = refl
same_slot None (Some a) h = cc
same_slot (Some s) None h = cc
same_slot (Some s) (Some a) h = λ i. Some (record { n = same_Some s.n a.slot h i })
