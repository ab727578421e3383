-- What the map of a list of places has once one place is changed.
use Rattle.std.proofs.Common.{◌≡◌, ◌≢◌, ◌⊎◌, inl, inr, ℕ, zero, suc, ◌<◌, ◌≤◌, Bool, true, false, cond, not, List, [], ◌∷◌, length, replicate}
use Rattle.std.proofs.Common.{Option, Some, None, refl, sym, ap, ◌∙◌, subst, arith, set, length-set}
use Rattle.std.proofs.lemmas.List.{length-replicate}
use Rattle.std.proofs.lemmas.Option.{slice_get_within, same_Some}
use Rattle.bk_object.specs.declared.modes.Modes.{Modes}
use Rattle.std.specs.Prelude.{slice_get, unwrap_or, option_map}
use Rattle.std.specs.Ordering.{eq_by_cmp}
use Rattle.std.specs.FinMap.{get, from_entries, insert, get-insert, get-retain_keys, same_map}
use Rattle.bk_object.specs.declared.Facts.{Facts}
use Rattle.bk_object.specs.Kinds.{is_directory}
use Rattle.bk_path.specs.Paths.{Path, path_cmp, is_same}
use Rattle.bk_path.specs.Orders.{path_total, path_apart, same_path, is_same-itself}
use Rattle.bk_quota.specs.Charges.{quota_in}
use Rattle.bk_tree.specs.declared.place.Placed.{Placed}
use Rattle.bk_tree.specs.declared.place.Object.{Object}
use Rattle.bk_tree.specs.Objects.{CanGo, HasNoChild, Objects, IsAt, begun, without}
use Rattle.bk_tree.specs.Kept.{IsKept}
use Rattle.bk_tree.proofs.Smaller.{bare}
use Rattle.bk_tree.proofs.Keeping.{begun-kept, kept-row, kept-without}
use Rattle.bk_tree.specs.Places.{entries_from, tree_of, IsApart, IsTree, IsRooted}
use Rattle.bk_tree.proofs.Found.{tied_path, tied-itself, stands, is_there}
use Rattle.bk_tree.proofs.Written.{same_option, same_or_not, set-same, set-other}

abbrev pub held : Path → Facts → Option Object
held p f = Some (record { path = p; facts = f })

-- objects that stand elsewhere are found as before
pub elsewhere : (old new : List (Option Object)) (k : ℕ) → IsApart old → IsApart new → ((j : ℕ) → j ≢ k → slice_get new j ≡ slice_get old j) →
    (q : Path) → ((f : Facts) → slice_get old k ≢ Some (held q f)) → ((f : Facts) → slice_get new k ≢ Some (held q f)) → get (tree_of new) q ≡ get (tree_of old) q
elsewhere old new k old_apart new_apart others q not_old not_new = same_option (get (tree_of new) q) (get (tree_of old) q) there back
  where
    there : (a : Placed) → get (tree_of new) q ≡ Some a → get (tree_of old) q ≡ Some a
    there a h = by (same_or_not a.slot k) (stands new q a.slot a.facts h)
      where
        by : (a.slot ≡ k) ⊎ (a.slot ≢ k) → slice_get new a.slot ≡ Some (held q a.facts) → get (tree_of old) q ≡ Some a
        by (inl e) at = absurd (not_new a.facts (ap (slice_get new) (sym e) ∙ at))
        by (inr n) at = is_there old old_apart a.slot (record { path = q; facts = a.facts }) (sym (others a.slot n) ∙ at)

    back : (a : Placed) → get (tree_of old) q ≡ Some a → get (tree_of new) q ≡ Some a
    back a h = by (same_or_not a.slot k) (stands old q a.slot a.facts h)
      where
        by : (a.slot ≡ k) ⊎ (a.slot ≢ k) → slice_get old a.slot ≡ Some (held q a.facts) → get (tree_of new) q ≡ Some a
        by (inl e) at = absurd (not_old a.facts (ap (slice_get old) (sym e) ∙ at))
        by (inr n) at = is_there new new_apart a.slot (record { path = q; facts = a.facts }) (others a.slot n ∙ at)

pub held_path : (p q : Path) (f g : Facts) → Some (held p f) ≡ Some (held q g) → p ≡ q
held_path p q f g e = ap (λ (x : Object). x.path) (same_Some (record { path = p; facts = f }) (record { path = q; facts = g }) (same_Some (held p f) (held q g) e))

-- the object at a place has other facts now
module _ (places : List (Option Object)) (k : ℕ) (p : Path) (f g : Facts) (apart : IsApart places) (lt : k < length places) (at : slice_get places k ≡ Some (held p f)) where
  abbrev pub with_facts : List (Option Object)
  with_facts = set places k (held p g)

  paths_stay : (i : ℕ) (a : Object) → slice_get with_facts i ≡ Some (Some a) → (b : Object) × (slice_get places i ≡ Some (Some b)) × (b.path ≡ a.path)
  paths_stay i a h = by (same_or_not i k)
    where
      by : (i ≡ k) ⊎ (i ≢ k) → (b : Object) × (slice_get places i ≡ Some (Some b)) × (b.path ≡ a.path)
      by (inl e) = (record { path = p; facts = f }, ap (slice_get places) e ∙ at, held_path p a.path g a.facts (sym (set-same places k (held p g) lt) ∙ ap (slice_get with_facts) (sym e) ∙ h))
      by (inr n) = (a, sym (set-other places k i (held p g) n) ∙ h, refl)

  pub apart-facts : IsApart with_facts
  apart-facts i j a b hi hj same =
      let (a', ha, ea) = paths_stay i a hi in
      let (b', hb, eb) = paths_stay j b hj in
      apart i j a' b' ha hb (ea ∙ same ∙ sym eb)

  pub tree_of-facts : tree_of with_facts ≡ insert (tree_of places) p (record { slot = k; facts = g })
  tree_of-facts = same_map path_total path_apart _ _ (λ q. by q (eq_by_cmp path_cmp q p) refl ∙ sym (get-insert path_total (tree_of places) p (record { slot = k; facts = g }) q))
    where
      by : (q : Path) (b : Bool) → eq_by_cmp path_cmp q p ≡ b → get (tree_of with_facts) q ≡ cond b (Some (record { slot = k; facts = g })) (get (tree_of places) q)
      by q true tie = ap (get (tree_of with_facts)) (tied_path q p tie) ∙ is_there with_facts apart-facts k (record { path = p; facts = g }) (set-same places k (held p g) lt)
      by q false tie = elsewhere places with_facts k apart apart-facts (λ j n. set-other places k j (held p g) n) q
          (λ x h. absurd (cc (sym tie ∙ ap (λ r. eq_by_cmp path_cmp q r) (held_path p q f x (sym at ∙ h)) ∙ tied-itself q)))
          (λ x h. absurd (cc (sym tie ∙ ap (λ r. eq_by_cmp path_cmp q r) (held_path p q g x (sym (set-same places k (held p g) lt) ∙ h)) ∙ tied-itself q)))

nothing : (n k : ℕ) → entries_from n (replicate k None) ≡ []
nothing n zero = refl
nothing n (suc k) = nothing (suc n) k

none_held : (k i : ℕ) (a : Object) → slice_get (replicate k None) i ≡ Some (Some a) → ⊥
none_held zero i a h = cc
none_held (suc k) zero a h = cc
none_held (suc k) (suc i) a h = none_held k i a h

-- root alone stands in a list of free places
pub begun-places : (slots : ℕ) (root : Facts) → 1 ≤ slots → tree_of (set (replicate slots None) 0 (held [] root)) ≡ begun root
begun-places zero root some = absurd (omega (arith, some))
begun-places (suc k) root some = ap (λ es. from_entries (([], record { slot = 0; facts = root }) ∷ es)) (nothing 1 k)

pub begun-tree : (slots : ℕ) (root : Facts) → 1 ≤ slots → slots ≤ 3904 → is_directory root.kind ≡ true → slots ≡ root.quota → IsTree (set (replicate slots None) 0 (held [] root))
begun-tree slots root some most kind quota = record {
  apart = λ i j a b hi hj same. by i j a b (same_or_not i 0) (same_or_not j 0) hi hj;
  rooted = (root, record { first = set-same (replicate slots None) 0 (held [] root) (rw long (omega (arith, some))); kind = kind; quota = sym quota ∙ sym whole });
  short = rw whole most;
  kept = subst IsKept (sym (begun-places slots root some)) (begun-kept root (omega (arith, quota, some)));
}
  where
    long : length (replicate {A = Option Object} slots None) ≡ slots
    long = length-replicate slots None

    whole : length (set (replicate slots None) 0 (held [] root)) ≡ slots
    whole = length-set (replicate slots None) 0 (held [] root) ∙ long

    by : (i j : ℕ) (a b : Object) → (i ≡ 0) ⊎ (i ≢ 0) → (j ≡ 0) ⊎ (j ≢ 0) → slice_get (set (replicate slots None) 0 (held [] root)) i ≡ Some (Some a) → slice_get (set (replicate slots None) 0 (held [] root)) j ≡ Some (Some b) → i ≡ j
    by i j a b (inl e) (inl f) hi hj = e ∙ sym f
    by i j a b (inr n) f hi hj = absurd (none_held slots i a (sym (set-other (replicate slots None) 0 i (held [] root) n) ∙ hi))
    by i j a b (inl e) (inr n) hi hj = absurd (none_held slots j b (sym (set-other (replicate slots None) 0 j (held [] root) n) ∙ hj))

module _ (places : List (Option Object)) (tree : IsTree places) (k : ℕ) (p : Path) (f g : Facts) (at : slice_get places k ≡ Some (held p f)) (same : bare g ≡ bare f) where
  abbrev changed : List (Option Object)
  changed = set places k (held p g)

  -- root stays root under another row
  pub tree-facts : k < length places → IsTree changed
  tree-facts lt = record {
    apart = apart-facts places k p f g tree.apart lt at;
    rooted = by (same_or_not 0 k);
    short = rw (length-set places k (held p g)) tree.short;
    kept = subst IsKept (sym (tree_of-facts places k p f g tree.apart lt at)) (kept-row (tree_of places) p (record { slot = k; facts = f }) (record { slot = k; facts = g }) tree.kept (is_there places tree.apart k (record { path = p; facts = f }) at) same);
  }
    where
      root : Facts
      root = tree.rooted.0

      is : IsRooted places root
      is = tree.rooted.1

      by : (0 ≡ k) ⊎ (0 ≢ k) → (root : Facts) × IsRooted changed root
      by (inr n) = (root, record { first = set-other places k 0 (held p g) n ∙ is.first; kind = is.kind; quota = is.quota ∙ sym (length-set places k (held p g)) })
      by (inl e) =
          let both = sym is.first ∙ ap (slice_get places) e ∙ at in
          let one : root ≡ f = ap (λ (o : Object). o.facts) (same_Some (record { path = []; facts = root }) (record { path = p; facts = f }) (same_Some (held [] root) (held p f) both)) in (
            g,
            record {
              first = ap (slice_get changed) e ∙ set-same places k (held p g) lt ∙ ap (λ r. Some (held r g)) (sym (held_path [] p root f both));
              kind = (λ i. is_directory ((same i).kind)) ∙ ap (λ (x : Facts). is_directory x.kind) (sym one) ∙ is.kind;
              quota = (λ i. (same i).quota) ∙ ap (λ (x : Facts). x.quota) (sym one) ∙ is.quota ∙ sym (length-set places k (held p g));
            },
          )

-- the row of an object becomes another
module _ (places seen new : List (Option Object)) (tree : IsTree places) (m : Objects) (view : tree_of places ≡ m) (k : ℕ) (a : Object) (row : List Modes)
    (same : seen ≡ places) (at_seen : slice_get seen k ≡ Some (Some a))
    (new_is : new ≡ set places k (held a.path (record a.facts { row = row }))) where
  at : slice_get places k ≡ Some (held a.path a.facts)
  at = ap (λ xs. slice_get xs k) (sym same) ∙ at_seen

  pub within : k < length places
  within = slice_get_within places k (held a.path a.facts) at

  pub row-tree : IsTree new
  row-tree = rw new_is (tree-facts places tree k a.path a.facts (record a.facts { row = row }) at refl within)

  pub row-map : (path : Path) (facts : Facts) → IsAt m path k facts → tree_of new ≡ insert m path (record { slot = k; facts = record facts { row = row } })
  row-map path facts h =
      let both = sym at ∙ stands places path k facts (ap (λ t. get t path) view ∙ h) in
      let is : a ≡ record { path = path; facts = facts } = same_Some a (record { path = path; facts = facts }) (same_Some (Some a) (held path facts) both) in
      ap tree_of new_is
      ∙ tree_of-facts places k a.path a.facts (record a.facts { row = row }) tree.apart within at
      ∙ (λ i. insert (view i) ((is i).path) (record { slot = k; facts = record ((is i).facts) { row = row } }))

-- the object at a place goes
module _ (places : List (Option Object)) (tree : IsTree places) (k : ℕ) (p : Path) (f : Facts) (lt : k < length places) (at : slice_get places k ≡ Some (held p f)) where
  abbrev pub cleared : List (Option Object)
  cleared = set places k None

  was_there : (i : ℕ) (a : Object) → slice_get cleared i ≡ Some (Some a) → slice_get places i ≡ Some (Some a)
  was_there i a h = by (same_or_not i k)
    where
      by : (i ≡ k) ⊎ (i ≢ k) → slice_get places i ≡ Some (Some a)
      by (inl e) = absurd (cc (sym h ∙ ap (slice_get cleared) e ∙ set-same places k None lt))
      by (inr n) = sym (set-other places k i None n) ∙ h

  pub apart-cleared : IsApart cleared
  apart-cleared i j a b hi hj same = tree.apart i j a b (was_there i a hi) (was_there j b hj) same

  kept : (q : Path) (b : Bool) → is_same q p ≡ b → get (tree_of cleared) q ≡ cond (not b) (get (tree_of places) q) None
  kept q true same = by (get (tree_of cleared) q) refl
    where
      by : (o : Option Placed) → get (tree_of cleared) q ≡ o → o ≡ None
      by None is = refl
      by (Some a) is =
          let there = stands cleared q a.slot a.facts is in
          let place = tree.apart a.slot k (record { path = q; facts = a.facts }) (record { path = p; facts = f }) (was_there a.slot (record { path = q; facts = a.facts }) there) at (same_path q p same) in
          absurd (cc (sym there ∙ ap (slice_get cleared) place ∙ set-same places k None lt))
  kept q false other = elsewhere places cleared k tree.apart apart-cleared (λ j n. set-other places k j None n) q
      (λ x h. absurd (cc (sym other ∙ ap (is_same q) (held_path p q f x (sym at ∙ h)) ∙ is_same-itself q)))
      (λ x h. absurd (cc (sym (set-same places k None lt) ∙ h)))

  pub tree_of-cleared : tree_of cleared ≡ without (tree_of places) p
  tree_of-cleared = same_map path_total path_apart _ _ (λ q.
      kept q (is_same q p) refl ∙ sym (get-retain_keys (tree_of places) (λ r. not (is_same r p)) q (λ x same. ap (λ r. not (is_same r p)) (sym (path_apart q x same)))))

  pub tree-cleared : p ≢ [] → HasNoChild (tree_of places) p → IsTree cleared
  tree-cleared below childless = record {
    apart = apart-cleared;
    rooted = (
      tree.rooted.0,
      record {
        first = set-other places k 0 None not_root ∙ tree.rooted.1.first;
        kind = tree.rooted.1.kind;
        quota = tree.rooted.1.quota ∙ sym (length-set places k None);
      },
    );
    short = rw (length-set places k None) tree.short;
    kept = subst IsKept (sym tree_of-cleared) (kept-without (tree_of places) p tree.kept childless);
  }
    where
      not_root : 0 ≢ k
      not_root = λ e. below (sym (held_path [] p tree.rooted.0 f (sym tree.rooted.1.first ∙ ap (slice_get places) e ∙ at)))

-- a leaf goes
module _ (places new : List (Option Object)) (tree : IsTree places) (m : Objects) (view : tree_of places ≡ m) (k : ℕ) (leaf : CanGo m k) where
  at_leaf : slice_get places k ≡ Some (held leaf.path leaf.facts)
  at_leaf = stands places leaf.path k leaf.facts (ap (λ t. get t leaf.path) view ∙ leaf.there)

  pub leaf_within : k < length places
  leaf_within = slice_get_within places k (held leaf.path leaf.facts) at_leaf

  pub leaf-tree : new ≡ set places k None → IsTree new
  leaf-tree is = rw is (tree-cleared places tree k leaf.path leaf.facts leaf_within at_leaf leaf.below_root (subst (λ t. HasNoChild t leaf.path) (sym view) leaf.childless))

  pub leaf-map : new ≡ set places k None → (path : Path) (facts : Facts) → IsAt m path k facts → tree_of new ≡ without m path
  leaf-map is path facts h =
      let same = held_path leaf.path path leaf.facts facts (sym at_leaf ∙ stands places path k facts (ap (λ t. get t path) view ∙ h)) in
      ap tree_of is ∙ tree_of-cleared places tree k leaf.path leaf.facts leaf_within at_leaf ∙ (λ i. without (view i) (same i))

-- slots are below root's quota, and are no two paths'
module _ (places : List (Option Object)) (tree : IsTree places) (m : Objects) (view : tree_of places ≡ m) where
  place_of : (path : Path) (slot : ℕ) (facts : Facts) → IsAt m path slot facts → slice_get places slot ≡ Some (held path facts)
  place_of path slot facts h = stands places path slot facts (ap (λ t. get t path) view ∙ h)

  pub slots_within : (path : Path) (slot : ℕ) (facts : Facts) → IsAt m path slot facts → slot < quota_in (λ placed. placed.facts) m []
  slots_within path slot facts h =
      let less = slice_get_within places slot (held path facts) (place_of path slot facts h) in
      let root = tree.rooted.0 in
      let limit : quota_in (λ placed. placed.facts) m [] ≡ root.quota =
      ap (λ (o : Option Placed). unwrap_or (option_map (λ x. x.quota) (option_map (λ placed. placed.facts) o)) 0)
      (sym (ap (λ t. get t []) view) ∙ is_there places tree.apart 0 (record { path = []; facts = root }) tree.rooted.1.first) in
      omega (arith, less, limit, tree.rooted.1.quota)

  pub slots_apart : (p q : Path) (slot : ℕ) (f g : Facts) → IsAt m p slot f → IsAt m q slot g → p ≡ q
  slots_apart p q slot f g hp hq = held_path p q f g (sym (place_of p slot f hp) ∙ place_of q slot g hq)

  pub root_at_first : (facts : Facts) × IsAt m [] 0 facts × (is_directory facts.kind ≡ true)
  root_at_first =
      let (root, is) = tree.rooted in
      (root, sym (ap (λ t. get t []) view) ∙ is_there places tree.apart 0 (record { path = []; facts = root }) is.first, is.kind)
