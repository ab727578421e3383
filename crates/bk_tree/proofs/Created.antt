-- A free place takes one object more, and where its charge fits a place is free.
use Rattle.std.proofs.Common.{◌≡◌, ◌≢◌, ◌⊎◌, inl, inr, ℕ, ◌<◌, ◌≤◌, Bool, true, false, cond, not, ◌&&◌, ◌==◌, List, [], ◌∷◌, length, Option}
use Rattle.std.proofs.Common.{Some, None, refl, sym, ap, ◌∙◌, subst, arith, set, length-set}
use Rattle.std.specs.Prelude.{slice_get, if◌then◌else◌, IsNone, IsSome, IsTrue, IfNone, is_some, ◌↔◌}
use Rattle.std.specs.Ordering.{eq_by_cmp}
use Rattle.std.specs.FinMap.{get, insert, entries, get-insert, same_map, len-entries}
use Rattle.std.proofs.lemmas.Option.{slice_get_within}
use Rattle.std.proofs.lemmas.Bool.Decides.{nat_tests}
use Rattle.bk_base.proofs.Totals.{total-insert}
use Rattle.bk_base.proofs.Distinct.{total_of-from_entries}
use Rattle.bk_object.specs.declared.Facts.{Facts}
use Rattle.bk_object.specs.declared.Kind.{Kind}
use Rattle.bk_object.specs.declared.Kind.TheVariants.{Directory, Segment, Mailbox, Line}
use Rattle.bk_object.specs.Kinds.{is_directory}
use Rattle.bk_path.specs.Paths.{Path, parent, path_cmp}
use Rattle.bk_path.specs.Orders.{path_total, path_apart}
use Rattle.bk_quota.specs.Charges.{level_in}
use Rattle.bk_tree.specs.declared.place.Placed.{Placed}
use Rattle.bk_tree.specs.declared.place.Object.{Object}
use Rattle.bk_tree.specs.Objects.{Objects, facts_of}
use Rattle.bk_tree.specs.Kept.{Fits, HasBlocks, HasDirectory, HasQuota, IsFit, IsKept}
use Rattle.bk_tree.specs.Places.{entries_from, tree_of, IsApart, IsFull, IsRooted, IsTree}
use Rattle.bk_tree.proofs.Found.{tied_path, tied-itself, is_there}
use Rattle.bk_tree.proofs.Smaller.{charge_by, charge_is, level_at, upgraded_at}
use Rattle.bk_tree.proofs.Added.{kept-added, still_there}
use Rattle.bk_tree.proofs.Fitting.{objects_kept}
use Rattle.bk_tree.proofs.Sums.{ones}
use Rattle.bk_tree.proofs.Changed.{held, held_path, elsewhere}
use Rattle.bk_tree.proofs.Written.{same_or_not, set-same, set-other}
use Rattle.bk_tree.proofs.Counted.{distinct_entries, full_total}

charge_some : (kind : Kind) (blocks level quota above : ℕ) → HasBlocks kind blocks → HasQuota (is_directory kind && not (above == level)) quota → 1 ≤ charge_by kind blocks level quota above
charge_some Directory blocks level quota above b q = by (level == above) refl
  where
    by : (t : Bool) → (level == above) ≡ t → 1 ≤ (if t then 1 else quota)
    by true same = omega arith
    by false same =
        let other : (above == level) ≡ false = grind (arith, nat_tests, same) in
        let some = subst (λ t. HasQuota (not t) quota) other q in
        some.0
charge_some Segment blocks level quota above b q = b.0
charge_some Mailbox blocks level quota above b q = omega arith
charge_some (Line n) blocks level quota above b q = omega arith

module _ (m : Objects) (kept : IsKept m) (e : ℕ) (p : Path) (x : Placed) (free : get m (e ∷ p) ≡ None) (above : HasDirectory m p) (fit : IsFit x.facts (level_in facts_of m p)) (fits : Fits m (e ∷ p) x.facts) where
  pub kept-created : IsKept (insert m (e ∷ p) x)
  kept-created = kept-added m kept e p x free above (omega (arith, fits))
      (let some = charge_some x.facts.kind x.facts.blocks x.facts.level x.facts.quota (level_in facts_of m p) fit.blocks fit.quota in
      let is = charge_is x.facts.kind x.facts (level_in facts_of m p) in omega (arith, some, is))
      (λ up.
      let (d, hd, kind) = above in
      let new : get (insert m (e ∷ p) x) (e ∷ p) ≡ Some x = get-insert path_total m (e ∷ p) x (e ∷ p) ∙ ap (λ t. cond t (Some x) (get m (e ∷ p))) (tied-itself (e ∷ p)) in
      let tests = sym (upgraded_at (insert m (e ∷ p) x) e p x d new (still_there m kept e p x free above p d hd)) ∙ up in
      let levels = level_at m p d hd in
      let given = subst (λ t. HasQuota t x.facts.quota) (ap (λ l. is_directory x.facts.kind && not (l == x.facts.level)) levels ∙ tests) fit.quota in
      given.0)

-- where the charge fits, a place is free
pub some_free : (places : List (Option Object)) (tree : IsTree places) (path : Path) (facts : Facts) → path ≢ [] → get (tree_of places) path ≡ None → HasDirectory (tree_of places) (parent path) →
    IsFit facts (level_in facts_of (tree_of places) (parent path)) → Fits (tree_of places) path facts → {X : Type 0} → (o : Option X) → IfNone o (IsFull places (length places)) → IsSome o
some_free places tree [] facts below free above fit fits o full = absurd (below refl)
some_free places tree (e ∷ p) facts below free above fit fits (Some slot) full = refl
some_free places tree (e ∷ p) facts below free above fit fits None full =
    let m : Objects = tree_of places in
    let x : Placed = record { slot = 0; facts = facts } in
    let after = kept-created (tree_of places) tree.kept e p (record { slot = 0; facts = facts }) free above fit fits in
    let (root, is) = tree.rooted in
    let top = is_there places tree.apart 0 (record { path = []; facts = root }) is.first in
    let still = still_there (tree_of places) tree.kept e p (record { slot = 0; facts = facts }) free above [] (record { slot = 0; facts = root }) top in
    let most = objects_kept (insert (tree_of places) (e ∷ p) (record { slot = 0; facts = facts })) after (record { slot = 0; facts = root }) still in
    let more = total-insert path_cmp path_apart path_total (λ q x. 1) (tree_of places) (e ∷ p) (record { slot = 0; facts = facts }) free in
    let whole = total_of-from_entries path_cmp path_apart path_total (λ q x. 1) (entries_from 0 places) (distinct_entries 0 places tree.apart) in
    let all = full_total 0 places full in
    let count = ones (entries (insert (tree_of places) (e ∷ p) (record { slot = 0; facts = facts }))) in
    let long = len-entries (insert (tree_of places) (e ∷ p) (record { slot = 0; facts = facts })) in
    absurd (omega (arith, most, long, count, more, whole, all, is.quota))

-- a free place takes an object
module _ (places : List (Option Object)) (tree : IsTree places) (k : ℕ) (p : Path) (f : Facts) (at : slice_get places k ≡ Some None) (free : get (tree_of places) p ≡ None) where
  abbrev pub filled : List (Option Object)
  filled = set places k (held p f)

  pub free_within : k < length places
  free_within = slice_get_within places k None at

  not_there : (j : ℕ) (a : Object) → slice_get places j ≡ Some (Some a) → a.path ≢ p
  not_there j a h same = absurd (cc (sym (is_there places tree.apart j a h) ∙ ap (get (tree_of places)) same ∙ free))

  other_held : (i : ℕ) (a : Object) → slice_get filled i ≡ Some (Some a) → (i ≡ k) × (a.path ≡ p) ⊎ slice_get places i ≡ Some (Some a)
  other_held i a h = by (same_or_not i k)
    where
      by : (i ≡ k) ⊎ (i ≢ k) → (i ≡ k) × (a.path ≡ p) ⊎ slice_get places i ≡ Some (Some a)
      by (inl e) = inl (e, sym (held_path p a.path f a.facts (sym (set-same places k (held p f) free_within) ∙ ap (slice_get filled) (sym e) ∙ h)))
      by (inr n) = inr (sym (set-other places k i (held p f) n) ∙ h)

  apart-filled : IsApart filled
  apart-filled i j a b hi hj same = by (other_held i a hi) (other_held j b hj)
    where
      by : (i ≡ k) × (a.path ≡ p) ⊎ slice_get places i ≡ Some (Some a) → (j ≡ k) × (b.path ≡ p) ⊎ slice_get places j ≡ Some (Some b) → i ≡ j
      by (inl (e, ea)) (inl (g, eb)) = e ∙ sym g
      by (inl (e, ea)) (inr hb) = absurd (not_there j b hb (sym same ∙ ea))
      by (inr ha) (inl (g, eb)) = absurd (not_there i a ha (same ∙ eb))
      by (inr ha) (inr hb) = tree.apart i j a b ha hb same

  pub tree_of-filled : tree_of filled ≡ insert (tree_of places) p (record { slot = k; facts = f })
  tree_of-filled = same_map path_total path_apart _ _ (λ q. by q (eq_by_cmp path_cmp q p) refl ∙ sym (get-insert path_total (tree_of places) p (record { slot = k; facts = f }) q))
    where
      by : (q : Path) (b : Bool) → eq_by_cmp path_cmp q p ≡ b → get (tree_of filled) q ≡ cond b (Some (record { slot = k; facts = f })) (get (tree_of places) q)
      by q true tie = ap (get (tree_of filled)) (tied_path q p tie) ∙ is_there filled apart-filled k (record { path = p; facts = f }) (set-same places k (held p f) free_within)
      by q false tie = elsewhere places filled k tree.apart apart-filled (λ j n. set-other places k j (held p f) n) q
          (λ x h. absurd (cc (sym at ∙ h)))
          (λ x h. absurd (cc (sym tie ∙ ap (λ r. eq_by_cmp path_cmp q r) (held_path p q f x (sym (set-same places k (held p f) free_within) ∙ h)) ∙ tied-itself q)))

  pub tree-filled : p ≢ [] → HasDirectory (tree_of places) (parent p) → IsFit f (level_in facts_of (tree_of places) (parent p)) → Fits (tree_of places) p f → IsTree filled
  tree-filled below above fit fits = record {
    apart = apart-filled;
    rooted = by (same_or_not 0 k);
    short = rw (length-set places k (held p f)) tree.short;
    kept = subst IsKept (sym tree_of-filled) (inside p free below above fit fits);
  }
    where
      by : (0 ≡ k) ⊎ (0 ≢ k) → (root : Facts) × IsRooted filled root
      by (inl e) = absurd (cc (sym tree.rooted.1.first ∙ ap (slice_get places) e ∙ at))
      by (inr n) = (
        tree.rooted.0,
        record {
          first = set-other places k 0 (held p f) n ∙ tree.rooted.1.first;
          kind = tree.rooted.1.kind;
          quota = tree.rooted.1.quota ∙ sym (length-set places k (held p f));
        },
      )

      inside : (p : Path) → get (tree_of places) p ≡ None → p ≢ [] → HasDirectory (tree_of places) (parent p) → IsFit f (level_in facts_of (tree_of places) (parent p)) → Fits (tree_of places) p f →
          IsKept (insert (tree_of places) p (record { slot = k; facts = f }))
      inside [] free below above fit fits = absurd (below refl)
      inside (e ∷ p) free below above fit fits = kept-created (tree_of places) tree.kept e p (record { slot = k; facts = f }) free above fit fits

none_is : (o : Option Placed) → IsNone o → o ≡ None
none_is None h = refl
none_is (Some a) h = cc

-- what the code finds out of the places holds of the map
module _ (seen places : List (Option Object)) (m : Objects) (same : seen ≡ places) (view : tree_of places ≡ m) (path : Path) (facts : Facts) where
  map_is : tree_of seen ≡ m
  map_is = ap tree_of same ∙ view

  pub taken_is : (r : Bool) → r ≡ is_some (get (tree_of seen) path) → r ≡ true → IsSome (get m path)
  taken_is r is positive = subst (λ t. IsSome (get t path)) map_is (sym is ∙ positive)

  pub free_is : (r : Bool) → r ≡ is_some (get (tree_of seen) path) → r ≡ false → IsNone (get m path)
  free_is r is negative = subst (λ t. IsNone (get t path)) map_is (sym is ∙ negative)

  pub fits_is : (r : Bool) → IsTrue r ↔ Fits (tree_of seen) path facts → r ≡ true → Fits m path facts
  fits_is r exactly positive = subst (λ t. Fits t path facts) map_is (exactly.0 positive)

  pub overdrawn_is : (r : Bool) → IsTrue r ↔ Fits (tree_of seen) path facts → r ≡ false → Fits m path facts → ⊥
  overdrawn_is r exactly negative fits = absurd (cc (sym negative ∙ exactly.1 (subst (λ t. Fits t path facts) (sym map_is) fits)))

module _ (places : List (Option Object)) (tree : IsTree places) (m : Objects) (view : tree_of places ≡ m) (path : Path) (facts : Facts) (below : path ≢ []) (above : HasDirectory m (parent path))
    (fit : IsFit facts (level_in facts_of m (parent path))) (free : IsNone (get m path)) (fits : Fits m path facts) where
  free_here : get (tree_of places) path ≡ None
  free_here = ap (λ t. get t path) view ∙ none_is (get m path) free

  above_here : HasDirectory (tree_of places) (parent path)
  above_here = subst (λ t. HasDirectory t (parent path)) (sym view) above

  fit_here : IsFit facts (level_in facts_of (tree_of places) (parent path))
  fit_here = subst (λ t. IsFit facts (level_in facts_of t (parent path))) (sym view) fit

  fits_here : Fits (tree_of places) path facts
  fits_here = subst (λ t. Fits t path facts) (sym view) fits

  pub created_free : (seen : List (Option Object)) → seen ≡ places → {X : Type 0} → (o : Option X) → IfNone o (IsFull seen (length seen)) → IsSome o
  created_free seen same o full = some_free places tree path facts below free_here above_here fit_here fits_here o (subst (λ xs. IfNone o (IsFull xs (length xs))) same full)

  module _ (new : List (Option Object)) (k : ℕ) (at : slice_get places k ≡ Some None) (is : new ≡ set places k (held path facts)) where
    pub created_tree : IsTree new
    created_tree = rw is (tree-filled places tree k path facts at free_here below above_here fit_here fits_here)

    pub created_map : tree_of new ≡ insert m path (record { slot = k; facts = facts })
    created_map = ap tree_of is ∙ tree_of-filled places tree k path facts at free_here ∙ ap (λ t. insert t path (record { slot = k; facts = facts })) view
