-- A map with one object more: what is in use rises by its charge, in the cell that governs its parent.
use Rattle.std.proofs.Common.{◌≡◌, ◌≢◌, ℕ, ◌+◌, ◌≤◌, Bool, true, false, cond, [], ◌∷◌, Option, Some, None, refl, sym, ap, ◌∙◌, subst, arith}
use Rattle.std.specs.Prelude.{if◌then◌else◌}
use Rattle.std.specs.FinMap.{get, insert, get-insert, entries}
use Rattle.std.specs.Ordering.{eq_by_cmp}
use Rattle.std.proofs.lemmas.Option.{same_Some}
use Rattle.bk_base.proofs.Totals.{part, total-le, total-alike, total-insert}
use Rattle.bk_path.specs.Paths.{Path, path_cmp, is_same, parent}
use Rattle.bk_path.specs.Orders.{path_total, path_apart, same_path}
use Rattle.bk_quota.specs.Charges.{charge_of, level_in, quota_in, is_upgraded_in, governing_in, share_in, used_in}
use Rattle.bk_tree.specs.declared.place.Placed.{Placed}
use Rattle.bk_tree.specs.Objects.{Objects, facts_of}
use Rattle.bk_tree.specs.Kept.{has_cell, HasDirectory, IsClosed, IsKept}
use Rattle.bk_tree.proofs.Found.{tied_path}
use Rattle.bk_tree.proofs.Sums.{zeros}
use Rattle.bk_tree.proofs.Room as room
use Rattle.bk_tree.proofs.Smaller.{IsSmaller, quota_at, governing-same, level-same, has_cell-same, share-same}

pub apart_paths : (a b : Path) → a ≢ b → is_same a b ≡ false
apart_paths a b apart = by (is_same a b) refl
  where
    by : (t : Bool) → is_same a b ≡ t → t ≡ false
    by true same = absurd (apart (same_path a b same))
    by false same = refl

-- the cell that governs a directory that is there is there
pub governing_there : (m : Objects) → IsClosed m → (q : Path) (b : Placed) → get m q ≡ Some b → (c : Placed) × (get m (governing_in facts_of m q) ≡ Some c)
governing_there m closed = room.governing_there facts_of m (λ e p b h. let (d, hd, kind) = closed e p b h in (d, hd))

-- a path that isn't there is no cell of any object's
pub used_free : (m : Objects) → IsClosed m → (path : Path) → get m path ≡ None → used_in facts_of m path ≡ 1
used_free m closed path free =
    let none = total-le path_cmp path_apart path_total (λ q x. share_in facts_of m path q x.facts) (λ q x. 0) m m none_of in
    omega (arith, none, zeros (entries m))
  where
    none_of : (q : Path) → part (λ q x. share_in facts_of m path q x.facts) q (get m q) ≤ part (λ q x. 0) q (get m q)
    none_of q = by q (get m q) refl
      where
        by : (q : Path) (o : Option Placed) → get m q ≡ o → part (λ q x. share_in facts_of m path q x.facts) q o ≤ part (λ q x. 0) q o
        by q None h = omega arith
        by [] (Some b) h = omega arith
        by (e ∷ p) (Some b) h =
            let (d, hd, kind) = closed e p b h in
            let (c, hc) = governing_there m closed p d hd in
            let other = apart_paths (governing_in facts_of m p) path (λ same. absurd (cc (sym hc ∙ ap (get m) same ∙ free))) in
            let none : share_in facts_of m path (e ∷ p) b.facts ≡ 0 = ap (λ t. if t then charge_of b.facts (level_in facts_of m p) else 0) other in
            omega (arith, none)

module _ (m : Objects) (kept : IsKept m) (e : ℕ) (p : Path) (x : Placed) (free : get m (e ∷ p) ≡ None) (above : HasDirectory m p) where
  abbrev pub added : Objects
  added = insert m (e ∷ p) x

  get_added : (q : Path) → get added q ≡ cond (eq_by_cmp path_cmp q (e ∷ p)) (Some x) (get m q)
  get_added q = get-insert path_total m (e ∷ p) x q

  pub still_there : (q : Path) (b : Placed) → get m q ≡ Some b → get added q ≡ Some b
  still_there q b h = get_added q ∙ by (eq_by_cmp path_cmp q (e ∷ p)) refl
    where
      by : (t : Bool) → eq_by_cmp path_cmp q (e ∷ p) ≡ t → cond t (Some x) (get m q) ≡ Some b
      by true tie = absurd (cc (sym h ∙ ap (get m) (tied_path q (e ∷ p) tie) ∙ free))
      by false tie = h

  pub smaller : IsSmaller m added
  smaller q b h = (b, still_there q b h, refl)

  directory_there : (q : Path) → HasDirectory m q → HasDirectory added q
  directory_there q (b, h, kind) = (b, still_there q b h, kind)

  abbrev pub new_share : (cell : Path) → ℕ
  new_share cell = if is_same (governing_in facts_of m p) cell then charge_of x.facts (level_in facts_of m p) else 0

  share_is : (cell : Path) → share_in facts_of added cell (e ∷ p) x.facts ≡ new_share cell
  share_is cell =
      let cells = governing-same m added kept.parents smaller p above.0 above.1 in
      let levels = level-same m added kept.parents smaller p above.0 above.1 in
      λ i. if is_same (sym cells i) cell then charge_of x.facts (sym levels i) else 0

  pub used-added : (cell : Path) → used_in facts_of added cell ≡ new_share cell + used_in facts_of m cell
  used-added cell =
      let more = total-insert path_cmp path_apart path_total (λ q y. share_in facts_of added cell q y.facts) m (e ∷ p) x free in
      let same = total-alike path_cmp path_apart path_total (λ q y. share_in facts_of m cell q y.facts) (λ q y. share_in facts_of added cell q y.facts) m m (λ q. by q (get m q) refl) in
      let share = share_is cell in
      omega (arith, more, same, share)
    where
      by : (q : Path) (o : Option Placed) → get m q ≡ o → part (λ q y. share_in facts_of m cell q y.facts) q o ≡ part (λ q y. share_in facts_of added cell q y.facts) q o
      by q None h = refl
      by q (Some b) h = share-same m added kept.parents smaller cell q b h b.facts refl

  abbrev pub Fits : Type 0
  Fits = charge_of x.facts (level_in facts_of m p) + used_in facts_of m (governing_in facts_of m p) ≤ quota_in facts_of m (governing_in facts_of m p)

  pub kept-added : Fits → 1 ≤ charge_of x.facts (level_in facts_of m p) → (is_upgraded_in facts_of added (e ∷ p) ≡ true → 1 ≤ x.facts.quota) → IsKept added
  kept-added fits some limit = record {
    parents = λ f r a h. closed_by f r a (eq_by_cmp path_cmp (f ∷ r) (e ∷ p)) refl (sym (get_added (f ∷ r)) ∙ h);
    charges = λ f r a h. charged_by f r a (eq_by_cmp path_cmp (f ∷ r) (e ∷ p)) refl (sym (get_added (f ∷ r)) ∙ h);
    within = λ q a h cell. within_by q a cell (eq_by_cmp path_cmp q (e ∷ p)) refl (sym (get_added q) ∙ h);
  }
    where
      closed_by : (f : ℕ) (r : Path) (a : Placed) (t : Bool) → eq_by_cmp path_cmp (f ∷ r) (e ∷ p) ≡ t → cond t (Some x) (get m (f ∷ r)) ≡ Some a → HasDirectory added r
      closed_by f r a true tie h = subst (HasDirectory added) (sym (ap parent (tied_path (f ∷ r) (e ∷ p) tie))) (directory_there p above)
      closed_by f r a false tie h = directory_there r (kept.parents f r a h)

      charged_by : (f : ℕ) (r : Path) (a : Placed) (t : Bool) → eq_by_cmp path_cmp (f ∷ r) (e ∷ p) ≡ t → cond t (Some x) (get m (f ∷ r)) ≡ Some a → 1 ≤ charge_of a.facts (level_in facts_of added r)
      charged_by f r a true tie h =
          let is : r ≡ p = ap parent (tied_path (f ∷ r) (e ∷ p) tie) in
          let levels = level-same m added kept.parents smaller p above.0 above.1 in
          let one : x ≡ a = same_Some x a h in
          let same : charge_of x.facts (level_in facts_of m p) ≡ charge_of a.facts (level_in facts_of added r) =
          (λ i. charge_of ((one i).facts) (levels i)) ∙ ap (λ r. charge_of a.facts (level_in facts_of added r)) (sym is) in
          omega (arith, some, same)
      charged_by f r a false tie h =
          let (d, hd, kind) = kept.parents f r a h in
          let levels = level-same m added kept.parents smaller r d hd in
          let same : charge_of a.facts (level_in facts_of m r) ≡ charge_of a.facts (level_in facts_of added r) = ap (charge_of a.facts) levels in
          let old = kept.charges f r a h in
          omega (arith, old, same)

      within_by : (q : Path) (a : Placed) → has_cell added q ≡ true → (t : Bool) → eq_by_cmp path_cmp q (e ∷ p) ≡ t → cond t (Some x) (get m q) ≡ Some a → used_in facts_of added q ≤ a.facts.quota
      within_by q a cell true tie h =
          let is : q ≡ e ∷ p = tied_path q (e ∷ p) tie in
          let one : x ≡ a = same_Some x a h in
          let (c, hc) = governing_there m kept.parents p above.0 above.1 in
          let other = apart_paths (governing_in facts_of m p) (e ∷ p) (λ same. absurd (cc (sym hc ∙ ap (get m) same ∙ free))) in
          let none : new_share (e ∷ p) ≡ 0 = ap (λ t. if t then charge_of x.facts (level_in facts_of m p) else 0) other in
          let used = used-added (e ∷ p) in
          let alone = used_free m kept.parents (e ∷ p) free in
          let least = limit (subst (λ r. has_cell added r ≡ true) is cell) in
          let moved : used_in facts_of added q ≡ used_in facts_of added (e ∷ p) = ap (used_in facts_of added) is in
          let quota : x.facts.quota ≡ a.facts.quota = (λ i. (one i).facts.quota) in
          omega (arith, none, used, alone, least, moved, quota)
      within_by q a cell false tie h = by (is_same (governing_in facts_of m p) q) refl
        where
          old : used_in facts_of m q ≤ a.facts.quota
          old = kept.within q a h (has_cell-same m added kept.parents smaller q a h ∙ cell)

          by : (t : Bool) → is_same (governing_in facts_of m p) q ≡ t → used_in facts_of added q ≤ a.facts.quota
          by true same =
              let is = same_path (governing_in facts_of m p) q same in
              let share : new_share q ≡ charge_of x.facts (level_in facts_of m p) = ap (λ t. if t then charge_of x.facts (level_in facts_of m p) else 0) same in
              let used = used-added q in
              let moved : used_in facts_of m (governing_in facts_of m p) ≡ used_in facts_of m q = ap (used_in facts_of m) is in
              let quota : quota_in facts_of m (governing_in facts_of m p) ≡ a.facts.quota = ap (quota_in facts_of m) is ∙ quota_at m q a h in
              omega (arith, fits, share, used, moved, quota)
          by false same =
              let share : new_share q ≡ 0 = ap (λ t. if t then charge_of x.facts (level_in facts_of m p) else 0) same in
              omega (arith, old, share, used-added q)
