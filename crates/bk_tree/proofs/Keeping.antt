-- What is kept: at first, under another row, and without a leaf.
use Rattle.std.proofs.Common.{◌≡◌, ℕ, ◌≤◌, Bool, true, false, cond, not, [], ◌∷◌, Some, None, refl, sym, ap, ◌∙◌, subst, arith}
use Rattle.std.specs.Prelude.{IsNone}
use Rattle.std.specs.FinMap.{get, insert, get-insert, get-retain_keys, get-from_entries}
use Rattle.std.specs.Ordering.{eq_by_cmp}
use Rattle.std.proofs.lemmas.List.Sums.{sum_by-cons}
use Rattle.std.proofs.lemmas.Option.{same_Some}
use Rattle.bk_base.proofs.Distinct.{total_of-from_entries}
use Rattle.bk_object.specs.declared.Facts.{Facts}
use Rattle.bk_object.specs.Kinds.{is_directory}
use Rattle.bk_path.specs.Paths.{Path, path_cmp, is_same}
use Rattle.bk_path.specs.Orders.{path_total, path_apart, same_path}
use Rattle.bk_quota.specs.Charges.{share_in, used_in}
use Rattle.bk_tree.specs.declared.place.Placed.{Placed}
use Rattle.bk_tree.specs.Objects.{Objects, HasNoChild, begun, facts_of, without}
use Rattle.bk_tree.specs.Kept.{IsClosed, IsKept}
use Rattle.bk_tree.proofs.Found.{tied_path}
use Rattle.bk_tree.proofs.Smaller.{bare, IsSmaller, kept-smaller}

module _ (root : Facts) (some : 1 ≤ root.quota) where
  pub alone : (q : Path) (a : Placed) → get (begun root) q ≡ Some a → (q ≡ []) × (root ≡ a.facts)
  alone q a h = by (eq_by_cmp path_cmp q []) refl (sym (get-from_entries path_total (([], record { slot = 0; facts = root }) ∷ []) q) ∙ h)
    where
      by : (b : Bool) → eq_by_cmp path_cmp q [] ≡ b → cond b (Some (record { slot = 0; facts = root })) None ≡ Some a → (q ≡ []) × (root ≡ a.facts)
      by true tie h = (tied_path q [] tie, ap (λ (x : Placed). x.facts) (same_Some (record { slot = 0; facts = root }) a h))
      by false tie h = cc

  pub used_alone : used_in facts_of (begun root) [] ≡ 1
  used_alone =
      let f : Path → Placed → ℕ = λ q x. share_in facts_of (begun root) [] q x.facts in
      let whole = total_of-from_entries path_cmp path_apart path_total (λ q (x : Placed). share_in facts_of (begun root) [] q x.facts) (([], record { slot = 0; facts = root }) ∷ []) (refl, tt) in
      let one = sum_by-cons (λ (e : Path × Placed). share_in facts_of (begun root) [] e.0 e.1.facts) ([], record { slot = 0; facts = root }) [] in
      omega (arith, whole, one)

  pub begun-kept : IsKept (begun root)
  begun-kept = record {
    parents = λ e p a h. let (is, facts) = alone (e ∷ p) a h in absurd (cc is);
    charges = λ e p a h. let (is, facts) = alone (e ∷ p) a h in absurd (cc is);
    within = λ q a h cell.
        let (is, facts) = alone q a h in
        let used = ap (used_in facts_of (begun root)) is in
        let quota : root.quota ≡ a.facts.quota = ap (λ (x : Facts). x.quota) facts in
        omega (arith, used, used_alone, quota, some);
  }

-- the row of an object becomes another
module _ (m : Objects) (p : Path) (a b : Placed) (kept : IsKept m) (there : get m p ≡ Some a) (same : bare b.facts ≡ bare a.facts) where
  pub smaller : IsSmaller (insert m p b) m
  smaller q x h = by (eq_by_cmp path_cmp q p) refl (sym (get-insert path_total m p b q) ∙ h)
    where
      by : (t : Bool) → eq_by_cmp path_cmp q p ≡ t → cond t (Some b) (get m q) ≡ Some x → (y : Placed) × (get m q ≡ Some y) × (bare x.facts ≡ bare y.facts)
      by true tie h = (a, ap (get m) (tied_path q p tie) ∙ there, ap (λ (z : Placed). bare z.facts) (sym (same_Some b x h)) ∙ same)
      by false tie h = (x, h, refl)

  pub bigger : IsSmaller m (insert m p b)
  bigger q x h = by (eq_by_cmp path_cmp q p) refl (get-insert path_total m p b q)
    where
      by : (t : Bool) → eq_by_cmp path_cmp q p ≡ t → get (insert m p b) q ≡ cond t (Some b) (get m q) → (y : Placed) × (get (insert m p b) q ≡ Some y) × (bare x.facts ≡ bare y.facts)
      by true tie is = (b, is, ap (λ (z : Placed). bare z.facts) (same_Some x a (sym h ∙ ap (get m) (tied_path q p tie) ∙ there)) ∙ sym same)
      by false tie is = (x, is ∙ h, refl)

  pub row-closed : IsClosed (insert m p b)
  row-closed e r x h =
      let (y, hy, bare_same) = smaller (e ∷ r) x h in
      let (d, hd, kind) = kept.parents e r y hy in
      let (c, hc, above) = bigger r d hd in
      (c, hc, (λ i. is_directory ((sym above i).kind)) ∙ kind)

  pub kept-row : IsKept (insert m p b)
  kept-row = kept-smaller (insert m p b) m row-closed smaller kept

-- a leaf goes
module _ (m : Objects) (p : Path) (kept : IsKept m) (childless : HasNoChild m p) where
  pub get_without : (q : Path) → get (without m p) q ≡ cond (not (is_same q p)) (get m q) None
  get_without q = get-retain_keys m (λ r. not (is_same r p)) q (λ x same. ap (λ r. not (is_same r p)) (sym (path_apart q x same)))

  left-smaller : IsSmaller (without m p) m
  left-smaller q x h = by (is_same q p) (sym (get_without q) ∙ h)
    where
      by : (t : Bool) → cond (not t) (get m q) None ≡ Some x → (y : Placed) × (get m q ≡ Some y) × (bare x.facts ≡ bare y.facts)
      by true h = cc
      by false h = (x, h, refl)

  left-closed : IsClosed (without m p)
  left-closed e r x h =
      let (y, hy, bare_same) = left-smaller (e ∷ r) x h in
      let (d, hd, kind) = kept.parents e r y hy in
      (d, get_without r ∙ by (is_same r p) refl y hy ∙ hd, kind)
    where
      by : (t : Bool) → is_same r p ≡ t → (y : Placed) → get m (e ∷ r) ≡ Some y → cond (not t) (get m r) None ≡ get m r
      by true same y hy = let at : get m (e ∷ p) ≡ Some y = ap (λ s. get m (e ∷ s)) (sym (same_path r p same)) ∙ hy in absurd (cc (subst IsNone at (childless e)))
      by false same y hy = refl

  pub kept-without : IsKept (without m p)
  kept-without = kept-smaller (without m p) m left-closed left-smaller kept
