-- A map with fewer objects, whose rows may differ, has the same governing cells and no more in use.
use Rattle.std.proofs.Common.{◌≡◌, ℕ, ◌≤◌, Bool, true, false, not, ◌&&◌, [], ◌∷◌, Option, Some, None, refl, sym, ap, ◌∙◌, arith, ◌==◌}
use Rattle.std.specs.Prelude.{unwrap_or, option_map, if◌then◌else◌}
use Rattle.std.specs.FinMap.{get}
use Rattle.std.proofs.lemmas.Bool.Decides.{nat_tests}
use Rattle.bk_base.proofs.Totals.{part, total-le}
use Rattle.bk_object.specs.declared.Facts.{Facts}
use Rattle.bk_object.specs.declared.Kind.{Kind}
use Rattle.bk_object.specs.declared.Kind.TheVariants.{Directory, Segment, Mailbox, Line}
use Rattle.bk_object.specs.Kinds.{is_directory}
use Rattle.bk_path.specs.Paths.{Path, path_cmp, is_same}
use Rattle.bk_path.specs.Orders.{path_total, path_apart}
use Rattle.bk_quota.specs.Charges.{charge_of, passes, level_in, quota_in, is_upgraded_in, governing_in, share_in, used_in}
use Rattle.bk_tree.specs.declared.place.Placed.{Placed}
use Rattle.bk_tree.specs.Objects.{Objects, facts_of}
use Rattle.bk_tree.specs.Kept.{has_cell, IsClosed, IsKept}

-- facts without their row
abbrev pub bare : Facts → Facts
bare facts = record facts { row = [] }

abbrev pub charge_by : Kind → (blocks level quota above : ℕ) → ℕ
charge_by Directory blocks level quota above = if level == above then 1 else quota
charge_by Segment blocks level quota above = blocks
charge_by Mailbox blocks level quota above = 2
charge_by (Line n) blocks level quota above = 1

pub charge_is : (kind : Kind) (facts : Facts) (above : ℕ) → charge_of (record facts { kind = kind }) above ≡ charge_by kind facts.blocks facts.level facts.quota above
charge_is Directory facts above = refl
charge_is Segment facts above = refl
charge_is Mailbox facts above = refl
charge_is (Line n) facts above = refl

-- what an upgraded directory is charged
pub charge_kind : (kind : Kind) (blocks level quota above : ℕ) → (is_directory kind && not (above == level)) ≡ true → charge_by kind blocks level quota above ≡ quota
charge_kind Directory blocks level quota above up = by (level == above) refl
  where
    by : (b : Bool) → (level == above) ≡ b → (if b then 1 else quota) ≡ quota
    by true same = absurd (grind (arith, nat_tests, same, up))
    by false same = refl
charge_kind Segment blocks level quota above up = cc
charge_kind Mailbox blocks level quota above up = cc
charge_kind (Line n) blocks level quota above up = cc

-- the row doesn't count
pub charge-bare : (a b : Facts) (above : ℕ) → bare a ≡ bare b → charge_of a above ≡ charge_of b above
charge-bare a b above same = charge_is a.kind a above ∙ (λ i. charge_by ((same i).kind) ((same i).blocks) ((same i).level) ((same i).quota) above) ∙ sym (charge_is b.kind b above)

-- each object of the first is one of the second, up to its row
abbrev pub IsSmaller : Objects → Objects → Type 0
IsSmaller n m = (q : Path) (b : Placed) → get n q ≡ Some b → (a : Placed) × (get m q ≡ Some a) × (bare b.facts ≡ bare a.facts)

pub level_at : (m : Objects) (q : Path) (a : Placed) → get m q ≡ Some a → level_in facts_of m q ≡ a.facts.level
level_at m q a h = ap (λ o. unwrap_or (option_map (λ (f : Facts). f.level) (option_map facts_of o)) 0) h

pub quota_at : (m : Objects) (q : Path) (a : Placed) → get m q ≡ Some a → quota_in facts_of m q ≡ a.facts.quota
quota_at m q a h = ap (λ o. unwrap_or (option_map (λ (f : Facts). f.quota) (option_map facts_of o)) 0) h

-- what makes an upgraded directory, where object and parent are there
pub upgraded_at : (m : Objects) (e : ℕ) (p : Path) (a c : Placed) → get m (e ∷ p) ≡ Some a → get m p ≡ Some c →
    is_upgraded_in facts_of m (e ∷ p) ≡ (is_directory a.facts.kind && not (c.facts.level == a.facts.level))
upgraded_at m e p a c ha hc = λ i. passes (λ facts. is_directory facts.kind && passes (λ above. not (above.level == facts.level)) (option_map facts_of (hc i))) (option_map facts_of (ha i))

module _ (n m : Objects) (closed : IsClosed n) (smaller : IsSmaller n m) where
  pub upgraded-same : (e : ℕ) (p : Path) (b : Placed) → get n (e ∷ p) ≡ Some b → is_upgraded_in facts_of n (e ∷ p) ≡ is_upgraded_in facts_of m (e ∷ p)
  upgraded-same e p b h =
      let (d, hd, kind) = closed e p b h in
      let (a, ha, same) = smaller (e ∷ p) b h in
      let (c, hc, above) = smaller p d hd in
      upgraded_at n e p b d h hd ∙ (λ i. is_directory ((same i).kind) && not ((above i).level == (same i).level)) ∙ sym (upgraded_at m e p a c ha hc)

  pub governing-same : (q : Path) (b : Placed) → get n q ≡ Some b → governing_in facts_of n q ≡ governing_in facts_of m q
  governing-same [] b h = refl
  governing-same (e ∷ p) b h =
      let (d, hd, kind) = closed e p b h in
      let above = governing-same p d hd in
      let here = upgraded-same e p b h in
      λ i. if here i then e ∷ p else above i

  pub level-same : (q : Path) (b : Placed) → get n q ≡ Some b → level_in facts_of n q ≡ level_in facts_of m q
  level-same q b h = let (a, ha, same) = smaller q b h in level_at n q b h ∙ (λ i. (same i).level) ∙ sym (level_at m q a ha)

  pub has_cell-same : (q : Path) (b : Placed) → get n q ≡ Some b → has_cell n q ≡ has_cell m q
  has_cell-same [] b h = refl
  has_cell-same (e ∷ p) b h = upgraded-same e p b h

  pub share-same : (cell q : Path) (b : Placed) → get n q ≡ Some b → (facts : Facts) → bare b.facts ≡ bare facts → share_in facts_of n cell q b.facts ≡ share_in facts_of m cell q facts
  share-same cell [] b h facts same = refl
  share-same cell (e ∷ p) b h facts same =
      let (d, hd, kind) = closed e p b h in
      let above = governing-same p d hd in
      let charge = charge-bare b.facts facts (level_in facts_of n p) same ∙ ap (charge_of facts) (level-same p d hd) in
      λ i. if is_same (above i) cell then charge i else 0

  part_le : (cell q : Path) → part (λ q x. share_in facts_of n cell q x.facts) q (get n q) ≤ part (λ q x. share_in facts_of m cell q x.facts) q (get m q)
  part_le cell q = by (get n q) refl
    where
      by : (o : Option Placed) → get n q ≡ o → part (λ q x. share_in facts_of n cell q x.facts) q o ≤ part (λ q x. share_in facts_of m cell q x.facts) q (get m q)
      by None h = omega arith
      by (Some b) h =
          let (a, ha, same) = smaller q b h in
          let share = share-same cell q b h a.facts same in
          let there : part (λ q x. share_in facts_of m cell q x.facts) q (get m q) ≡ share_in facts_of m cell q a.facts = ap (part (λ q (x : Placed). share_in facts_of m cell q x.facts) q) ha in
          omega (arith, share, there)

  pub used-le : (cell : Path) → used_in facts_of n cell ≤ used_in facts_of m cell
  used-le cell = let less = total-le path_cmp path_apart path_total (λ q x. share_in facts_of n cell q x.facts) (λ q x. share_in facts_of m cell q x.facts) n m (part_le cell) in omega (arith, less)

  -- what is kept of a map is kept of a smaller one
  pub kept-smaller : IsKept m → IsKept n
  kept-smaller kept = record {
    parents = closed;
    charges = λ e p b h.
        let (a, ha, same) = smaller (e ∷ p) b h in
        let (d, hd, kind) = closed e p b h in
        let charge = charge-bare b.facts a.facts (level_in facts_of n p) same ∙ ap (charge_of a.facts) (level-same p d hd) in
        let some = kept.charges e p a ha in
        omega (arith, charge, some);
    within = λ q b h cell.
        let (a, ha, same) = smaller q b h in
        let less = used-le q in
        let most = kept.within q a ha (sym (has_cell-same q b h) ∙ cell) in
        let quota : b.facts.quota ≡ a.facts.quota = (λ i. (same i).quota) in
        omega (arith, less, most, quota);
  }
