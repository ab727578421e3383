-- The counters are the used numbers: at first, once a charge is taken, once it is given back, and under another row.
use Rattle.std.proofs.Common.{◌≡◌, ◌≢◌, ℕ, zero, suc, ◌+◌, ◌-◌, ◌<◌, ◌≤◌, Bool, true, false, cond, List, [], ◌∷◌, length, replicate, set, Some, None, refl, sym, ap, ◌∙◌, arith}
use Rattle.std.proofs.Common.{length-set}
use Rattle.std.specs.Prelude.{slice_get, if◌then◌else◌}
use Rattle.std.specs.Ordering.{eq_by_cmp}
use Rattle.std.specs.FinMap.{get, insert, get-insert, get-from_entries}
use Rattle.std.proofs.lemmas.Option.{same_Some, slice_get_within}
use Rattle.bk_object.specs.declared.Facts.{Facts}
use Rattle.bk_path.specs.Paths.{Path, path_cmp, is_same}
use Rattle.bk_path.specs.Orders.{path_total, same_path, is_same-itself}
use Rattle.bk_quota.specs.Charges.{charge_of, governing_in, level_in, quota_in, used_in}
use Rattle.bk_quota.specs.Usage.{Usage}
use Rattle.bk_tree.specs.declared.place.Placed.{Placed}
use Rattle.bk_tree.specs.Objects.{Objects, begun, facts_of}
use Rattle.bk_tree.specs.Kept.{cell_in, has_cell, HasDirectory, IsClosed, IsKept}
use Rattle.bk_tree.specs.Whole.{IsCounted}
use Rattle.bk_tree.proofs.Found.{tied_path, tied-itself}
use Rattle.bk_tree.proofs.Smaller.{bare, governing-same, has_cell-same, level-same, quota_at, used-le}
use Rattle.bk_tree.proofs.Added.{apart_paths, new_share, smaller, used-added, used_free}
use Rattle.bk_tree.proofs.Keeping.{alone, bigger, row-closed, used_alone, smaller as row-smaller}
use Rattle.bk_tree.proofs.Room.{governing-has_cell}
use Rattle.bk_tree.proofs.Written.{set-same, set-other}

-- a cell with this limit, of which so much is used
abbrev pub usage : (limit used : ℕ) → Usage
usage limit used = record { limit = limit; used = used }

-- no two objects have one slot
abbrev pub AreSlotsApart : Objects → Type 0
AreSlotsApart m = (p q : Path) (a b : Placed) → get m p ≡ Some a → get m q ≡ Some b → a.slot ≡ b.slot → p ≡ q

-- the counter of the cell that governs an object that is there
pub payer_cell : (m : Objects) (cells : List Usage) → IsCounted m cells → (p : Path) (g : Placed) → get m (governing_in facts_of m p) ≡ Some g → slice_get cells g.slot ≡ Some (cell_in m (governing_in facts_of m p))
payer_cell m cells counted p g there = counted.counts (governing_in facts_of m p) g there (governing-has_cell facts_of m p)

-- a map, and the same with one object more
module _ (m : Objects) (kept : IsKept m) (e : ℕ) (p : Path) (x : Placed) (free : get m (e ∷ p) ≡ None) (above : HasDirectory m p) (g : Placed) (payer : get m (governing_in facts_of m p) ≡ Some g) where
  abbrev pub more : Objects
  more = insert m (e ∷ p) x

  abbrev pub charge : ℕ
  charge = charge_of x.facts (level_in facts_of m p)

  abbrev pub gov : Path
  gov = governing_in facts_of m p

  share_gov : (q : Path) → is_same gov q ≡ true → new_share m kept e p x free above q ≡ charge
  share_gov q same = ap (λ t. if t then charge else 0) same

  share_other : (q : Path) → is_same gov q ≡ false → new_share m kept e p x free above q ≡ 0
  share_other q other = ap (λ t. if t then charge else 0) other

  gov_differs : is_same gov (e ∷ p) ≡ false
  gov_differs = apart_paths gov (e ∷ p) (λ same. absurd (cc (sym payer ∙ ap (get m) same ∙ free)))

  get_more : (q : Path) → get more q ≡ cond (eq_by_cmp path_cmp q (e ∷ p)) (Some x) (get m q)
  get_more q = get-insert path_total m (e ∷ p) x q

  -- the used numbers with the object
  pub used_gov : used_in facts_of more gov ≡ used_in facts_of m gov + charge
  used_gov = let all = used-added m kept e p x free above gov in let share = share_gov gov (is_same-itself gov) in omega (arith, all, share)

  pub same_gov : governing_in facts_of more p ≡ gov
  same_gov = sym (governing-same m more kept.parents (smaller m kept e p x free above) p above.0 above.1)

  pub same_charge : charge_of x.facts (level_in facts_of more p) ≡ charge
  same_charge = ap (charge_of x.facts) (sym (level-same m more kept.parents (smaller m kept e p x free above) p above.0 above.1))

  pub old_more : (q : Path) (a : Placed) → get m q ≡ Some a → get more q ≡ Some a
  old_more q a h = get_more q ∙ by (eq_by_cmp path_cmp q (e ∷ p)) refl
    where
      by : (t : Bool) → eq_by_cmp path_cmp q (e ∷ p) ≡ t → cond t (Some x) (get m q) ≡ Some a
      by true tie = absurd (cc (sym h ∙ ap (get m) (tied_path q (e ∷ p) tie) ∙ free))
      by false tie = h

  pub same_quota : (q : Path) (a : Placed) → get m q ≡ Some a → quota_in facts_of more q ≡ quota_in facts_of m q
  same_quota q a h = quota_at more q a (old_more q a h) ∙ sym (quota_at m q a h)

  -- the charge is taken, and the new object has a counter of its own
  module _ (cells one two : List Usage) (counted : IsCounted m cells) (apart : AreSlotsApart m) (unused : (q : Path) (a : Placed) → get m q ≡ Some a → a.slot ≢ x.slot)
      (is_one : one ≡ set cells g.slot (usage (quota_in facts_of m gov) (used_in facts_of m gov + charge))) (is_two : two ≡ set one x.slot (usage x.facts.quota 1)) (room : x.slot < length cells) where
    g_within : g.slot < length cells
    g_within = slice_get_within cells g.slot _ (payer_cell m cells counted p g payer)

    in_one : x.slot < length one
    in_one = let long = ap length is_one ∙ length-set cells g.slot _ in omega (arith, long, room)

    pub counted-more : IsCounted more two
    counted-more = record { counts = λ q a h cell. by q a cell (eq_by_cmp path_cmp q (e ∷ p)) refl (sym (get_more q) ∙ h) }
      where
        by : (q : Path) (a : Placed) → has_cell more q ≡ true → (t : Bool) → eq_by_cmp path_cmp q (e ∷ p) ≡ t → cond t (Some x) (get m q) ≡ Some a → slice_get two a.slot ≡ Some (cell_in more q)
        by q a cell true tie h =
            let is = tied_path q (e ∷ p) tie in
            let here : x ≡ a = same_Some x a h in
            let at : get more (e ∷ p) ≡ Some x = get_more (e ∷ p) ∙ ap (λ t. cond t (Some x) (get m (e ∷ p))) (tied-itself (e ∷ p)) in
            let quota = quota_at more (e ∷ p) x at in
            let all = used-added m kept e p x free above (e ∷ p) in
            let share = share_other (e ∷ p) gov_differs in
            let alone = used_free m kept.parents (e ∷ p) free in
            let used : used_in facts_of more (e ∷ p) ≡ 1 = omega (arith, all, share, alone) in
            ap (slice_get two) (ap (λ (y : Placed). y.slot) (sym here)) ∙ ap (λ xs. slice_get xs x.slot) is_two ∙ set-same one x.slot (usage x.facts.quota 1) in_one
            ∙ (λ i. Some (usage (sym quota i) (sym used i))) ∙ ap (λ r. Some (cell_in more r)) (sym is)
        by q a cell false tie h =
            let has = has_cell-same m more kept.parents (smaller m kept e p x free above) q a h ∙ cell in
            let old = counted.counts q a h has in
            ap (λ xs. slice_get xs a.slot) is_two ∙ set-other one x.slot a.slot (usage x.facts.quota 1) (unused q a h) ∙ ap (λ xs. slice_get xs a.slot) is_one ∙ split (is_same gov q) refl old
          where
            split : (t : Bool) → is_same gov q ≡ t → slice_get cells a.slot ≡ Some (cell_in m q) → slice_get (set cells g.slot (usage (quota_in facts_of m gov) (used_in facts_of m gov + charge))) a.slot ≡ Some (cell_in more q)
            split true same old =
                let is = same_path gov q same in
                let its : g ≡ a = same_Some g a (sym payer ∙ ap (get m) is ∙ h) in
                ap (slice_get (set cells g.slot (usage (quota_in facts_of m gov) (used_in facts_of m gov + charge)))) (ap (λ (y : Placed). y.slot) (sym its))
                ∙ set-same cells g.slot (usage (quota_in facts_of m gov) (used_in facts_of m gov + charge)) g_within
                ∙ (λ i. Some (usage (sym (same_quota gov g payer) i) (sym used_gov i))) ∙ ap (λ r. Some (cell_in more r)) is
            split false other old =
                let differ : a.slot ≢ g.slot = λ same. absurd (cc (sym other ∙ ap (λ r. is_same r q) (sym (apart q gov a g h payer same)) ∙ is_same-itself q)) in
                let all = used-added m kept e p x free above q in
                let share = share_other q other in
                let used : used_in facts_of more q ≡ used_in facts_of m q = omega (arith, all, share) in
                set-other cells g.slot a.slot _ differ ∙ old ∙ (λ i. Some (usage (sym (same_quota q a h) i) (sym used i)))

  -- the charge is given back
  module _ (cells one : List Usage) (counted : IsCounted more cells) (apart : AreSlotsApart more)
      (is_one : one ≡ set cells g.slot (usage (quota_in facts_of more gov) (used_in facts_of more gov - charge))) where
    pub counted-less : IsCounted m one
    counted-less = record { counts = λ q a h cell. ap (λ xs. slice_get xs a.slot) is_one ∙ split q a h (counted.counts q a (old_more q a h) (sym (has_cell-same m more kept.parents (smaller m kept e p x free above) q a h) ∙ cell)) (is_same gov q) refl }
      where
        less : ℕ
        less = used_in facts_of more gov - charge

        split : (q : Path) (a : Placed) → get m q ≡ Some a → slice_get cells a.slot ≡ Some (cell_in more q) → (t : Bool) → is_same gov q ≡ t → slice_get (set cells g.slot (usage (quota_in facts_of more gov) less)) a.slot ≡ Some (cell_in m q)
        split q a h old true same =
            let is = same_path gov q same in
            let its : g ≡ a = same_Some g a (sym payer ∙ ap (get m) is ∙ h) in
            let used : less ≡ used_in facts_of m gov = omega (arith, used_gov) in
            ap (slice_get (set cells g.slot (usage (quota_in facts_of more gov) less))) (ap (λ (y : Placed). y.slot) (sym its))
            ∙ set-same cells g.slot (usage (quota_in facts_of more gov) less) (slice_get_within cells g.slot _ (ap (slice_get cells) (ap (λ (y : Placed). y.slot) its) ∙ old))
            ∙ (λ i. Some (usage (same_quota gov g payer i) (used i))) ∙ ap (λ r. Some (cell_in m r)) is
        split q a h old false other =
            let differ : a.slot ≢ g.slot = λ same. absurd (cc (sym other ∙ ap (λ r. is_same r q) (sym (apart q gov a g (old_more q a h) (old_more gov g payer) same)) ∙ is_same-itself q)) in
            let all = used-added m kept e p x free above q in
            let share = share_other q other in
            let used : used_in facts_of more q ≡ used_in facts_of m q = omega (arith, all, share) in
            set-other cells g.slot a.slot _ differ ∙ old ∙ (λ i. Some (usage (same_quota q a h i) (used i)))

-- another row
pub counted-row : (m : Objects) (p : Path) (a b : Placed) (cells : List Usage) → IsKept m → get m p ≡ Some a → bare b.facts ≡ bare a.facts → b.slot ≡ a.slot → IsCounted m cells → IsCounted (insert m p b) cells
counted-row m p a b cells kept there same slot counted = record { counts = λ q x h cell. by q x h cell }
  where
    closed : IsClosed (insert m p b)
    closed = row-closed m p a b kept there same

    by : (q : Path) (x : Placed) → get (insert m p b) q ≡ Some x → has_cell (insert m p b) q ≡ true → slice_get cells x.slot ≡ Some (cell_in (insert m p b) q)
    by q x h cell =
        let (y, hy, bare_same) = row-smaller m p a b kept there same q x h in
        let has = sym (has_cell-same (insert m p b) m closed (row-smaller m p a b kept there same) q x h) ∙ cell in
        let low = used-le (insert m p b) m closed (row-smaller m p a b kept there same) q in
        let high = used-le m (insert m p b) kept.parents (bigger m p a b kept there same) q in
        let used : used_in facts_of m q ≡ used_in facts_of (insert m p b) q = omega (arith, low, high) in
        let quota : quota_in facts_of m q ≡ quota_in facts_of (insert m p b) q = quota_at m q y hy ∙ sym (λ i. (bare_same i).quota) ∙ sym (quota_at (insert m p b) q x h) in
        ap (slice_get cells) (slots q x y h hy (eq_by_cmp path_cmp q p) refl) ∙ counted.counts q y hy has ∙ (λ i. Some (usage (quota i) (used i)))
      where
        slots : (q : Path) (x y : Placed) → get (insert m p b) q ≡ Some x → get m q ≡ Some y → (t : Bool) → eq_by_cmp path_cmp q p ≡ t → x.slot ≡ y.slot
        slots q x y h hy true tie =
            let one : b ≡ x = same_Some b x (sym (get-insert path_total m p b q ∙ ap (λ t. cond t (Some b) (get m q)) tie) ∙ h) in
            let two : a ≡ y = same_Some a y (sym there ∙ ap (get m) (sym (tied_path q p tie)) ∙ hy) in
            ap (λ (z : Placed). z.slot) (sym one) ∙ slot ∙ ap (λ (z : Placed). z.slot) two
        slots q x y h hy false tie = ap (λ (z : Placed). z.slot) (same_Some x y (sym h ∙ get-insert path_total m p b q ∙ ap (λ t. cond t (Some b) (get m q)) tie ∙ hy))

at_replicate : (n : ℕ) (c : Usage) → 1 ≤ n → slice_get (replicate n c) 0 ≡ Some c
at_replicate zero c some = absurd (omega (arith, some))
at_replicate (suc n) c some = refl

-- root alone
pub counted-begun : (root : Facts) (slots : ℕ) → 1 ≤ root.quota → 1 ≤ slots → IsCounted (begun root) (replicate slots (usage root.quota 1))
counted-begun root slots some many = record { counts = λ q a h cell. by q a h }
  where
    by : (q : Path) (a : Placed) → get (begun root) q ≡ Some a → slice_get (replicate slots (usage root.quota 1)) a.slot ≡ Some (cell_in (begun root) q)
    by q a h =
        let (is, facts) = alone root some q a h in
        let here : get (begun root) [] ≡ Some (record { slot = 0; facts = root }) = get-from_entries path_total (([], record { slot = 0; facts = root }) ∷ []) [] in
        let its : record { slot = 0; facts = root } ≡ a = same_Some (record { slot = 0; facts = root }) a (sym here ∙ ap (get (begun root)) (sym is) ∙ h) in
        ap (slice_get (replicate slots (usage root.quota 1))) (ap (λ (y : Placed). y.slot) (sym its)) ∙ at_replicate slots (usage root.quota 1) many
        ∙ (λ i. Some (usage (sym (quota_at (begun root) [] (record { slot = 0; facts = root }) here) i) (sym (used_alone root some) i))) ∙ ap (λ r. Some (cell_in (begun root) r)) (sym is)
