-- A map of objects that is a part of another one, with the parents of its objects: what is governed is the same in both,
-- and an object of the whole fits beside the part where no cell of the whole is overdrawn.
use Rattle.std.proofs.Common.{◌≡◌, ℕ, ◌+◌, ◌≤◌, Bool, true, false, cond, not, ◌&&◌, ◌==◌, [], ◌∷◌, Option, Some, None, refl, sym, ap, subst}
use Rattle.std.proofs.Common.{◌∙◌, arith, le_of_eq}
use Rattle.std.specs.Prelude.{option_map, unwrap_or, if◌then◌else◌}
use Rattle.std.specs.Ordering.{eq_by_cmp}
use Rattle.std.specs.FinMap as map
use Rattle.bk_base.proofs.Totals.{part, tied, total-alike, total-insert, total-le}
use Rattle.bk_object.specs.Kinds.{is_directory}
use Rattle.bk_object.specs.declared.facts.Facts.{Facts}
use Rattle.bk_path.specs.Paths.{Path, path_cmp, is_same}
use Rattle.bk_path.specs.Orders.{path_total, path_apart, is_same-itself}
use Rattle.bk_quota.specs.Charges.{passes, charge_of, governing_in, is_upgraded_in, level_in, quota_in, share_in, used_in}
use Rattle.bk_state.specs.State.{Object}
use Rattle.bk_image.specs.Objects.{Objects, facts_at}
use Rattle.bk_image.proofs.SecureLists.{mapped_some}

abbrev pub facts_of : Object → Facts
facts_of object = object.facts

-- what the first map has the second has too, and the parent of each of its objects is in it
pub record IsPart (m n : Objects) : Type 0 where
  pub kept : (p : Path) (facts : Facts) → facts_at m p ≡ Some facts → facts_at n p ≡ Some facts
  pub closed : (entry : ℕ) (p : Path) (facts : Facts) → facts_at m (entry ∷ p) ≡ Some facts → (above : Facts) × (facts_at m p ≡ Some above)

module _ (m n : Objects) (is_part : IsPart m n) where
  abbrev pub IsIn : Path → Type 0
  IsIn p = (facts : Facts) × (facts_at m p ≡ Some facts)

  facts-same : (p : Path) → IsIn p → facts_at n p ≡ facts_at m p
  facts-same p (facts, is) = is_part.kept p facts is ∙ sym is

  above : (entry : ℕ) (p : Path) → IsIn (entry ∷ p) → IsIn p
  above entry p (facts, is) = is_part.closed entry p facts is

  upgraded-same : (p : Path) → IsIn p → is_upgraded_in facts_of n p ≡ is_upgraded_in facts_of m p
  upgraded-same [] there = refl
  upgraded-same (entry ∷ p) there = λ i. passes (λ facts. is_directory facts.kind && passes (λ above. not (above.level == facts.level)) (facts-same p (above entry p there) i)) (facts-same (entry ∷ p) there i)

  governing-same : (p : Path) → IsIn p → governing_in facts_of n p ≡ governing_in facts_of m p
  governing-same [] there = refl
  governing-same (entry ∷ p) there = λ i. if upgraded-same (entry ∷ p) there i then entry ∷ p else governing-same p (above entry p there) i

  governing-there : (p : Path) → IsIn p → IsIn (governing_in facts_of m p)
  governing-there [] there = there
  governing-there (entry ∷ p) there = by (is_upgraded_in facts_of m (entry ∷ p)) (governing-there p (above entry p there))
    where
      by : (b : Bool) → IsIn (governing_in facts_of m p) → IsIn (cond b (entry ∷ p) (governing_in facts_of m p))
      by true rest = there
      by false rest = rest

  level-same : (p : Path) → IsIn p → level_in facts_of n p ≡ level_in facts_of m p
  level-same p there = ap (λ o. unwrap_or (option_map (λ (f : Facts). f.level) o) 0) (facts-same p there)

  quota-same : (p : Path) → IsIn p → quota_in facts_of n p ≡ quota_in facts_of m p
  quota-same p there = ap (λ o. unwrap_or (option_map (λ (f : Facts). f.quota) o) 0) (facts-same p there)

  share-same : (cell : Path) (entry : ℕ) (p : Path) (facts : Facts) → IsIn p → share_in facts_of n cell (entry ∷ p) facts ≡ share_in facts_of m cell (entry ∷ p) facts
  share-same cell entry p facts there = λ i. if is_same (governing-same p there i) cell then charge_of facts (level-same p there i) else 0

  abbrev share : Objects → (cell : Path) → Path → Object → ℕ
  share all cell p object = share_in facts_of all cell p object.facts

  -- what the part's objects use of a cell, and what one more object of the whole uses, is no more than what is used in all
  used-more : (cell path : Path) (object : Object) → map.get m path ≡ None → facts_at n path ≡ Some object.facts →
      used_in facts_of m cell + share n cell path object ≤ used_in facts_of n cell
  used-more cell path object none there =
      let alike = total-alike path_cmp path_apart path_total (share m cell) (share n cell) m m (λ q. each q (map.get m q) refl) in
      let more = total-insert path_cmp path_apart path_total (share n cell) m path object none in
      let less = total-le path_cmp path_apart path_total (share n cell) (share n cell) (map.insert m path object) n (λ q. smaller q) in
      omega (arith, alike, more, less)
    where
      each : (q : Path) (o : Option Object) → map.get m q ≡ o → part (share m cell) q o ≡ part (share n cell) q o
      each q None is = refl
      each [] (Some x) is = refl
      each (entry ∷ p) (Some x) is = sym (share-same cell entry p x.facts (above entry p (x.facts, ap (option_map facts_of) is)))

      known : (q : Path) (facts : Facts) → facts_at n q ≡ Some facts → share_in facts_of n cell q facts ≤ part (share n cell) q (map.get n q)
      known q facts is =
          let (x, at, same) = mapped_some facts_of (map.get n q) facts is in
          le_of_eq (sym (ap (part (share n cell) q) at ∙ ap (share_in facts_of n cell q) same))

      by : (q : Path) (b : Bool) (o : Option Object) → eq_by_cmp path_cmp q path ≡ b → map.get m q ≡ o → part (share n cell) q (cond b (Some object) o) ≤ part (share n cell) q (map.get n q)
      by q true o same is = known q object.facts (ap (facts_at n) (path_apart q path (tied (path_cmp q path) same)) ∙ there)
      by q false None same is = omega arith
      by q false (Some x) same is = known q x.facts (is_part.kept q x.facts (ap (option_map facts_of) is))

      smaller : (q : Path) → part (share n cell) q (map.get (map.insert m path object) q) ≤ part (share n cell) q (map.get n q)
      smaller q = subst (λ o. part (share n cell) q o ≤ part (share n cell) q (map.get n q)) (sym (map.get-insert path_total m path object q)) (by q (eq_by_cmp path_cmp q path) (map.get m q) refl refl)

  -- an object of the whole fits beside the part
  pub fits-part : (entry : ℕ) (path : Path) (object : Object) → IsIn path → map.get m (entry ∷ path) ≡ None → facts_at n (entry ∷ path) ≡ Some object.facts →
      used_in facts_of n (governing_in facts_of n path) ≤ quota_in facts_of n (governing_in facts_of n path) →
      used_in facts_of m (governing_in facts_of m path) + charge_of object.facts (level_in facts_of m path) ≤ quota_in facts_of m (governing_in facts_of m path)
  fits-part entry path object there none all within =
      let cell = governing_in facts_of m path in
      let same = governing-same path there in
      let limit : used_in facts_of n cell ≤ quota_in facts_of n cell = subst (λ c. used_in facts_of n c ≤ quota_in facts_of n c) same within in
      let own : share n cell (entry ∷ path) object ≡ charge_of object.facts (level_in facts_of m path) =
      (λ i. if is_same (same i) cell then charge_of object.facts (level-same path there i) else 0) ∙ ap (λ b. if b then charge_of object.facts (level_in facts_of m path) else 0) (is_same-itself cell) in
      let quota = quota-same cell (governing-there path there) in
      let more = used-more cell (entry ∷ path) object none all in
      omega (arith, limit, own, quota, more)
