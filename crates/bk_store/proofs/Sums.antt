-- Sums over maps from which a key is gone.
use Rattle.std.proofs.Common.{◌≡◌, ℕ, ◌+◌, Bool, true, false, cond, not, Option, Some, None, refl, sym, ap, ◌∙◌, arith, is_eq, Ordering}
use Rattle.std.specs.Ordering.{eq_by_cmp}
use Rattle.std.specs.Cmp.{IsTotalOrder, tied_itself}
use Rattle.std.specs.FinMap.{FinMap, IsAntisymmetric, get, insert, get-insert, retain_keys, get-retain_keys, same_map, entries}
use Rattle.bk_base.proofs.Totals.{part, tied, total_of, total-insert}

same_key : {K : Type 0} (R : K → K → Ordering) → IsAntisymmetric R → (a b : K) → eq_by_cmp R a b ≡ true → a ≡ b
same_key R apart a b e = apart a b (tied (R a b) e)

module _ {K X : Type 0} (R : K → K → Ordering) (apart : IsAntisymmetric R) (laws : IsTotalOrder R) where
  abbrev pub without_key : FinMap R X → K → FinMap R X
  without_key m k = retain_keys m (λ q. not (eq_by_cmp R q k))

  pub get-without_key : (m : FinMap R X) (k q : K) → get (without_key m k) q ≡ cond (not (eq_by_cmp R q k)) (get m q) None
  get-without_key m k q = get-retain_keys m (λ r. not (eq_by_cmp R r k)) q (λ x same. ap (λ r. not (eq_by_cmp R r k)) (sym (apart q x same)))

  -- what was there, and the rest, are all
  pub total-gone : (f : K → X → ℕ) (m : FinMap R X) (k : K) (o : Option X) → get m k ≡ o → total_of f (entries m) ≡ part f k o + total_of f (entries (without_key m k))
  total-gone f m k None is = let same = ap (λ n. total_of f (entries n)) (same_map laws apart m (without_key m k) (λ q. by q (eq_by_cmp R q k) refl ∙ sym (get-without_key m k q))) in omega (arith, same)
    where
      by : (q : K) (b : Bool) → eq_by_cmp R q k ≡ b → get m q ≡ cond (not b) (get m q) None
      by q true e = ap (get m) (same_key R apart q k e) ∙ is
      by q false e = refl
  total-gone f m k (Some x) is =
      ap (λ n. total_of f (entries n)) (same_map laws apart m (insert (without_key m k) k x) (λ q. by q (eq_by_cmp R q k) refl ∙ ap (cond (eq_by_cmp R q k) (Some x)) (sym (get-without_key m k q)) ∙ sym (get-insert laws (without_key m k) k x q)))
      ∙ total-insert R apart laws f (without_key m k) k x (get-without_key m k k ∙ ap (λ b. cond (not b) (get m k) None) (ap is_eq (tied_itself laws k)))
    where
      by : (q : K) (b : Bool) → eq_by_cmp R q k ≡ b → get m q ≡ cond b (Some x) (cond (not b) (get m q) None)
      by q true e = ap (get m) (same_key R apart q k e) ∙ is
      by q false e = refl
