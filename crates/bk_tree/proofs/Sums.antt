-- Sums over lists and over the entries of maps, and sums of sums.
use Rattle.std.proofs.Common.{◌≡◌, ℕ, ◌+◌, ◌≤◌, Bool, true, false, cond, List, [], ◌∷◌, length, Option, Some, None, refl, sym, ap, ◌∙◌, arith, Ordering}
use Rattle.std.specs.Prelude.{unwrap_or}
use Rattle.std.specs.List.{sum_by}
use Rattle.std.specs.Ordering.{eq_by_cmp}
use Rattle.std.specs.Cmp.{IsTotalOrder}
use Rattle.std.specs.FinMap.{FinMap, IsAntisymmetric, get, entries, find, get-entries, from_sorted, entries-from_sorted, get-from_sorted}
use Rattle.std.proofs.lemmas.List.Sums.{sum_by-cons}
use Rattle.bk_base.proofs.Totals.{part, tied, total_of, total-le}

module _ {A : Type 0} where
  pub zeros : (xs : List A) → sum_by (λ (a : A). 0) xs ≡ 0
  zeros [] = refl
  zeros (a ∷ xs) = omega (arith, zeros xs, sum_by-cons (λ (a : A). 0) a xs)

  pub ones : (xs : List A) → sum_by (λ (a : A). 1) xs ≡ length xs
  ones [] = refl
  ones (a ∷ xs) = omega (arith, ones xs, sum_by-cons (λ (a : A). 1) a xs)

  pub plus : (f g : A → ℕ) (xs : List A) → sum_by (λ a. f a + g a) xs ≡ sum_by f xs + sum_by g xs
  plus f g [] = refl
  plus f g (a ∷ xs) = omega (arith, plus f g xs, sum_by-cons (λ a. f a + g a) a xs, sum_by-cons f a xs, sum_by-cons g a xs)

-- which of two sums is taken first doesn't matter
module _ {A B : Type 0} (s : A → B → ℕ) where
  pub swap_sums : (xs : List A) (ys : List B) → sum_by (λ a. sum_by (λ b. s a b) ys) xs ≡ sum_by (λ b. sum_by (λ a. s a b) xs) ys
  swap_sums [] ys = sym (zeros ys)
  swap_sums (a ∷ xs) ys =
      let rest = swap_sums xs ys in
      let here = sum_by-cons (λ a. sum_by (λ b. s a b) ys) a xs in
      let split = plus (λ b. s a b) (λ b. sum_by (λ a. s a b) xs) ys in
      let same : sum_by (λ b. sum_by (λ a. s a b) (a ∷ xs)) ys ≡ sum_by (λ b. s a b + sum_by (λ a. s a b) xs) ys = alike ys in
      omega (arith, rest, here, split, same)
    where
      alike : (ys : List B) → sum_by (λ b. sum_by (λ a. s a b) (a ∷ xs)) ys ≡ sum_by (λ b. s a b + sum_by (λ a. s a b) xs) ys
      alike [] = refl
      alike (b ∷ ys) = omega (arith, alike ys, sum_by-cons (λ b. sum_by (λ a. s a b) (a ∷ xs)) b ys, sum_by-cons (λ b. s a b + sum_by (λ a. s a b) xs) b ys, sum_by-cons (λ a. s a b) a xs)

module _ {K X : Type 0} (R : K → K → Ordering) (apart : IsAntisymmetric R) (laws : IsTotalOrder R) where
  found_in : (f : K → X → ℕ) (k : K) (x : X) (es : List (K × X)) → find R k es ≡ Some x → f k x ≤ total_of f es
  found_in f k x [] h = cc
  found_in f k x (e ∷ es) h = by (eq_by_cmp R k e.0) refl h (found_in f k x es)
    where
      by : (b : Bool) → eq_by_cmp R k e.0 ≡ b → cond b (Some e.1) (find R k es) ≡ Some x → (find R k es ≡ Some x → f k x ≤ total_of f es) → f k x ≤ total_of f (e ∷ es)
      by true same h rest =
          let one : f k x ≡ f e.0 e.1 = (λ i. f (apart k e.0 (tied (R k e.0) same) i) (unwrap_or (sym h i) x)) in
          omega (arith, one, sum_by-cons (λ (e : K × X). f e.0 e.1) e es)
      by false same h rest = omega (arith, rest h, sum_by-cons (λ (e : K × X). f e.0 e.1) e es)

  -- what one adds is no more than the sum
  pub found_le : (f : K → X → ℕ) (m : FinMap R X) (k : K) (x : X) → get m k ≡ Some x → f k x ≤ total_of f (entries m)
  found_le f m k x h = found_in f k x (entries m) (sym (get-entries m k) ∙ h)

  -- sums over one map compare as what each key adds
  pub pointwise : (m : FinMap R X) (f g : K → X → ℕ) → ((k : K) (x : X) → get m k ≡ Some x → f k x ≤ g k x) → total_of f (entries m) ≤ total_of g (entries m)
  pointwise m f g each = total-le R apart laws f g m m (λ k. by k (get m k) refl)
    where
      by : (k : K) (o : Option X) → get m k ≡ o → part f k o ≤ part g k o
      by k None h = omega arith
      by k (Some x) h = each k x h

  -- a sum to which no key but one adds anything is no more than what that one adds
  pub only_le : (f : K → X → ℕ) (m : FinMap R X) (k : K) (most : ℕ) →
      ((q : K) (x : X) → get m q ≡ Some x → eq_by_cmp R q k ≡ false → f q x ≡ 0) →
      ((x : X) → get m k ≡ Some x → f k x ≤ most) → total_of f (entries m) ≤ most
  only_le f m k most others one = by (get m k) refl
    where
      by : (o : Option X) → get m k ≡ o → total_of f (entries m) ≤ most
      by None is = omega (arith, pointwise m f (λ q x. 0) (λ q x h. nothing q x h (eq_by_cmp R q k) refl), zeros (entries m))
        where
          nothing : (q : K) (x : X) → get m q ≡ Some x → (b : Bool) → eq_by_cmp R q k ≡ b → f q x ≤ 0
          nothing q x h true same = absurd (cc (sym h ∙ ap (get m) (apart q k (tied (R q k) same)) ∙ is))
          nothing q x h false other = omega (arith, others q x h other)
      by (Some v) is =
          let less = total-le R apart laws f (λ q x. most) m (from_sorted {R = R} ((k, v) ∷ [])) (λ q. part_le q (get m q) refl) in
          let whole = ap (total_of (λ (q : K) (x : X). most)) (entries-from_sorted R ((k, v) ∷ []) tt) in
          let alone = sum_by-cons (λ (e : K × X). most) (k, v) [] in
          omega (arith, less, whole, alone)
        where
          there : (q : K) → eq_by_cmp R q k ≡ true → get (from_sorted {R = R} ((k, v) ∷ [])) q ≡ Some v
          there q same = get-from_sorted R ((k, v) ∷ []) q tt ∙ ap (λ b. cond b (Some v) None) same

          part_le : (q : K) (o : Option X) → get m q ≡ o → part f q o ≤ part (λ q x. most) q (get (from_sorted {R = R} ((k, v) ∷ [])) q)
          part_le q None h = omega arith
          part_le q (Some x) h = kept (eq_by_cmp R q k) refl
            where
              kept : (b : Bool) → eq_by_cmp R q k ≡ b → f q x ≤ part (λ q x. most) q (get (from_sorted {R = R} ((k, v) ∷ [])) q)
              kept true same =
                  let is : q ≡ k = apart q k (tied (R q k) same) in
                  let value : f q x ≡ f k x = ap (λ r. f r x) is in
                  let limit : part (λ (q : K) (x : X). most) q (get (from_sorted {R = R} ((k, v) ∷ [])) q) ≡ most = ap (part (λ (q : K) (x : X). most) q) (there q same) in
                  omega (arith, value, limit, one x (sym (ap (get m) is) ∙ h))
              kept false other = omega (arith, others q x h other)
