-- Lists made from the numbers below a number, of which one more is taken.
use Rattle.std.proofs.Common.{◌≡◌, ℕ, zero, suc, ◌+◌, List, [], ◌∷◌, ◌++◌, map, sym, ap, ◌∙◌, append_assoc, add-one, arith}
use Rattle.std.specs.Prelude.{flat_map}
use Rattle.std.specs.List.{range_with_len}
use Rattle.std.proofs.lemmas.List.{append-nil}
use Rattle.std.proofs.lemmas.List.Concat.{flat_map-cons}
use Rattle.std.proofs.lemmas.List.FromFn.{map-range_with_len_more}
use Rattle.bk_gen.specs.Subjects.{numbers_below}

joined-more_from : {X : Type 0} (f : ℕ → List X) (a n : ℕ) → flat_map f (range_with_len a (suc n)) ≡ flat_map f (range_with_len a n) ++ f (a + n)
joined-more_from f a zero = flat_map-cons f a [] ∙ append-nil (f a) ∙ ap f (omega arith)
joined-more_from f a (suc n) =
    let place : a + 1 + n ≡ a + suc n = omega arith in
    flat_map-cons f a (range_with_len (a + 1) (suc n))
    ∙ ap (λ xs. f a ++ xs) (joined-more_from f (a + 1) n)
    ∙ sym (append_assoc (f a) (flat_map f (range_with_len (a + 1) n)) (f (a + 1 + n)))
    ∙ (λ i. sym (flat_map-cons f a (range_with_len (a + 1) n)) i ++ f (place i))

joined-more : {X : Type 0} (f : ℕ → List X) (n : ℕ) → flat_map f (numbers_below (n + 1)) ≡ flat_map f (numbers_below n) ++ f n
joined-more f n = rw add-one (joined-more_from f 0 n ∙ ap (λ k. flat_map f (range_with_len 0 n) ++ f k) (omega arith))

module _ {X : Type 0} (had old new : List X) (n : ℕ) where
  -- the value at the next number goes behind those at the numbers before it
  pub one_more : (f : ℕ → X) (x : X) → old ≡ had ++ map f (numbers_below n) → new ≡ old ++ x ∷ [] → x ≡ f n → new ≡ had ++ map f (numbers_below (n + 1))
  one_more f x before push is =
      push
      ∙ (λ i. before i ++ is i ∷ [])
      ∙ append_assoc had (map f (numbers_below n)) (f n ∷ [])
      ∙ ap (λ xs. had ++ xs) (sym (map-range_with_len_more f 0 n n (omega arith)))

  -- the same of several values at each number
  pub some_more : (f : ℕ → List X) (xs : List X) → old ≡ had ++ flat_map f (numbers_below n) → new ≡ old ++ xs → xs ≡ f n → new ≡ had ++ flat_map f (numbers_below (n + 1))
  some_more f xs before append is =
      append
      ∙ (λ i. before i ++ is i)
      ∙ append_assoc had (flat_map f (numbers_below n)) (f n)
      ∙ ap (λ xs. had ++ xs) (sym (joined-more f n))
