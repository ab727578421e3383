-- An element of a list, seen through a function, and changed.
use Rattle.std.proofs.Common.{◌≡◌, ℕ, zero, suc, ◌<◌, List, [], ◌∷◌, length, map, set, get_or, refl, ap, ◌∙◌, arith}
use Rattle.std.proofs.lemmas.List.{map-set}

module _ {X Y : Type 0} (f : X → Y) where
  mapped : (xs : List X) (n : ℕ) (x : X) (d : Y) → n < length xs → f (get_or xs n x) ≡ get_or (map f xs) n d
  mapped [] n x d below = absurd (omega (arith, below))
  mapped (y ∷ xs) zero x d below = refl
  mapped (y ∷ xs) (suc n) x d below = mapped xs n x d (omega (arith, below))

  -- the element that stands there
  pub element : (xs : List X) (n : ℕ) (x : X) (d : Y) → n < length xs → x ≡ get_or xs n x → f x ≡ get_or (map f xs) n d
  element xs n x d below is = ap f is ∙ mapped xs n x d below

  -- another stands there
  pub put_back : (xs : List X) (n : ℕ) (x y : X) (d : Y) (change : Y → Y) → n < length xs → x ≡ get_or xs n x → f y ≡ change (f x) → map f (set xs n y) ≡ set (map f xs) n (change (get_or (map f xs) n d))
  put_back xs n x y d change below is becomes = map-set f xs n y ∙ ap (set (map f xs) n) (becomes ∙ ap change (element xs n x d below is))
