-- A list whose items change one after another, in place.
use Rattle.std.proofs.Common.{◌≡◌, ℕ, zero, suc, ◌+◌, ◌<◌, List, [], ◌∷◌, ◌++◌, map, take, drop, length, get_or, refl, sym, ap, ◌∙◌, arith, add-one}
use Rattle.std.proofs.Math.ListN.{set}

next_suc : {A : Type 0} (f : A → A) (xs : List A) (i : ℕ) (d : A) → i < length xs →
    set (map f (take i xs) ++ drop i xs) i (f (get_or (map f (take i xs) ++ drop i xs) i d)) ≡ map f (take (suc i) xs) ++ drop (suc i) xs
next_suc f [] i d within = absurd (omega arith)
next_suc f (a ∷ rest) zero d within = refl
next_suc f (a ∷ rest) (suc i) d within = ap (λ ys. f a ∷ ys) (next_suc f rest i d (omega arith))

-- item i changes, after those before it
pub mapped_next : {A : Type 0} (f : A → A) (xs ys : List A) (i : ℕ) (d y : A) → ys ≡ map f (take i xs) ++ drop i xs → i < length xs → y ≡ f (get_or ys i d) →
    set ys i y ≡ map f (take (i + 1) xs) ++ drop (i + 1) xs
mapped_next f xs ys i d y are within becomes =
    (λ j. set (are j) i ((becomes ∙ ap (λ zs. f (get_or zs i d)) are) j))
    ∙ next_suc f xs i d within
    ∙ ap (λ n. map f (take n xs) ++ drop n xs) (sym (add-one i))
