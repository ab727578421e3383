-- A list whose items are filled in one after another.
use Rattle.std.proofs.Common.{◌≡◌, ℕ, zero, suc, ◌+◌, ◌<◌, ◌≤◌, List, [], ◌∷◌, ◌++◌, map, drop, length, get_or, refl, sym, ap, ◌∙◌, arith}
use Rattle.std.proofs.Common.{add-one, drop-cons, append-nil}
use Rattle.std.proofs.lemmas.List.{drop_all}
use Rattle.std.specs.List.{range_with_len}
use Rattle.std.proofs.lemmas.List.FromFn.{length-map-range_with_len, map-range_with_len_more}
use Rattle.std.proofs.Math.ListN.{set}

set_seam : {A : Type 0} (front : List A) (b y : A) (back : List A) (n : ℕ) → n ≡ length front → set (front ++ b ∷ back) n y ≡ (front ++ y ∷ []) ++ back
set_seam [] b y back zero is = refl
set_seam [] b y back (suc n) is = absurd (omega arith)
set_seam (a ∷ front) b y back zero is = absurd (omega arith)
set_seam (a ∷ front) b y back (suc n) is = ap (λ xs. a ∷ xs) (set_seam front b y back n (omega arith))

-- item n is filled in, after those before it
pub filled_next : {A : Type 0} (f : ℕ → A) (ys xs : List A) (n : ℕ) (d y : A) → xs ≡ map f (range_with_len 0 n) ++ drop n ys → n < length ys → y ≡ f n →
    set xs n y ≡ map f (range_with_len 0 (n + 1)) ++ drop (n + 1) ys
filled_next f ys xs n d y are within is =
    (λ j. set ((are ∙ ap (λ zs. map f (range_with_len 0 n) ++ zs) (drop-cons ys n d within)) j) n y)
    ∙ set_seam (map f (range_with_len 0 n)) (get_or ys n d) y (drop (suc n) ys) n (sym (length-map-range_with_len f 0 n))
    ∙ (λ j. ((ap (λ z. map f (range_with_len 0 n) ++ z ∷ []) is ∙ sym (map-range_with_len_more f 0 n n (omega arith))) j) ++ drop (sym (add-one n) j) ys)

pub filled_all : {A : Type 0} (f : ℕ → A) (ys xs : List A) (n m : ℕ) → xs ≡ map f (range_with_len 0 n) ++ drop n ys → length ys ≤ n → n ≡ m → xs ≡ map f (range_with_len 0 m)
filled_all f ys xs n m are all same =
    are ∙ ap (λ zs. map f (range_with_len 0 n) ++ zs) (drop_all n ys all) ∙ append-nil (map f (range_with_len 0 n)) ∙ ap (λ k. map f (range_with_len 0 k)) same
