-- Rows by bytes: what a subject's half of a byte is, and a write of it.
use Rattle.std.proofs.Common.{◌≡◌, ℕ, zero, suc, ◌+◌, ◌*◌, ◌/◌, ◌%◌, ◌<◌, List, [], ◌∷◌, ◌++◌, length, replicate, set, get_or, refl, ap, arith}
use Rattle.bk_object.specs.declared.modes.Modes.{Modes}
use Rattle.bk_object.specs.Modes.{no_modes}
use Rattle.bk_object.specs.Pairs.{split_pairs}

-- two sets for each byte
pub length-split_pairs : (pairs : List ℕ) → length (split_pairs pairs) ≡ length pairs + length pairs
length-split_pairs [] = refl
length-split_pairs (pair ∷ pairs) = let rest = length-split_pairs pairs in omega (arith, rest)

-- bytes of zero stand for sets of no modes
pub split_pairs-zeros : (n sets : ℕ) → sets ≡ n + n → split_pairs (replicate n 0) ≡ replicate sets no_modes
split_pairs-zeros zero zero is = refl
split_pairs-zeros zero (suc sets) is = absurd (omega arith)
split_pairs-zeros (suc n) zero is = absurd (omega arith)
split_pairs-zeros (suc n) (suc zero) is = absurd (omega arith)
split_pairs-zeros (suc n) (suc (suc sets)) is = ap (λ rest. no_modes ∷ no_modes ∷ rest) (split_pairs-zeros n sets (omega arith))

-- the sets of bytes that follow others follow theirs
pub split_pairs-append : (pairs more : List ℕ) → split_pairs (pairs ++ more) ≡ split_pairs pairs ++ split_pairs more
split_pairs-append [] more = refl
split_pairs-append (pair ∷ pairs) more = ap (λ sets. record { 0 = pair % 16 } ∷ record { 0 = pair / 16 } ∷ sets) (split_pairs-append pairs more)

pub low_at : (pairs : List ℕ) (k n : ℕ) (other : Modes) → n ≡ k + k → k < length pairs → get_or (split_pairs pairs) n other ≡ record { 0 = get_or pairs k 0 % 16 }
low_at [] k n other is below = absurd (omega arith)
low_at (pair ∷ pairs) zero zero other is below = refl
low_at (pair ∷ pairs) zero (suc n) other is below = absurd (omega arith)
low_at (pair ∷ pairs) (suc k) zero other is below = absurd (omega arith)
low_at (pair ∷ pairs) (suc k) (suc zero) other is below = absurd (omega arith)
low_at (pair ∷ pairs) (suc k) (suc (suc n)) other is below = low_at pairs k n other (omega arith) (omega arith)

pub high_at : (pairs : List ℕ) (k n : ℕ) (other : Modes) → n ≡ k + k + 1 → k < length pairs → get_or (split_pairs pairs) n other ≡ record { 0 = get_or pairs k 0 / 16 }
high_at [] k n other is below = absurd (omega arith)
high_at (pair ∷ pairs) zero zero other is below = absurd (omega arith)
high_at (pair ∷ pairs) zero (suc zero) other is below = refl
high_at (pair ∷ pairs) zero (suc (suc n)) other is below = absurd (omega arith)
high_at (pair ∷ pairs) (suc k) zero other is below = absurd (omega arith)
high_at (pair ∷ pairs) (suc k) (suc zero) other is below = absurd (omega arith)
high_at (pair ∷ pairs) (suc k) (suc (suc n)) other is below = high_at pairs k n other (omega arith) (omega arith)

pub set_low : (pairs : List ℕ) (k n : ℕ) (modes : Modes) → n ≡ k + k → k < length pairs → modes.0 < 16 →
    split_pairs (set pairs k (get_or pairs k 0 / 16 * 16 + modes.0)) ≡ set (split_pairs pairs) n modes
set_low [] k n modes is below four = absurd (omega arith)
set_low (pair ∷ pairs) zero zero modes is below four = λ i. record { 0 = low i } ∷ record { 0 = high i } ∷ split_pairs pairs
  where
    low : (pair / 16 * 16 + modes.0) % 16 ≡ modes.0
    low = omega (arith, four)

    high : (pair / 16 * 16 + modes.0) / 16 ≡ pair / 16
    high = omega (arith, four)
set_low (pair ∷ pairs) zero (suc n) modes is below four = absurd (omega arith)
set_low (pair ∷ pairs) (suc k) zero modes is below four = absurd (omega arith)
set_low (pair ∷ pairs) (suc k) (suc zero) modes is below four = absurd (omega arith)
set_low (pair ∷ pairs) (suc k) (suc (suc n)) modes is below four = ap (λ sets. record { 0 = pair % 16 } ∷ record { 0 = pair / 16 } ∷ sets) (set_low pairs k n modes (omega arith) (omega arith) four)

pub set_high : (pairs : List ℕ) (k n : ℕ) (modes : Modes) → n ≡ k + k + 1 → k < length pairs → modes.0 < 16 →
    split_pairs (set pairs k (get_or pairs k 0 % 16 + 16 * modes.0)) ≡ set (split_pairs pairs) n modes
set_high [] k n modes is below four = absurd (omega arith)
set_high (pair ∷ pairs) zero zero modes is below four = absurd (omega arith)
set_high (pair ∷ pairs) zero (suc zero) modes is below four = λ i. record { 0 = low i } ∷ record { 0 = high i } ∷ split_pairs pairs
  where
    low : (pair % 16 + 16 * modes.0) % 16 ≡ pair % 16
    low = omega (arith, four)

    high : (pair % 16 + 16 * modes.0) / 16 ≡ modes.0
    high = omega (arith, four)
set_high (pair ∷ pairs) zero (suc (suc n)) modes is below four = absurd (omega arith)
set_high (pair ∷ pairs) (suc k) zero modes is below four = absurd (omega arith)
set_high (pair ∷ pairs) (suc k) (suc zero) modes is below four = absurd (omega arith)
set_high (pair ∷ pairs) (suc k) (suc (suc n)) modes is below four = ap (λ sets. record { 0 = pair % 16 } ∷ record { 0 = pair / 16 } ∷ sets) (set_high pairs k n modes (omega arith) (omega arith) four)
