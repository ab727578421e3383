use Rattle.std.proofs.Common.{◌≡◌, ℕ, zero, suc, ◌+◌, refl, arith, ap, ◌∙◌, min, ◌-◌, ◌^◌}
use Rattle.bk_space.specs.Counts.{counted_on}

-- a count after none more
pub counted_on-zero : (count : ℕ) → counted_on count 0 ≡ count
unfolding counted_on
counted_on-zero count = refl

past_last : (count m n : ℕ) → min (min (count + suc m) (2 ^ 64 - 1) + suc n) (2 ^ 64 - 1) ≡ min (count + suc (m + suc n)) (2 ^ 64 - 1)
past_last count m n = omega arith

-- a count after so many and then so many more
pub counted_on-more : (count m n : ℕ) → counted_on (counted_on count m) n ≡ counted_on count (m + n)
unfolding counted_on
counted_on-more count zero n =
    let e : n ≡ 0 + n = omega arith in
    ap (counted_on count) e
counted_on-more count (suc m) zero =
    let e : suc m ≡ suc m + 0 = omega arith in
    ap (counted_on count) e
counted_on-more count (suc m) (suc n) =
    let e : suc (m + suc n) ≡ suc m + suc n = omega arith in
    past_last count m n ∙ ap (counted_on count) e

-- what a count after several parts needs
pub ruleset counted_lemmas = (counted_on-more, counted_on-zero)
