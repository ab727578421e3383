-- The table of bytes has what is said of each byte.
use Rattle.std.proofs.Common.{◌≡◌, ℕ, zero, suc, ◌+◌, ◌-◌, ◌*◌, ◌<◌, ◌≤◌, refl, subst, arith, Bool, true, false, slice_index_or}
use Rattle.std.specs.Prelude.{◌&&◌, ◌==◌, nat_lt, not, if◌then◌else◌}
use Rattle.std.proofs.lemmas.Bool.Decides.{nat_tests}
use Rattle.bk_expr.specs.Text.{is_of_text, is_of_run}
use Rattle.bk_expr.specs.declared.text.TheConstants.{KINDS}

abbrev size : ℕ → ℕ
size zero = 1
size (suc k) = size k + size k

-- a test is true of the 2 ^ k numbers from a * 2 ^ k on
abbrev each : (ℕ → Bool) → ℕ → ℕ → Bool
each test zero a = test a
each test (suc k) a = each test k (2 * a) && each test k (2 * a + 1)

both_of : (a b : Bool) → (a && b) ≡ true → (a ≡ true) × (b ≡ true)
both_of true true h = (refl, refl)
both_of true false h = cc
both_of false b h = cc

each-at : (test : ℕ → Bool) (k a n : ℕ) → n < size k → each test k a ≡ true → test (a * size k + n) ≡ true
each-at test zero a n h e =
    let same : a ≡ a * 1 + n = omega (arith, h) in
    subst (λ t. test t ≡ true) same e
each-at test (suc k) a n h e = by (each-at test k (2 * a)) (each-at test k (2 * a + 1)) (both_of (each test k (2 * a)) (each test k (2 * a + 1)) e) (nat_lt n (size k)) refl
  where
    by : ((n : ℕ) → n < size k → each test k (2 * a) ≡ true → test (2 * a * size k + n) ≡ true) → ((n : ℕ) → n < size k → each test k (2 * a + 1) ≡ true → test ((2 * a + 1) * size k + n) ≡ true) → ((each test k (2 * a) ≡ true) × (each test k (2 * a + 1) ≡ true)) → (b : Bool) → nat_lt n (size k) ≡ b → test (a * (size k + size k) + n) ≡ true
    by left right halves true t =
        let lower : n < size k = grind (arith, nat_tests, t) in
        let same : 2 * a * size k + n ≡ a * (size k + size k) + n = omega arith in
        subst (λ m. test m ≡ true) same (left n lower halves.0)
    by left right halves false t =
        let upper : size k ≤ n = grind (arith, nat_tests, t) in
        let lower : n - size k < size k = omega (arith, upper, h) in
        let same : (2 * a + 1) * size k + (n - size k) ≡ a * (size k + size k) + n = omega (arith, upper) in
        subst (λ m. test m ≡ true) same (right (n - size k) lower halves.1)

each-below : (test : ℕ → Bool) (k n : ℕ) → n < size k → each test k 0 ≡ true → test n ≡ true
each-below test k n h e =
    let same : 0 * size k + n ≡ n = omega arith in
    subst (λ t. test t ≡ true) same (each-at test k 0 n h e)

-- whether two answers are one
abbrev alike : Bool → Bool → Bool
alike a b = if a then b else not b

alike-is : (a b : Bool) → alike a b ≡ true → a ≡ b
alike-is true true h = refl
alike-is true false h = cc
alike-is false true h = cc
alike-is false false h = refl

of_text_alike : each (λ c. alike (not (slice_index_or KINDS c 0 == 45)) (is_of_text c)) 8 0 ≡ true
of_text_alike = refl

of_run_alike : each (λ c. alike (slice_index_or KINDS c 0 == 114) (is_of_run c)) 8 0 ≡ true
of_run_alike = refl

pub of_text : (c : ℕ) → c < 256 → not (slice_index_or KINDS c 0 == 45) ≡ is_of_text c
of_text c h = alike-is (not (slice_index_or KINDS c 0 == 45)) (is_of_text c) (each-below (λ c. alike (not (slice_index_or KINDS c 0 == 45)) (is_of_text c)) 8 c h of_text_alike)

pub of_run : (c : ℕ) → c < 256 → (slice_index_or KINDS c 0 == 114) ≡ is_of_run c
of_run c h = alike-is (slice_index_or KINDS c 0 == 114) (is_of_run c) (each-below (λ c. alike (slice_index_or KINDS c 0 == 114) (is_of_run c)) 8 c h of_run_alike)
