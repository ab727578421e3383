-- Sets of modes: what they have, and their numbers by bits.
use Rattle.std.proofs.Common.{◌≡◌, ℕ, zero, suc, ◌+◌, ◌-◌, ◌*◌, ◌/◌, ◌%◌, ◌^◌, ◌<◌, Bool, true, false, ◌&&◌, ◌||◌, refl, ◌∙◌, ◌==◌, min, max, arith}
use Rattle.std.specs.Prelude.{if◌then◌else◌, not}
use Rattle.std.specs.Int.{bit_at, bit_not}
use Rattle.std.specs.Int.RustNames.{bit_and, bit_or}
use Rattle.std.proofs.Common.{w8}
use Rattle.std.proofs.lemmas.Bool.Decides.{nat_tests}
use Rattle.std.proofs.lemmas.Nat.Bits.{bit_at_and, bit_at_or, bit_at_not, bit_at-lt, bit_at_lowest}
use Rattle.bk_object.specs.declared.modes.Modes.{Modes}
use Rattle.bk_object.specs.Modes.{AccessMode, Read, Execute, Write, Append, has, modes_where, union, without, is_within}

-- the number of a set, by whether it has each mode
abbrev number_of : (read execute write append : Bool) → ℕ
number_of read execute write append = (if read then 1 else 0) + (if execute then 2 else 0) + (if write then 4 else 0) + (if append then 8 else 0)

first_bit : (r e w a : Bool) → (number_of r e w a % 2 == 1) ≡ r
first_bit true e w a = grind (arith, nat_tests)
first_bit false e w a = grind (arith, nat_tests)

second_bit : (r e w a : Bool) → (number_of r e w a / 2 % 2 == 1) ≡ e
second_bit r true w a = grind (arith, nat_tests)
second_bit r false w a = grind (arith, nat_tests)

third_bit : (r e w a : Bool) → (number_of r e w a / 4 % 2 == 1) ≡ w
third_bit r e true a = grind (arith, nat_tests)
third_bit r e false a = grind (arith, nat_tests)

fourth_bit : (r e w a : Bool) → (number_of r e w a / 8 % 2 == 1) ≡ a
fourth_bit r e w true = grind (arith, nat_tests)
fourth_bit r e w false = grind (arith, nat_tests)

pub has-modes_where : (test : AccessMode → Bool) (mode : AccessMode) → has (modes_where test) mode ≡ test mode
has-modes_where test Read = first_bit (test Read) (test Execute) (test Write) (test Append)
has-modes_where test Execute = second_bit (test Read) (test Execute) (test Write) (test Append)
has-modes_where test Write = third_bit (test Read) (test Execute) (test Write) (test Append)
has-modes_where test Append = fourth_bit (test Read) (test Execute) (test Write) (test Append)

pub has-union : (a b : Modes) (mode : AccessMode) → has (union a b) mode ≡ (has a mode || has b mode)
has-union a b mode = has-modes_where (λ m. has a m || has b m) mode

pub has-without : (a b : Modes) (mode : AccessMode) → has (without a b) mode ≡ (has a mode && not (has b mode))
has-without a b mode = has-modes_where (λ m. has a m && not (has b m)) mode

same_bit : (x y : ℕ) → x < 2 → y < 2 → (x == 1) ≡ (y == 1) → x ≡ y
same_bit x y small_x small_y e = by (y == 1) refl
  where
    by : (b : Bool) → (y == 1) ≡ b → x ≡ y
    by true is = let one = e ∙ is in grind (arith, nat_tests, one, is)
    by false is = let none = e ∙ is in grind (arith, nat_tests, none, is)

-- sets of the four modes with the same modes are equal
pub same_modes : (a b : Modes) → a.0 < 16 → b.0 < 16 → ((mode : AccessMode) → has a mode ≡ has b mode) → a ≡ b
same_modes a b small_a small_b same = λ i. record { 0 = number i }
  where
    number : a.0 ≡ b.0
    number =
        let first = same_bit (a.0 % 2) (b.0 % 2) (omega arith) (omega arith) (same Read) in
        let second = same_bit (a.0 / 2 % 2) (b.0 / 2 % 2) (omega arith) (omega arith) (same Execute) in
        let third = same_bit (a.0 / 4 % 2) (b.0 / 4 % 2) (omega arith) (omega arith) (same Write) in
        let fourth = same_bit (a.0 / 8 % 2) (b.0 / 8 % 2) (omega arith) (omega arith) (same Append) in
        omega (arith, small_a, small_b, first, second, third, fourth)

-- a number below 16 by its bits
four_bits : (n : ℕ) → n % 16 ≡ n / 2 ^ 0 % 2 * 1 + n / 2 ^ 1 % 2 * 2 + n / 2 ^ 2 % 2 * 4 + n / 2 ^ 3 % 2 * 8
four_bits n = omega arith

or_bit : (x y k : ℕ) → x < 2 → y < 2 → max x y * k ≡ (if (x == 1) || (y == 1) then k else 0)
or_bit zero zero k small_x small_y = omega arith
or_bit zero (suc zero) k small_x small_y = omega arith
or_bit (suc zero) zero k small_x small_y = omega arith
or_bit (suc zero) (suc zero) k small_x small_y = omega arith
or_bit (suc (suc x)) y k small_x small_y = absurd (omega arith)
or_bit x (suc (suc y)) k small_x small_y = absurd (omega arith)

and_bit : (x y k : ℕ) → x < 2 → y < 2 → min x (1 - y) * k ≡ (if (x == 1) && not (y == 1) then k else 0)
and_bit zero zero k small_x small_y = omega arith
and_bit zero (suc zero) k small_x small_y = omega arith
and_bit (suc zero) zero k small_x small_y = omega arith
and_bit (suc zero) (suc zero) k small_x small_y = omega arith
and_bit (suc (suc x)) y k small_x small_y = absurd (omega arith)
and_bit x (suc (suc y)) k small_x small_y = absurd (omega arith)

pub or-union : (a b : ℕ) → bit_or a b % 16 ≡ (union (record { 0 = a }) (record { 0 = b })).0
or-union a b =
    four_bits (bit_or a b)
    ∙ (λ i. bit_at_or a b 0 i * 1 + bit_at_or a b 1 i * 2 + bit_at_or a b 2 i * 4 + bit_at_or a b 3 i * 8)
    ∙ (λ i. or_bit (bit_at a 0) (bit_at b 0) 1 (bit_at-lt a 0) (bit_at-lt b 0) i + or_bit (bit_at a 1) (bit_at b 1) 2 (bit_at-lt a 1) (bit_at-lt b 1) i + or_bit (bit_at a 2) (bit_at b 2) 4 (bit_at-lt a 2) (bit_at-lt b 2) i + or_bit (bit_at a 3) (bit_at b 3) 8 (bit_at-lt a 3) (bit_at-lt b 3) i)
    ∙ (λ i. (if (bit_at_lowest a i == 1) || (bit_at_lowest b i == 1) then 1 else 0) + (if (bit_at a 1 == 1) || (bit_at b 1 == 1) then 2 else 0) + (if (bit_at a 2 == 1) || (bit_at b 2 == 1) then 4 else 0) + (if (bit_at a 3 == 1) || (bit_at b 3 == 1) then 8 else 0))

pub and-without : (a b : ℕ) → b < 2 ^ 8 → bit_and a (bit_not w8 b) % 16 ≡ (without (record { 0 = a }) (record { 0 = b })).0
and-without a b small =
    four_bits (bit_and a (bit_not w8 b))
    ∙ (λ i. bit_at_and a (bit_not w8 b) 0 i * 1 + bit_at_and a (bit_not w8 b) 1 i * 2 + bit_at_and a (bit_not w8 b) 2 i * 4 + bit_at_and a (bit_not w8 b) 3 i * 8)
    ∙ (λ i. min (bit_at a 0) (turned 0 (omega arith) i) * 1 + min (bit_at a 1) (turned 1 (omega arith) i) * 2 + min (bit_at a 2) (turned 2 (omega arith) i) * 4 + min (bit_at a 3) (turned 3 (omega arith) i) * 8)
    ∙ (λ i. and_bit (bit_at a 0) (bit_at b 0) 1 (bit_at-lt a 0) (bit_at-lt b 0) i + and_bit (bit_at a 1) (bit_at b 1) 2 (bit_at-lt a 1) (bit_at-lt b 1) i + and_bit (bit_at a 2) (bit_at b 2) 4 (bit_at-lt a 2) (bit_at-lt b 2) i + and_bit (bit_at a 3) (bit_at b 3) 8 (bit_at-lt a 3) (bit_at-lt b 3) i)
    ∙ (λ i. (if (bit_at_lowest a i == 1) && not (bit_at_lowest b i == 1) then 1 else 0) + (if (bit_at a 1 == 1) && not (bit_at b 1 == 1) then 2 else 0) + (if (bit_at a 2 == 1) && not (bit_at b 2 == 1) then 4 else 0) + (if (bit_at a 3 == 1) && not (bit_at b 3 == 1) then 8 else 0))
  where
    turned : (k : ℕ) → k < 8 → bit_at (bit_not w8 b) k ≡ 1 - bit_at b k
    turned k below = bit_at_not w8 b k small below

all_zero : (r e w a : Bool) → (number_of r e w a == 0) ≡ (not r && not e && not w && not a)
all_zero true e w a = grind (arith, nat_tests)
all_zero false true w a = grind (arith, nat_tests)
all_zero false false true a = grind (arith, nat_tests)
all_zero false false false true = refl
all_zero false false false false = refl

implied : (a b : Bool) → not (a && not b) ≡ (not a || b)
implied true true = refl
implied true false = refl
implied false b = refl

-- a set is within another exactly where nothing of it is left without the other's
pub without-is_within : (a b : Modes) → ((without a b).0 == 0) ≡ is_within a b
without-is_within a b =
    all_zero (has a Read && not (has b Read)) (has a Execute && not (has b Execute)) (has a Write && not (has b Write)) (has a Append && not (has b Append))
    ∙ (λ i. implied (has a Read) (has b Read) i && implied (has a Execute) (has b Execute) i && implied (has a Write) (has b Write) i && implied (has a Append) (has b Append) i)
