-- Whether two sets have a mode in common, by the bits of both.
use Rattle.std.proofs.Common.{◌≡◌, ℕ, zero, suc, ◌+◌, ◌*◌, ◌/◌, ◌%◌, ◌^◌, ◌<◌, Bool, true, false, ◌&&◌, ◌||◌, refl, ap, ◌∙◌, ◌==◌, min, arith}
use Rattle.std.specs.Prelude.{if◌then◌else◌, not}
use Rattle.std.specs.Int.{bit_at}
use Rattle.std.specs.Int.RustNames.{bit_and}
use Rattle.std.specs.List.{list_any}
use Rattle.std.proofs.lemmas.Bool.Decides.{nat_tests}
use Rattle.std.proofs.lemmas.Nat.Bits.{bit_at_and, bit_at-lt, bit_at_lowest}
use Rattle.bk_object.specs.Modes.{Read, Execute, Write, Append, has}
use Rattle.bk_store.specs.Stored.{all_modes}

both_bits : (x y k : ℕ) → x < 2 → y < 2 → min x y * k ≡ (if (x == 1) && (y == 1) then k else 0)
both_bits zero zero k small_x small_y = omega arith
both_bits zero (suc zero) k small_x small_y = omega arith
both_bits (suc zero) zero k small_x small_y = omega arith
both_bits (suc zero) (suc zero) k small_x small_y = omega arith
both_bits (suc (suc x)) y k small_x small_y = absurd (omega arith)
both_bits x (suc (suc y)) k small_x small_y = absurd (omega arith)

four_bits : (n : ℕ) → n % 16 ≡ n / 2 ^ 0 % 2 * 1 + n / 2 ^ 1 % 2 * 2 + n / 2 ^ 2 % 2 * 4 + n / 2 ^ 3 % 2 * 8
four_bits n = omega arith

some_bit : (r e w a : Bool) → not ((if r then 1 else 0) + (if e then 2 else 0) + (if w then 4 else 0) + (if a then 8 else 0) == 0) ≡ (r || (e || (w || (a || false))))
some_bit true e w a = grind (arith, nat_tests)
some_bit false true w a = grind (arith, nat_tests)
some_bit false false true a = grind (arith, nat_tests)
some_bit false false false true = refl
some_bit false false false false = refl

pub and-any : (a b : ℕ) → not (bit_and a b % 16 == 0) ≡ list_any (λ mode. has (record { 0 = a }) mode && has (record { 0 = b }) mode) all_modes
and-any a b =
    ap (λ n. not (n == 0)) (four_bits (bit_and a b)
    ∙ (λ i. bit_at_and a b 0 i * 1 + bit_at_and a b 1 i * 2 + bit_at_and a b 2 i * 4 + bit_at_and a b 3 i * 8)
    ∙ (λ i. both_bits (bit_at a 0) (bit_at b 0) 1 (bit_at-lt a 0) (bit_at-lt b 0) i + both_bits (bit_at a 1) (bit_at b 1) 2 (bit_at-lt a 1) (bit_at-lt b 1) i + both_bits (bit_at a 2) (bit_at b 2) 4 (bit_at-lt a 2) (bit_at-lt b 2) i + both_bits (bit_at a 3) (bit_at b 3) 8 (bit_at-lt a 3) (bit_at-lt b 3) i)
    ∙ (λ i. (if (bit_at_lowest a i == 1) && (bit_at_lowest b i == 1) then 1 else 0) + (if (bit_at a 1 == 1) && (bit_at b 1 == 1) then 2 else 0) + (if (bit_at a 2 == 1) && (bit_at b 2 == 1) then 4 else 0) + (if (bit_at a 3 == 1) && (bit_at b 3 == 1) then 8 else 0)))
    ∙ some_bit (has (record { 0 = a }) Read && has (record { 0 = b }) Read) (has (record { 0 = a }) Execute && has (record { 0 = b }) Execute) (has (record { 0 = a }) Write && has (record { 0 = b }) Write) (has (record { 0 = a }) Append && has (record { 0 = b }) Append)
