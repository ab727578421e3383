use Rattle.std.specs.Prelude.{ℕ, ◌+◌, ◌*◌, ◌/◌, ◌%◌, ◌^◌, ◌==◌, Bool, true, false, if◌then◌else◌}
use Rattle.std.specs.Prelude.{ℤ, pos, negsuc, ◌*ℤ◌, int_div, int_rem, Option, Some, None}
use Rattle.bk_space.specs.declared.flags.Flags.{Flags}
use Rattle.bk_isa.specs.Numbers.{signed, top, is_out, modulo, floor_over, is_negative, is_zero, is_odd}

-- two words as one number: the first is the high half
abbrev pub joined : ℕ → ℕ → ℕ
joined high low = high * 2 ^ 16 + low

-- the signed product of two words: N and Z are its, V 0, C where it is out of a word's signed range
abbrev pub product_of : ℕ → ℕ → ℤ
product_of a b = signed 16 a *ℤ signed 16 b

-- the product modulo 2 ^ 32, high half and low half, and the flags
abbrev pub mul_of : ℕ → ℕ → ℕ × ℕ × Flags
mul_of a b = (
  modulo 32 (product_of a b) / 2 ^ 16,
  modulo 32 (product_of a b) % 2 ^ 16,
  record { n = is_negative (product_of a b); z = is_zero (product_of a b); v = false; c = is_out 16 (product_of a b) },
)

-- the quotient is truncated toward zero, and the remainder has the dividend's sign; nothing is stored, and N and Z
-- are 0, where the divisor is zero (V and C) or the quotient is out of a word's signed range (V); for these two, own
abbrev pub quotient_of : ℤ → ℤ → Option (ℕ × ℕ) × Flags
quotient_of x y =
    if is_zero y then (None, record { n = false; z = false; v = true; c = true }) else (
    if is_out 16 (int_div x y) then (None, record { n = false; z = false; v = true; c = false }) else (
      Some (modulo 16 (int_div x y), modulo 16 (int_rem x y)),
      record { n = is_negative (int_div x y); z = is_zero (int_div x y); v = false; c = false },
    ))

-- two words by a word
abbrev pub div_of : ℕ → ℕ → ℕ → Option (ℕ × ℕ) × Flags
div_of high low by = quotient_of (signed 32 (joined high low)) (signed 16 by)

-- the low six bits as a number from -32 to 31
abbrev pub count_of : ℕ → ℤ
count_of word = signed 6 (word % 64)

-- a number of so many bits, shifted by a count: to the left it is multiplied by a power of 2, modulo 2 ^ bits;
-- to the right its signed value is over a power of 2, rounded down
abbrev pub shift_of : ℕ → ℕ → ℤ → ℕ
shift_of bits x (pos n) = x * 2 ^ n % 2 ^ bits
shift_of bits x (negsuc m) = modulo bits (floor_over (signed bits x) (2 ^ (m + 1)))

-- the last bit that went out; 0 where the count is 0, own
abbrev pub shift_carry : ℕ → ℕ → ℤ → Bool
shift_carry bits x (pos n) = if n == 0 then false else x * 2 ^ n / 2 ^ bits % 2 == 1
shift_carry bits x (negsuc m) = is_odd (floor_over (signed bits x) (2 ^ m))

-- a shift to the left leaves the signed range
abbrev pub shift_overflow : ℕ → ℕ → ℤ → Bool
shift_overflow bits x (pos n) = is_out bits (signed bits x *ℤ pos (2 ^ n))
shift_overflow bits x (negsuc m) = false

-- the flags of a shift
abbrev pub shift_flags : ℕ → ℕ → ℤ → Flags
shift_flags bits x n = record {
  n = top bits (shift_of bits x n);
  z = shift_of bits x n == 0;
  v = shift_overflow bits x n;
  c = shift_carry bits x n;
}

-- a word shifted by the low six bits of a word
abbrev pub ash_of : ℕ → ℕ → ℕ × Flags
ash_of value count = (shift_of 16 value (count_of count), shift_flags 16 value (count_of count))

-- two words shifted as one number, high half and low half
abbrev pub ashc_of : ℕ → ℕ → ℕ → ℕ × ℕ × Flags
ashc_of high low count = (
  shift_of 32 (joined high low) (count_of count) / 2 ^ 16,
  shift_of 32 (joined high low) (count_of count) % 2 ^ 16,
  shift_flags 32 (joined high low) (count_of count),
)
