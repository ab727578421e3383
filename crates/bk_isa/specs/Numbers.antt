-- Numbers of so many bits, with their sign and without it: a word has 16 bits, a byte 8, two words together 32.
use Rattle.std.specs.Prelude.{ℕ, ◌-◌, ◌/◌, ◌%◌, ◌^◌, ◌==◌, nat_lt, nat_le, Bool, true, false, if◌then◌else◌, ℤ, pos, negsuc, ◌-ℤ◌}

-- the signed value at so many bits: from half of 2 ^ bits on, a number stands for itself less 2 ^ bits
abbrev pub signed : ℕ → ℕ → ℤ
signed bits x = if nat_lt x (2 ^ (bits - 1)) then pos x else pos x -ℤ pos (2 ^ bits)

-- the top bit
abbrev pub top : ℕ → ℕ → Bool
top bits x = nat_le (2 ^ (bits - 1)) x

-- out of the signed range, which goes from -2 ^ (bits - 1) to 2 ^ (bits - 1) - 1
abbrev pub is_out : ℕ → ℤ → Bool
is_out bits (pos n) = nat_le (2 ^ (bits - 1)) n
is_out bits (negsuc n) = nat_le (2 ^ (bits - 1)) n

-- out of the unsigned range, which goes from 0 to 2 ^ bits - 1
abbrev pub is_carry : ℕ → ℤ → Bool
is_carry bits (pos n) = nat_le (2 ^ bits) n
is_carry bits (negsuc n) = true

-- a whole number modulo 2 ^ bits; negsuc n is -(n + 1)
abbrev pub modulo : ℕ → ℤ → ℕ
modulo bits (pos n) = n % 2 ^ bits
modulo bits (negsuc n) = 2 ^ bits - 1 - n % 2 ^ bits

-- a whole number over a divisor, rounded down
abbrev pub floor_over : ℤ → ℕ → ℤ
floor_over (pos n) by = pos (n / by)
floor_over (negsuc n) by = negsuc (n / by)

-- below 0
abbrev pub is_negative : ℤ → Bool
is_negative (pos n) = false
is_negative (negsuc n) = true

-- 0
abbrev pub is_zero : ℤ → Bool
is_zero (pos n) = n == 0
is_zero (negsuc n) = false

-- odd: negsuc n is -(n + 1)
abbrev pub is_odd : ℤ → Bool
is_odd (pos n) = n % 2 == 1
is_odd (negsuc n) = n % 2 == 0
