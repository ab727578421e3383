-- The fields of a line: numbers in decimal, and bytes in hexadecimal.
use Rattle.std.specs.Prelude.{ℕ, ◌+◌, ◌-◌, ◌*◌, ◌%◌, Bool, false, not, ◌&&◌, ◌||◌, if◌then◌else◌, nat_le, ◌==◌, List, [], ◌∷◌, length, fold}
use Rattle.std.specs.List.{list_all}
use Rattle.bk_report.specs.Reading.{is_digit}

-- two characters or more, of which the first is 0
abbrev pub leads_with_zero : List ℕ → Bool
leads_with_zero [] = false
leads_with_zero (b ∷ []) = false
leads_with_zero (b ∷ c ∷ text) = b == 48

-- 1 to 9 digits, and no leading zero
abbrev pub is_number : List ℕ → Bool
is_number text = nat_le 1 (length text) && nat_le (length text) 9 && list_all is_digit text && not (leads_with_zero text)

-- the number that the digits are
abbrev pub number : List ℕ → ℕ
number text = fold (λ n digit. 10 * n + (digit - 48)) 0 text

-- a digit, or a to f
abbrev pub is_hex : ℕ → Bool
is_hex b = is_digit b || nat_le 97 b && nat_le b 102

-- the value of a hexadecimal digit
abbrev pub hex_value : ℕ → ℕ
hex_value b = if is_digit b then b - 48 else b - 87

-- 1 to 128 bytes, each two hexadecimal digits in lower case, the high one first
abbrev pub is_bytes : List ℕ → Bool
is_bytes text = nat_le 2 (length text) && nat_le (length text) 256 && length text % 2 == 0 && list_all is_hex text

-- the bytes that the digits are
abbrev pub bytes_of : List ℕ → List ℕ
bytes_of [] = []
bytes_of (high ∷ []) = []
bytes_of (high ∷ low ∷ text) = (16 * hex_value high + hex_value low) ∷ bytes_of text
