-- What a run of the text is: a register's word, an instruction's, a name, a local label or a number.
use Rattle.std.specs.Prelude.{ℕ, ◌+◌, ◌-◌, ◌*◌, ◌^◌, Bool, false, not, ◌&&◌, ◌||◌, ◌==◌, if◌then◌else◌, nat_le, nat_lt, List, [], ◌∷◌, length, drop}
use Rattle.std.specs.Prelude.{fold, find, map}
use Rattle.std.specs.Prelude.{bytes_eq, codes, Option, Some, None, is_some, option_map}
use Rattle.std.specs.Char.{is_ascii_digit, to_ascii_uppercase}
use Rattle.std.specs.List.{list_all, prefix_len, take_while}
use Rattle.std.specs.Option.{option_or}
use Rattle.bk_isa.specs.declared.mnemonic.Mnemonic.{Mnemonic}
use Rattle.bk_isa.specs.declared.table.TheConstants.{TABLE}
use Rattle.bk_isa.specs.Rows.{is_named, meaning_of}
use Rattle.bk_expr.specs.Text.{◌>>=◌, Front, is_of_run, in_run, sign_at}

-- a run with its letters in upper case
abbrev pub upper_case : List ℕ → List ℕ
upper_case run = map to_ascii_uppercase run

-- a digit from 0 to 7
abbrev pub is_octal : ℕ → Bool
is_octal c = nat_le 48 c && nat_le c 55

-- the register that two bytes in upper case name: R0 to R7, SP for 6, PC for 7
abbrev pub register_by : ℕ → ℕ → Option ℕ
register_by c d =
    if c == 82 && is_octal d then Some (d - 48)
    else if c == 83 && d == 80 then Some 6
    else if c == 80 && d == 67 then Some 7
    else None

-- the register that a word in upper case names
abbrev pub register_named : List ℕ → Option ℕ
register_named [] = None
register_named (c ∷ []) = None
register_named (c ∷ d ∷ []) = register_by c d
register_named (c ∷ d ∷ e ∷ word) = None

-- .. that a run names
abbrev pub register_of : List ℕ → Option ℕ
register_of run = register_named (upper_case run)

-- the register after %: a run of one digit
abbrev pub register_digit : List ℕ → Option ℕ
register_digit [] = None
register_digit (c ∷ []) = if is_octal c then Some (c - 48) else None
register_digit (c ∷ d ∷ run) = None

-- a register at the front of a text: its word, or % and its digit
abbrev pub register_at : List ℕ → Front ℕ
register_at text = option_or (in_run register_of text) (sign_at 37 text >>= in_run register_digit)

-- what a run stands for that is an instruction's word
unfoldable pub mnemonic_of : List ℕ → Option Mnemonic
mnemonic_of run = option_map meaning_of (find (is_named (upper_case run)) TABLE)

-- a digit stands first
abbrev pub begins_with_digit : List ℕ → Bool
begins_with_digit [] = false
begins_with_digit (c ∷ run) = is_ascii_digit c

-- 1 to 6 of letters, digits, `.` and `$`, of which no digit comes first; not `.` alone
abbrev pub is_spelt_as_name : List ℕ → Bool
is_spelt_as_name run =
    nat_le 1 (length run) && nat_le (length run) 6 && list_all is_of_run run && not (begins_with_digit run) && not (bytes_eq run (codes "."))

-- a register's word, or an instruction's
abbrev pub is_reserved : List ℕ → Bool
is_reserved run = is_some (register_of run) || is_some (mnemonic_of run)

-- a run is a name: it is spelt as one, and isn't reserved
unfoldable pub is_name : List ℕ → Bool
is_name run = is_spelt_as_name run && not (is_reserved run)

-- the name that a run is, in upper case
abbrev pub name_of : List ℕ → Option (List ℕ)
name_of run = if is_name run then Some (upper_case run) else None

-- the number that digits are to a base, after the number of those before them
abbrev pub value_on : (base : ℕ) → ℕ → List ℕ → ℕ
value_on base n digits = fold (λ n digit. base * n + (digit - 48)) n digits

-- the number that digits are to a base, where there is a digit and the number is at most 65,535
abbrev pub word_of_digits : (base : ℕ) → List ℕ → Option ℕ
word_of_digits base digits =
    if nat_le 1 (length digits) && nat_lt (value_on base 0 digits) (2 ^ 16) then Some (value_on base 0 digits) else None

-- the decimal digits at the front of a run
abbrev pub digits_of : List ℕ → List ℕ
digits_of run = take_while is_ascii_digit run

-- .. and what follows them
abbrev pub after_digits : List ℕ → List ℕ
after_digits run = drop (prefix_len is_ascii_digit run) run

-- the number that a run is: octal digits, or decimal ones and a point
unfoldable pub number_of : List ℕ → Option ℕ
number_of run =
    if list_all is_octal run then word_of_digits 8 run
    else if bytes_eq (after_digits run) (codes ".") then word_of_digits 10 (digits_of run)
    else None

-- .. over 0
abbrev pub over_zero : Option ℕ → Option ℕ
over_zero None = None
over_zero (Some n) = if n == 0 then None else Some n

-- the local label that a run is: 1 to 65,535 in decimal digits, and `$`
unfoldable pub local_of : List ℕ → Option ℕ
local_of run = if bytes_eq (after_digits run) (codes "$") then over_zero (word_of_digits 10 (digits_of run)) else None
