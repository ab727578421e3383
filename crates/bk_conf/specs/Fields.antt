-- The fields of a line: which text a field is, and what it says.
use Rattle.std.specs.Prelude.{ℕ, ◌+◌, ◌-◌, ◌*◌, ◌==◌, nat_le, nat_lt, Bool, true, false, not, ◌&&◌, ◌||◌, if◌then◌else◌, List, [], ◌∷◌, length, drop, fold}
use Rattle.std.specs.Prelude.{bytes_eq, codes, Result, Ok, Err}
use Rattle.std.specs.List.{list_all, slice_split}
use Rattle.bk_base.specs.Faults.{◌>>=◌}
use Rattle.bk_object.specs.declared.modes.Modes.{Modes}
use Rattle.bk_path.specs.Paths.{Path}
use Rattle.bk_space.specs.declared.Mode.{Mode}
use Rattle.bk_space.specs.declared.Mode.TheVariants.{Supervisor, User}
use Rattle.bk_conf.specs.declared.fault.BuildKind.{BuildKind}
use Rattle.bk_conf.specs.declared.fault.BuildKind.TheVariants as kind
use Rattle.bk_conf.specs.Limits.{largest_mask, most_letters}
use Rattle.bk_conf.specs.Lines.{Text}

-- ---- numbers

-- 0 to 9
abbrev pub is_digit : ℕ → Bool
is_digit b = nat_le 48 b && nat_le b 57

-- 0 to 7
abbrev pub is_octal_digit : ℕ → Bool
is_octal_digit b = nat_le 48 b && nat_le b 55

-- two digits or more, of which the first is 0
abbrev pub leads_with_zero : Text → Bool
leads_with_zero [] = false
leads_with_zero (b ∷ []) = false
leads_with_zero (b ∷ c ∷ text) = b == 48

-- a decimal number, without leading zeros
abbrev pub is_decimal : Text → Bool
is_decimal text = not (length text == 0) && list_all is_digit text && not (leads_with_zero text)

-- an octal number, of 1 to 6 digits
abbrev pub is_octal : Text → Bool
is_octal text = not (length text == 0) && nat_le (length text) 6 && list_all is_octal_digit text

-- a mask: an octal number, of 1 to 16 digits
abbrev pub is_mask : Text → Bool
is_mask text = not (length text == 0) && nat_le (length text) 16 && list_all is_octal_digit text

-- the number that the digits are
abbrev pub value_of : (base : ℕ) → Text → ℕ
value_of base text = fold (λ n digit. base * n + (digit - 48)) 0 text

-- a number, where it is no more than the limit
unfoldable pub number_to : (base limit : ℕ) → Text → Result ℕ BuildKind
number_to base limit text = if nat_lt limit (value_of base text) then Err kind.Range else Ok (value_of base text)

-- in decimal
abbrev pub decimal_to : (limit : ℕ) → Text → Result ℕ BuildKind
decimal_to limit text = number_to 10 limit text

-- in octal, of 16 bits
abbrev pub word_in : Text → Result ℕ BuildKind
word_in text = number_to 8 65535 text

-- in octal, of 48 bits
abbrev pub bits_in : Text → Result ℕ BuildKind
bits_in text = number_to 8 largest_mask text

-- ---- paths: `/`, or `/` before each entry

-- the texts of the entries, from behind the first `/` on
abbrev pub entries_in : Text → List Text
entries_in text = if length text == 0 then [] else slice_split (λ b. b == 47) text

-- a path, of any depth and with any entries
abbrev pub is_path_text : Text → Bool
is_path_text [] = false
is_path_text (b ∷ text) = b == 47 && list_all is_decimal (entries_in text)

-- the path with one more entry, where that is no more than 15 and the depth no more than 7
abbrev pub deeper : Path → Text → Result Path BuildKind
deeper path entry = do
  n ← decimal_to 15 entry
  if length path == 7 then Err kind.Range else Ok (n ∷ path)

-- the path with these entries below it
unfoldable pub deepest : Path → List Text → Result Path BuildKind
deepest path [] = Ok path
deepest path (entry ∷ entries) = deeper path entry >>= (λ next. deepest next entries)

-- the path that a text says
abbrev pub path_in : Text → Result Path BuildKind
path_in text = deepest [] (entries_in (drop 1 text))

-- ---- access modes: letters of `rewa` in that order

-- whether the text begins with the letter, and what follows it then
abbrev pub letter_at : (letter : ℕ) → Text → Bool × Text
letter_at letter [] = (false, [])
letter_at letter (b ∷ text) = if b == letter then (true, text) else (false, b ∷ text)

-- the letters r, e, w and a in turn, each of which may be missing
abbrev pub r_in : Text → Bool × Text
r_in text = letter_at 114 text

-- behind r
abbrev pub e_in : Text → Bool × Text
e_in text = letter_at 101 (r_in text).1

-- behind r and e
abbrev pub w_in : Text → Bool × Text
w_in text = letter_at 119 (e_in text).1

-- behind r, e and w
abbrev pub a_in : Text → Bool × Text
a_in text = letter_at 97 (w_in text).1

-- at least one letter, and nothing behind them
abbrev pub are_modes : Text → Bool
are_modes text = not (length text == 0) && length (a_in text).1 == 0

-- a mode's number where its letter stands
abbrev pub number_if : Bool → (number : ℕ) → ℕ
number_if there number = if there then number else 0

-- the set of the modes whose letters stand
abbrev pub modes_in : Text → Modes
modes_in text = record { 0 = number_if (r_in text).0 1 + number_if (e_in text).0 2 + number_if (w_in text).0 4 + number_if (a_in text).0 8 }

-- ---- words and names

-- a mode of the processor
abbrev pub is_mode : Text → Bool
is_mode text = bytes_eq text (codes "super") || bytes_eq text (codes "user")

-- which one
abbrev pub mode_in : Text → Mode
mode_in text = if bytes_eq text (codes "super") then Supervisor else User

-- a space
abbrev pub is_space : Text → Bool
is_space text = bytes_eq text (codes "i") || bytes_eq text (codes "d")

-- a letter of a program's name: a lower-case letter, a digit or `_`
abbrev pub is_letter : ℕ → Bool
is_letter b = (nat_le 97 b && nat_le b 122) || is_digit b || b == 95

-- a program's name: 1 to 16 letters
abbrev pub is_name : Text → Bool
is_name text = not (length text == 0) && nat_le (length text) most_letters && list_all is_letter text
