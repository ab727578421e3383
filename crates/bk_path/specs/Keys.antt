-- One number for a path, in the order of paths.
use Rattle.std.specs.Prelude.{ℕ, zero, suc, ◌+◌, ◌-◌, ◌*◌, List, [], ◌∷◌, length, reverse}
use Rattle.bk_path.specs.Paths.{Path}

-- what a digit counts that stands before so many others
abbrev pub weight : ℕ → ℕ
weight zero = 1
weight (suc n) = 16 * weight n

-- the number of so many hexadecimal digits, which are these, and zeros behind them
abbrev pub number : (digits : ℕ) → List ℕ → ℕ
number zero entries = 0
number (suc n) [] = 0
number (suc n) (entry ∷ entries) = entry * weight n + number n entries

-- the number of a path: its seven entries, root first, then its depth below 8
abbrev pub key_of : Path → ℕ
key_of path = number 7 (reverse path) * 8 + length path

-- the first number past those of the path and its inferiors
abbrev pub past_of : Path → ℕ
past_of path = (number 7 (reverse path) + weight (7 - length path)) * 8
