-- The sequence of numbers from which a script is made.
use Rattle.std.specs.Prelude.{ℕ, zero, suc, ◌+◌, ◌*◌, ◌%◌, ◌^◌}

-- the number that follows x
abbrev pub number_after : (x : ℕ) → ℕ
number_after x = (1664525 * x + 1013904223) % 2 ^ 32

-- the k-th number of the sequence that begins with n
unfoldable pub number_at : (n k : ℕ) → ℕ
number_at n zero = n
number_at n (suc k) = number_after (number_at n k)
