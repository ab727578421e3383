-- A format whose answers can be told by hand: at most three bytes; the first says how many follow it, at most two hundred.
use Rattle.std.specs.Prelude.{ℕ, nat_lt, get_or, List, [], ◌∷◌}
use Rattle.bk_base.specs.Faults.{◌>>=◌}
use Rattle.bk_base.specs.Parts.{Rest, Reads, Format, part, checked}

-- faults by their place and their kind: 0 for too long, 1 for the end, 2 for the number
abbrev pub example_format : Format ℕ (ℕ × ℕ)
example_format = record { limit = 3; fault = λ at kind. (at, kind); long = 0; end = 1 }

-- the bytes that follow their number
abbrev pub example_at : Rest → Reads (ℕ × ℕ) (List ℕ)
example_at rest = do
  count ← checked example_format 1 (λ b. (2, nat_lt 200 (get_or b 0 0)) ∷ []) (λ b. get_or b 0 0) rest
  part example_format count.0 count.1
