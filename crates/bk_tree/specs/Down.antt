-- The numbers from one down.
use Rattle.std.specs.Prelude.{ℕ, zero, suc, List, [], ◌∷◌}

-- from the number down to 1
abbrev pub down_to_1 : ℕ → List ℕ
down_to_1 zero = []
down_to_1 (suc n) = suc n ∷ down_to_1 n
