-- A row as the field of the code: two subjects in each byte.
use Rattle.std.specs.Prelude.{◌≡◌, ℕ, ◌+◌, ◌*◌, ◌/◌, ◌%◌, List, [], ◌∷◌, length}
use Rattle.std.proofs.Common.{refl, arith}
use Rattle.bk_object.specs.declared.modes.Modes.{Modes}
use Rattle.bk_object.specs.declared.row.RowOf.TheInside.{Inside}

-- two sets for each byte, that of its low four bits first
abbrev pub split_pairs : List ℕ → List Modes
split_pairs [] = []
split_pairs (pair ∷ pairs) = record { 0 = pair % 16 } ∷ record { 0 = pair / 16 } ∷ split_pairs pairs

-- two sets in one byte, the lower number in its low half
abbrev pub joined_pairs : List Modes → List ℕ
joined_pairs [] = []
joined_pairs (low ∷ []) = low.0 ∷ []
joined_pairs (low ∷ high ∷ sets) = (low.0 + 16 * high.0) ∷ joined_pairs sets

module _ {N : ℕ} where
  -- the sets that the bytes stand for
  abbrev pub sets_of : Inside N → List Modes
  sets_of row = split_pairs row.pairs

  -- the bytes that stand for sets
  abbrev pub pairs_of : List Modes → Inside N
  pairs_of sets = record { pairs = joined_pairs sets }

-- there is half a byte for each subject
pub record HasPairs (N : ℕ) (row : Inside N) : Type 0 where
  pub whole : length row.pairs ≡ N

joined_pairs-split_pairs : (pairs : List ℕ) → joined_pairs (split_pairs pairs) ≡ pairs
joined_pairs-split_pairs [] = refl
joined_pairs-split_pairs (pair ∷ pairs) = λ i. byte pair i ∷ joined_pairs-split_pairs pairs i
  where
    byte : (b : ℕ) → b % 16 + 16 * (b / 16) ≡ b
    byte b = omega arith

-- the bytes are got back from the sets
pub pairs_of-sets_of : {N : ℕ} (row : Inside N) → HasPairs N row → pairs_of (sets_of row) ≡ row
pairs_of-sets_of row is = λ i. record { pairs = joined_pairs-split_pairs row.pairs i }
