-- What stands before a byte and after it, as parts of the whole.
use Rattle.std.proofs.Common.{◌≡◌, ℕ, ◌+◌, ◌≤◌, Bool, true, false, List, [], ◌∷◌, length, take, drop, Option, Some, None, refl, ap, arith, nat_lt, cond}
use Rattle.std.specs.List.{slice_split, onto_first, position, position_or_len}
use Rattle.std.proofs.lemmas.Bool.Decides.{nat_tests}
use Rattle.std.proofs.lemmas.List.Quantifiers.{position-Some}
use Rattle.std.proofs.lemmas.List.Sums.{position_or_len_is, fails_before_first}
use Rattle.std.proofs.lemmas.List.Splits.{slice_split_first, slice_split_none}

pub split_found : (p : ℕ → Bool) (xs : List ℕ) (i : ℕ) → position p xs ≡ Some i → slice_split p xs ≡ take i xs ∷ slice_split p (drop (i + 1) xs)
split_found p xs i e =
    let at = position-Some p xs i 0 e in
    let first : position_or_len p xs ≡ i = position_or_len_is p xs i 0 (omega arith) at.2 (λ h. at.1) in
    rw first at (slice_split_first p xs 0 (omega arith))

past_from_none : (p : ℕ → Bool) (xs : List ℕ) (b : Bool) → nat_lt (position_or_len p xs) (length xs) ≡ b
    → cond {A = Option ℕ} b (Some (position_or_len p xs)) None ≡ None → length xs ≤ position_or_len p xs
past_from_none p xs true t e = absurd (cc)
past_from_none p xs false t e = grind (arith, nat_tests)

pub split_not_found : (p : ℕ → Bool) (xs : List ℕ) → position p xs ≡ None → slice_split p xs ≡ xs ∷ []
split_not_found p xs e =
    let past : length xs ≤ position_or_len p xs = past_from_none p xs (nat_lt (position_or_len p xs) (length xs)) refl e in
    slice_split_none p xs (λ k d lt. fails_before_first p xs k d (omega arith))

pub split_some : (p : ℕ → Bool) (xs : List ℕ) → (part : List ℕ) × (parts : List (List ℕ)) × (slice_split p xs ≡ part ∷ parts)
split_some p [] = ([], [], refl)
split_some p (x ∷ xs) =
    let more = split_some p xs in
    by (p x) more.0 more.1 more.2 where
      by : (b : Bool) (part : List ℕ) (parts : List (List ℕ)) → slice_split p xs ≡ part ∷ parts
          → (part : List ℕ) × (parts : List (List ℕ)) × (cond b ([] ∷ slice_split p xs) (onto_first x (slice_split p xs)) ≡ part ∷ parts)
      by true part parts e = ([], slice_split p xs, refl)
      by false part parts e = (x ∷ part, parts, ap (onto_first x) e)
