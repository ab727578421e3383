-- Formats that are read part by part: what is left, the next bytes, a part that is checked when it is whole, parts of one kind.
use Rattle.std.specs.Prelude.{ℕ, zero, suc, ◌+◌, Bool, if◌then◌else◌, nat_lt, List, [], ◌∷◌, ◌++◌, length, take, drop, Result, Ok, Err}
use Rattle.bk_base.specs.Faults.{◌>>=◌, first_failing}

-- the bytes that are left, and the place of the first of them
pub record Rest : Type 0 where
  pub at : ℕ
  pub bytes : List ℕ

-- what is left at a place
abbrev pub from : (at : ℕ) → (bytes : List ℕ) → Rest
from at bytes = record { at = at; bytes = bytes }

-- a value and what is left, or the first fault
abbrev pub Reads : (F X : Type 0) → Type 0
Reads F X = Result (X × Rest) F

-- a format: its most bytes, the fault of a kind that is told of a place, and the kinds of a part that goes past the most bytes
-- and of one that isn't whole
pub record Format (K F : Type 0) : Type 0 where
  pub limit : ℕ
  pub fault : (at : ℕ) → K → F
  pub long : K
  pub end : K

-- the next n bytes: too long is told of the first of them, and otherwise the end of the input's length
unfoldable pub part : {K F : Type 0} → Format K F → (n : ℕ) → Rest → Reads F (List ℕ)
part format n rest =
    if nat_lt format.limit (rest.at + n) then Err (format.fault rest.at format.long)
    else if nat_lt (length rest.bytes) n then Err (format.fault (rest.at + length rest.bytes) format.end)
    else Ok (take n rest.bytes, from (rest.at + n) (drop n rest.bytes))

-- a part of n bytes: its checks when it is whole, told of its first byte, and then its value
abbrev pub checked : {K F X : Type 0} → Format K F → (n : ℕ) → (List ℕ → List (K × Bool)) → (List ℕ → X) → Rest → Reads F X
checked format n checks value rest = do
  p ← part format n rest
  passed ← first_failing (format.fault rest.at) (checks p.0)
  Ok (value p.0, p.1)

-- n parts of one kind, each read by what those before it gave
unfoldable pub each_of : {F X : Type 0} → (List X → Rest → Reads F X) → (n : ℕ) → List X → Rest → Reads F (List X)
each_of next zero before rest = Ok (before, rest)
each_of next (suc n) before rest = do
  x ← next before rest
  each_of next n (before ++ x.0 ∷ []) x.1

-- what the first bytes spell, and their number; or the first fault
abbrev pub first_of : {F X : Type 0} → (Rest → Reads F X) → List ℕ → Result (X × ℕ) F
first_of read bytes = do
  x ← read (from 0 bytes)
  Ok (x.0, x.1.at)
