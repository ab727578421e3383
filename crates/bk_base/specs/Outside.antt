-- What a source and a sink of bytes show, and what one call of them does.
use Rattle.std.specs.Prelude.{◌≡◌, ℕ, ◌+◌, ◌-◌, ◌^◌, ◌<◌, ◌≤◌, ◌⊎◌, min, List, length, OnErr, OnOk, Result, Option, Bool, take, drop}
use Rattle.std.specs.Io.KnownBytes.{Consumes, Appends, IsAtEnd}

-- ---- counts of faults

-- a count after one more: it stands at the last value of u64
abbrev pub one_more : ℕ → ℕ
one_more count = min (count + 1) (2 ^ 64 - 1)

-- the count rose in a call: it is greater after than before, or stands at the last value of u64
abbrev pub Rose : ℕ → ℕ → Type 0
Rose before after = (before < after) ⊎ (after ≡ 2 ^ 64 - 1)

-- the count of faults never falls; it rose where the call failed, and is as before where it did not
pub record HasCause {T E : Type 0} (before after : ℕ) (result : Result T E) : Type 0 where
  pub later : before ≤ after
  pub failed : OnErr result (Rose before after)
  pub told : OnOk result (after ≡ before)

-- ---- reading

-- what a source shows: the bytes left, where it tells them; the bytes that it has given so far; whether its last read found
-- the end; and how many reads failed
pub record SourceState : Type 0 where
  pub left : Option (List ℕ)
  pub given : List ℕ
  pub ended : Bool
  pub faults : ℕ

-- the bytes that a source gave from one moment to a later one
abbrev pub given_since : (before after : SourceState) → List ℕ
given_since before after = drop (length before.given) after.given

-- a read gave the next n bytes, n at most max and 4,096, and none only where no byte is left
pub record Reads (max n : ℕ) (before after : Option (List ℕ)) (given : List ℕ) : Type 0 where
  pub count : length given ≡ n
  pub most : n ≤ max
  pub size : n ≤ 4096
  pub bytes : Consumes before after given
  pub end : n ≡ 0 → IsAtEnd after

-- ---- writing

-- a write took the first n bytes of a piece, at least one
pub record Writes (n : ℕ) (before after : Option (List ℕ)) (piece : List ℕ) : Type 0 where
  pub least : 1 ≤ n
  pub most : n ≤ length piece
  pub bytes : Appends before after (take n piece)
