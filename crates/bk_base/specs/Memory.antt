-- The sources and sinks in memory.
use Rattle.std.specs.Prelude.{◌≡◌, ℕ, ◌⊎◌, ◌-◌, ◌++◌, ◌==◌, min, List, length, take, drop, Contains, Some}
use Rattle.bk_base.specs.Outside.{SourceState, one_more}

-- a source in memory: the bytes given, the bytes left, the most that a call gives, the numbers of the calls that fail,
-- the number of the next call, and how many failed
pub record MemInput : Type 0 where
  pub given : List ℕ
  pub left : List ℕ
  pub piece : ℕ
  pub fails : List ℕ
  pub calls : ℕ
  pub faults : ℕ

-- how many bytes a call gives that doesn't fail
abbrev pub given_by : MemInput → ℕ → ℕ
given_by s max = min (min max s.piece) (min 4096 (length s.left))

-- the source after a call that gave n bytes
abbrev pub after_read : MemInput → ℕ → MemInput
after_read s n = record s { given = s.given ++ take n s.left; left = drop n s.left; calls = one_more s.calls }

-- the source after a call that failed
abbrev pub after_fault : MemInput → MemInput
after_fault s = record s { calls = one_more s.calls; faults = one_more s.faults }

-- what it shows of itself
abbrev pub shown_of : MemInput → SourceState
shown_of s = record { left = Some s.left; given = s.given; ended = length s.left == 0; faults = s.faults }

-- a source in memory from which no read fails: the bytes given, and the bytes left
pub record SteadyInput : Type 0 where
  pub given : List ℕ
  pub left : List ℕ

-- the source after a call that gave n bytes
abbrev pub after_steady_read : SteadyInput → ℕ → SteadyInput
after_steady_read s n = record { given = s.given ++ take n s.left; left = drop n s.left }

-- what it shows of itself
abbrev pub shown_steady : SteadyInput → SourceState
shown_steady s = record { left = Some s.left; given = s.given; ended = length s.left == 0; faults = 0 }

-- a sink in memory: the bytes taken, how many it takes in all, the most that a call takes, the numbers
-- of the calls that fail, the number of the next call, and how many failed
pub record MemOutput : Type 0 where
  pub taken : List ℕ
  pub room : ℕ
  pub piece : ℕ
  pub fails : List ℕ
  pub calls : ℕ
  pub faults : ℕ

-- the next call fails: its number is listed, or no room is left
abbrev pub WillFail : MemOutput → Type 0
WillFail s = Contains s.fails s.calls ⊎ (length s.taken ≡ s.room)

-- how many bytes of a piece a call takes that doesn't fail
abbrev pub taken_of : MemOutput → List ℕ → ℕ
taken_of s piece = min (min s.piece (length piece)) (s.room - length s.taken)

-- the sink after a call that took n bytes of a piece
abbrev pub after_write : MemOutput → ℕ → List ℕ → MemOutput
after_write s n piece = record s { taken = s.taken ++ take n piece; calls = one_more s.calls }

-- the sink after a call that failed
abbrev pub after_refusal : MemOutput → MemOutput
after_refusal s = record s { calls = one_more s.calls; faults = one_more s.faults }
