-- How long a run is at most.
use Rattle.std.specs.Prelude.{ℕ}

-- slots
abbrev pub most_slots : ℕ
most_slots = 65535

-- turns of all its slots
abbrev pub most_turns_of_run : ℕ
most_turns_of_run = 4194304
