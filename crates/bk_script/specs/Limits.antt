-- How long a script is at most.
use Rattle.std.specs.Prelude.{ℕ}

-- bytes
abbrev pub most_bytes : ℕ
most_bytes = 1048576
