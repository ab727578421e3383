-- How long an image is at most.
use Rattle.std.specs.Prelude.{ℕ}

-- bytes
abbrev pub most_bytes : ℕ
most_bytes = 524288
