-- How much an image has at most.
use Rattle.std.specs.Prelude.{ℕ}
use Rattle.bk_object.specs.Limits.{largest_quota}

-- turns of a slot
abbrev pub most_turns : ℕ
most_turns = 4096

-- lines
abbrev pub most_lines : ℕ
most_lines = 16

-- places of the schedule
abbrev pub most_places : ℕ
most_places = 64

-- objects: each has a block to pay for at least, but for root, whose cell has this limit at most
abbrev pub most_objects : ℕ
most_objects = largest_quota

-- holds
abbrev pub most_holds : ℕ
most_holds = 65535
