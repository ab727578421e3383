-- Two segments with a hole below each, in eight blocks from block 64 on: that of slot 1 has blocks 65 and 66, that of slot 2
-- has block 70.
use Rattle.std.specs.Prelude.{ℕ, List, [], ◌∷◌}
use Rattle.std.specs.FinMap as finite
use Rattle.std.specs.Ordering.{nat_cmp}
use Rattle.bk_frames.specs.Extents.{Extent, Standing}

-- the segment of slot 1
abbrev pub lower : Extent
lower = record { first = 65; blocks = 2 }

-- the segment of slot 2
abbrev pub upper : Extent
upper = record { first = 70; blocks = 1 }

-- where the segment of each slot stands
abbrev pub example_entries : List (ℕ × Extent)
example_entries = (1, lower) ∷ (2, upper) ∷ []

-- the frames with both
abbrev pub example : Standing
example = record { first = 64; blocks = 8; slots = 4; extents = finite.from_sorted {R = nat_cmp} example_entries }
