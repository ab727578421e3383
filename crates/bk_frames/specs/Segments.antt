-- A list of segments, from the lowest to the highest, in which they are moved down.
use Rattle.std.specs.Prelude.{ℕ, ◌+◌, ◌≤◌, List, [], ◌∷◌, map}
use Rattle.std.specs.FinMap as finite
use Rattle.std.specs.Ordering.{nat_cmp}
use Rattle.bk_core.specs.Memory.{slid}
use Rattle.bk_frames.specs.declared.segments.Segment.{Segment}
use Rattle.bk_frames.specs.Extents.{Extent}

-- the extent of a segment
abbrev pub extent_of : Segment → Extent
extent_of s = record { first = s.first; blocks = s.blocks }

-- the slots with their extents
abbrev pub entries_of : List Segment → List (ℕ × Extent)
entries_of segments = map (λ s. (s.slot, extent_of s)) segments

-- the map that a list of segments stands for
abbrev pub extents_of : List Segment → finite.FinMap nat_cmp Extent
extents_of segments = finite.from_entries (entries_of segments)

-- each segment has at least a block and stands above those before it; all stand between two blocks
abbrev pub IsStacked : ℕ → ℕ → List Segment → Type 0
IsStacked at limit [] = at ≤ limit
IsStacked at limit (s ∷ ss) = (at ≤ s.first) × (1 ≤ s.blocks) × IsStacked (s.first + s.blocks) limit ss

-- a segment once it stands from a block on
abbrev pub moved_to : ℕ → Segment → Segment
moved_to at s = record { slot = s.slot; first = at; blocks = s.blocks }

-- the segments without a gap
abbrev pub compacted : ℕ → List Segment → List Segment
compacted at [] = []
compacted at (s ∷ ss) = moved_to at s ∷ compacted (at + s.blocks) ss

-- how many blocks they have together
abbrev pub total : List Segment → ℕ
total [] = 0
total (s ∷ ss) = s.blocks + total ss

-- the words once each segment has moved down, from the lowest on
abbrev pub words_after : ℕ → List Segment → List ℕ → List ℕ
words_after at [] words = words
words_after at (s ∷ ss) words = words_after (at + s.blocks) ss (slid words s.first at s.blocks)
