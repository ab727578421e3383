-- The list of all segments of the tables, from the lowest to the highest.
use Rattle.std.specs.Prelude.{◌≡◌, ⊤, ℕ, ◌+◌, ◌<◌, ◌≤◌, ◌⊎◌, length, nat_lt, if◌then◌else◌, List, [], ◌∷◌, Option, Some, None, option_map, slice_get, unwrap_or}
use Rattle.std.specs.FinMap as finite
use Rattle.std.specs.Ordering.{nat_cmp}
use Rattle.bk_base.specs.Maps.{IsDistinct}
use Rattle.bk_object.specs.Limits.{most_blocks}
use Rattle.bk_frames.specs.declared.segments.Segment.{Segment}
use Rattle.bk_frames.specs.declared.table.Placed.{Placed}
use Rattle.bk_frames.specs.Extents.{Extent}
use Rattle.bk_frames.specs.Segments.{IsStacked, entries_of}
use Rattle.bk_frames.specs.Table.{extent_at, place_of, IsFull, IsTable}

-- the segment of the slot that stands there
abbrev pub segment_in : (slot : ℕ) → Option Placed → Option Segment
segment_in slot None = None
segment_in slot (Some place) = Some (record { slot = slot; first = place.first; blocks = place.blocks })

-- the segment of the owner
abbrev pub segment_for : List (Option Placed) → Option ℕ → Option Segment
segment_for places None = None
segment_for places (Some slot) = segment_in slot (place_of places slot)

-- the segment that has the block
abbrev pub segment_of : List (Option Placed) → List (Option ℕ) → (block : ℕ) → Option Segment
segment_of places owners block = segment_for places (unwrap_or (slice_get owners block) None)

-- the extent, if it begins below the block
abbrev pub before : ℕ → Option Placed → Option Extent
before block None = None
before block (Some place) = if nat_lt place.first block then Some (extent_at place) else None

-- the list has each segment that begins below a block, from the lowest to the highest, and none stands across that block
pub record IsListed (first block : ℕ) (places : List (Option Placed)) (segments : List Segment) : Type 0 where
  pub stacked : IsStacked first block segments
  pub distinct : IsDistinct nat_cmp (entries_of segments)
  pub same : (slot : ℕ) → finite.find nat_cmp slot (entries_of segments) ≡ before block (place_of places slot)
  pub clear : (slot : ℕ) (place : Placed) → place_of places slot ≡ Some place → (place.first + place.blocks ≤ block) ⊎ (block ≤ place.first)

-- each segment stands directly behind the one before
abbrev pub IsPacked : (at : ℕ) → List Segment → Type 0
IsPacked at [] = ⊤
IsPacked at (s ∷ ss) = (s.first ≡ at) × IsPacked (at + s.blocks) ss

-- the first of two, or else the second
abbrev pub or_else : Option Extent → Option Extent → Option Extent
or_else None other = other
or_else (Some e) other = Some e

-- what holds once the segments of a front of the list stand in the tables, and those of the rest don't
pub record IsSettled (first n : ℕ) (places : List (Option Placed)) (owners : List (Option ℕ)) (all rest : List Segment) : Type 0 where
  pub packed : IsPacked (first + n) rest
  pub stacked : IsStacked (first + n) (first + length owners) rest
  pub distinct : IsDistinct nat_cmp (entries_of rest)
  pub table : IsTable first places owners
  pub full : IsFull owners n
  pub free : (b : ℕ) → n ≤ b → b < length owners → slice_get owners b ≡ Some None
  pub same : (slot : ℕ) → finite.find nat_cmp slot (entries_of all) ≡
      or_else (option_map extent_at (place_of places slot)) (finite.find nat_cmp slot (entries_of rest))
  pub later : (slot : ℕ) (e : Extent) → finite.find nat_cmp slot (entries_of rest) ≡ Some e →
      (slot < length places) × (e.blocks ≤ most_blocks) × (place_of places slot ≡ None)
