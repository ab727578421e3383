-- The tables of the code: where the segment of each slot stands, and whose each block is.
use Rattle.std.specs.Prelude.{◌≡◌, ℕ, suc, ◌+◌, ◌<◌, ◌≤◌, ◌⊎◌, List, [], ◌∷◌, length, Option, Some, None, slice_get, unwrap_or}
use Rattle.std.specs.FinMap as finite
use Rattle.std.specs.Ordering.{nat_cmp}
use Rattle.bk_core.specs.Memory.{blocks_of_core}
use Rattle.bk_object.specs.Limits.{most_blocks}
use Rattle.bk_frames.specs.declared.table.Placed.{Placed}
use Rattle.bk_frames.specs.Extents.{Extent, taken_in}

-- where it stands
abbrev pub extent_at : Placed → Extent
extent_at place = record { first = place.first; blocks = place.blocks }

-- where the slot's segment stands
abbrev pub place_of : List (Option Placed) → (slot : ℕ) → Option Placed
place_of places slot = unwrap_or (slice_get places slot) None

-- the slots that have a segment, the first place being that slot's
abbrev pub entries_from : ℕ → List (Option Placed) → List (ℕ × Extent)
entries_from n [] = []
entries_from n (None ∷ places) = entries_from (suc n) places
entries_from n (Some place ∷ places) = (n, extent_at place) ∷ entries_from (suc n) places

-- the map that the places stand for
abbrev pub extents_in : List (Option Placed) → finite.FinMap nat_cmp Extent
extents_in places = finite.from_entries (entries_from 0 places)

-- so many blocks from one on are nobody's
pub record IsHole (owners : List (Option ℕ)) (at blocks : ℕ) : Type 0 where
  pub within : at + blocks ≤ length owners
  pub free : (b : ℕ) → at ≤ b → b < at + blocks → slice_get owners b ≡ Some None

-- each block below is somebody's
abbrev pub IsFull : List (Option ℕ) → (low : ℕ) → Type 0
IsFull owners low = (b : ℕ) → b < low → slice_get owners b ≡ Some None → ⊥

-- so many blocks from one on have this owner now, and all others the one that they had
pub record IsMarked (old new : List (Option ℕ)) (at blocks : ℕ) (owner : Option ℕ) : Type 0 where
  pub same_length : length new ≡ length old
  pub inside : (b : ℕ) → at ≤ b → b < at + blocks → slice_get new b ≡ Some owner
  pub outside : (b : ℕ) → (b < at) ⊎ (at + blocks ≤ b) → slice_get new b ≡ slice_get old b

-- the segment stands within the frames, and each of its blocks is its slot's
pub record IsOwned (first : ℕ) (owners : List (Option ℕ)) (slot : ℕ) (place : Placed) : Type 0 where
  pub above : first ≤ place.first
  pub some : 1 ≤ place.blocks
  pub small : place.blocks ≤ most_blocks
  pub within : place.first + place.blocks ≤ first + length owners
  pub blocks : (b : ℕ) → place.first ≤ first + b → first + b < place.first + place.blocks → slice_get owners b ≡ Some (Some slot)

-- a segment of the slot has the block
pub record IsHeld (first : ℕ) (places : List (Option Placed)) (b slot : ℕ) : Type 0 where
  pub place : Placed
  pub there : place_of places slot ≡ Some place
  pub from : place.first ≤ first + b
  pub to : first + b < place.first + place.blocks

-- the blocks of each segment are its slot's, and each block that is somebody's is of a segment
pub record IsTable (first : ℕ) (places : List (Option Placed)) (owners : List (Option ℕ)) : Type 0 where
  pub owned : (slot : ℕ) (place : Placed) → place_of places slot ≡ Some place → IsOwned first owners slot place
  pub held : (b slot : ℕ) → slice_get owners b ≡ Some (Some slot) → IsHeld first places b slot

-- what the frames keep: the tables agree, no block below the lowest free one is free, the number of taken blocks is that
-- of the segments, and there is room to list as many segments as there are blocks
pub record IsFrames (first size slots taken low : ℕ) (places : List (Option Placed)) (owners : List (Option ℕ)) (room : ℕ) : Type 0 where
  pub table : IsTable first places owners
  pub known : length places ≡ slots
  pub whole : length owners ≡ size
  pub inside : first + size ≤ blocks_of_core
  pub counted : taken_in (record { first = first; blocks = size; slots = slots; extents = extents_in places }) ≡ taken
  pub fits : taken ≤ size
  pub none_free : IsFull owners low
  pub reach : low ≤ size
  pub enough : size ≤ room
