-- Where segments stand in core, and the words there.
use Rattle.std.specs.Prelude.{◌≡◌, ℕ, ◌+◌, ◌-◌, ◌*◌, ◌≤◌, ◌≢◌, ◌⊎◌, nat_lt, if◌then◌else◌, List, take, drop, sum_by, Some, refl}
use Rattle.std.specs.Coded.{Coded, code_by, coded×, coded_ℕ}
use Rattle.std.specs.FinMap as finite
use Rattle.std.specs.Ordering.{nat_cmp}
use Rattle.bk_base.specs.Maps.{map_values}
use Rattle.bk_core.specs.Memory.{block_words}
use Rattle.bk_object.specs.Limits.{most_blocks, words_of_block}

-- the first block, and how many
pub record Extent : Type 0 where
  pub first : ℕ
  pub blocks : ℕ

-- that two extents are alike or not
abbrev pub extent_code : Coded Extent
extent_code = code_by (ℕ × ℕ) (coded× coded_ℕ coded_ℕ) (λ e. (e.first, e.blocks)) (λ p. record { first = p.0; blocks = p.1 }) (λ _. refl)

-- the frames are so many blocks from the first on; extents has where the segment of each slot stands
pub record Standing : Type 0 where
  pub first : ℕ
  pub blocks : ℕ
  pub slots : ℕ
  pub extents : finite.FinMap nat_cmp Extent

-- that two values of frames are alike or not
abbrev pub standing_code : Coded Standing
standing_code = code_by (ℕ × (ℕ × (ℕ × finite.FinMap nat_cmp Extent))) (coded× coded_ℕ (coded× coded_ℕ (coded× coded_ℕ (finite.code coded_ℕ extent_code)))) (λ s. (s.first, (s.blocks, (s.slots, s.extents)))) (λ p. record { first = p.0; blocks = p.1.0; slots = p.1.1.0; extents = p.1.1.1 }) (λ _. refl)

-- the words of a segment, which are those of its blocks
abbrev pub words_at : List ℕ → Extent → List ℕ
words_at words extent = block_words words extent.first extent.blocks

-- the words of the segment of each slot
abbrev pub segments_of : Standing → List ℕ → finite.FinMap nat_cmp (List ℕ)
segments_of frames words = map_values (words_at words) frames.extents

-- the blocks of the segment of each slot
abbrev pub sizes_of : Standing → finite.FinMap nat_cmp ℕ
sizes_of frames = map_values (λ e. e.blocks) frames.extents

-- how many blocks are taken
abbrev pub taken_in : Standing → ℕ
taken_in frames = sum_by (λ e. e.1.blocks) (finite.entries frames.extents)

-- how many blocks are free
abbrev pub free_in : Standing → ℕ
free_in frames = frames.blocks - taken_in frames

-- the blocks of the segments that stand below a block
abbrev pub blocks_below : Standing → ℕ → ℕ
blocks_below frames block = sum_by (λ e. if nat_lt e.1.first block then e.1.blocks else 0) (finite.entries frames.extents)

-- where a segment stands once there is no gap: behind those that stood below it
abbrev pub moved_down : Standing → Extent → Extent
moved_down frames extent = record { first = frames.first + blocks_below frames extent.first; blocks = extent.blocks }

-- the frames are over the same blocks, for the same slots
abbrev pub KeepsRoom : (old new : Standing) → Type 0
KeepsRoom old new = (new.first ≡ old.first) × (new.blocks ≡ old.blocks) × (new.slots ≡ old.slots)

-- the words of core below the frames and above them are the same
pub record SameOutside (frames : Standing) (old new : List ℕ) : Type 0 where
  pub below : take (words_of_block * frames.first) new ≡ take (words_of_block * frames.first) old
  pub above : drop (words_of_block * (frames.first + frames.blocks)) new ≡ drop (words_of_block * (frames.first + frames.blocks)) old

-- two extents have no block in common
abbrev pub AreApart : Extent → Extent → Type 0
AreApart e f = (e.first + e.blocks ≤ f.first) ⊎ (f.first + f.blocks ≤ e.first)

-- each segment stands within the frames, with 1 to 128 blocks, and no two have a block in common
pub record IsApart (frames : Standing) : Type 0 where
  pub within : (s : ℕ) (e : Extent) → finite.get frames.extents s ≡ Some e → (frames.first ≤ e.first) × (e.first + e.blocks ≤ frames.first + frames.blocks)
  pub sized : (s : ℕ) (e : Extent) → finite.get frames.extents s ≡ Some e → (1 ≤ e.blocks) × (e.blocks ≤ most_blocks)
  pub apart : (s t : ℕ) (e f : Extent) → finite.get frames.extents s ≡ Some e → finite.get frames.extents t ≡ Some f → s ≢ t → AreApart e f

-- so many blocks from one on are of no segment
pub record HasRoomAt (frames : Standing) (at blocks : ℕ) : Type 0 where
  pub above : frames.first ≤ at
  pub within : at + blocks ≤ frames.first + frames.blocks
  pub apart : (s : ℕ) (e : Extent) → finite.get frames.extents s ≡ Some e → AreApart (record { first = at; blocks = blocks }) e

-- that place has room, and none below it has
pub record IsLowestRoom (frames : Standing) (at blocks : ℕ) : Type 0 where
  pub room : HasRoomAt frames at blocks
  pub lowest : (other : ℕ) → HasRoomAt frames other blocks → at ≤ other

-- no run of free blocks is long enough
abbrev pub HasNoRoom : Standing → (blocks : ℕ) → Type 0
HasNoRoom frames blocks = (at : ℕ) → HasRoomAt frames at blocks → ⊥

-- each segment of another slot ends at the block or below it
abbrev pub StandsLast : Standing → (slot at : ℕ) → Type 0
StandsLast frames slot at = (s : ℕ) (e : Extent) → s ≢ slot → finite.get frames.extents s ≡ Some e → e.first + e.blocks ≤ at
