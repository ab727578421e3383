-- The tables of a store, taken together: the tree names objects by their paths, all other tables by their slots, and
-- typed bytes by the number of their line.
use Rattle.std.specs.Prelude.{◌≡◌, ◌≢◌, ℕ, zero, suc, ◌+◌, ◌≤◌, ◌<◌, Bool, List, [], ◌∷◌, length, map, flat_map, sum_by, Option, Some, None}
use Rattle.std.specs.Prelude.{option_map, slice_index_or, slice_set, replicate, ◌*◌}
use Rattle.std.specs.FinMap as finite
use Rattle.std.specs.FinSet as set
use Rattle.std.specs.Ordering.{nat_cmp}
use Rattle.bk_base.specs.Maps.{map_values}
use Rattle.bk_level.specs.Levels.{Level}
use Rattle.bk_path.specs.Paths.{Path, path_cmp}
use Rattle.bk_quota.specs.Charges.{passes, quota_in}
use Rattle.bk_access.specs.Held.{Held, holds, modes_at}
use Rattle.bk_object.specs.declared.Facts.{Facts}
use Rattle.bk_object.specs.declared.kind.Kind.{Kind}
use Rattle.bk_object.specs.declared.kind.Kind.TheVariants.{Directory, Segment, Mailbox, Line}
use Rattle.bk_object.specs.Limits.{largest_quota, most_blocks, words_of_block}
use Rattle.bk_object.specs.Modes.{no_modes}
use Rattle.bk_object.specs.Rows.{most_subjects}
use Rattle.bk_core.specs.Memory.{blocks_of_core, kernel_blocks}
use Rattle.bk_frames.specs.Extents.{Extent, Standing, sizes_of, taken_in, IsApart, AreApart}
use Rattle.bk_queue.specs.Queues.{Mail, Typed}
use Rattle.bk_tree.specs.declared.place.Placed.{Placed}
use Rattle.bk_tree.specs.Objects.{Objects, facts_of}
use Rattle.bk_state.specs.State.{Triple, triple_cmp}
use Rattle.bk_store.specs.Stored.{Waiting, Queue, NoQueue, OfMailbox, OfLine, Entry, Stored, all_modes, extent_in}

-- the slot of the object at the path
abbrev pub slot_in : Objects → Path → Option ℕ
slot_in tree path = option_map (λ placed. placed.slot) (finite.get tree path)

-- the subject holds the object at the path by the mode
abbrev pub is_held : Objects → Held → Triple → Bool
is_held tree held t = passes (λ slot. holds held t.0 slot t.2) (slot_in tree t.1)

-- the numbers below one
abbrev pub below : ℕ → List ℕ
below zero = []
below (suc n) = n ∷ below n

-- each subject, each object that is there, each mode
abbrev pub all_triples : Objects → List Triple
all_triples tree = flat_map (λ subject. flat_map (λ path. map (λ mode. (subject, path, mode)) all_modes) (finite.keys tree)) (below most_subjects)

-- who holds what, by paths
abbrev pub access_of : Objects → Held → set.FinSet triple_cmp
access_of tree held = set.retain (set.from_list (all_triples tree)) (is_held tree held)

-- the tables of contents: where segments stand, the mailbox of each slot, the typed bytes of each line
pub record Tables : Type 0 where
  pub frames : Standing
  pub mailboxes : List Waiting
  pub inputs : List (List ℕ)

-- what waits in a mailbox
abbrev pub waiting_of : Mail → Waiting
waiting_of mail = record { messages = mail.waiting; lost = mail.lost }

-- what waits on a line
abbrev pub bytes_of : Typed → List ℕ
bytes_of typed = typed.bytes

-- the tables of contents of the code
abbrev pub tables_of : Standing → List Mail → List Typed → Tables
tables_of frames mailboxes inputs = record { frames = frames; mailboxes = map waiting_of mailboxes; inputs = map bytes_of inputs }

-- a mailbox in which nothing waits
abbrev pub no_mail : Waiting
no_mail = record { messages = []; lost = 0 }

-- what waits in an object with that slot and kind
abbrev pub queue_at : Tables → (slot : ℕ) → Kind → Queue
queue_at tables slot Directory = NoQueue
queue_at tables slot Segment = NoQueue
queue_at tables slot Mailbox = OfMailbox (slice_index_or tables.mailboxes slot no_mail)
queue_at tables slot (Line n) = OfLine (slice_index_or tables.inputs n [])

-- what the tables have of an object
abbrev pub entry_of : Tables → Placed → Entry
entry_of tables placed = record {
  facts = placed.facts;
  extent = finite.get tables.frames.extents placed.slot;
  queue = queue_at tables placed.slot placed.facts.kind;
}

-- what they have of all objects
abbrev pub entries_of : Objects → Tables → finite.FinMap path_cmp Entry
entries_of tree tables = map_values (entry_of tables) tree

-- the store that all tables stand for
abbrev pub store_of : List Level → (lines : ℕ) → Objects → Held → Tables → Stored
store_of levels lines tree held tables = record {
  levels = levels;
  lines = lines;
  objects = entries_of tree tables;
  access = access_of tree held;
}

-- ---- what a store keeps

-- each path has a slot of its own, for which the access table has a place; of other slots nobody holds anything; there
-- are as many slots as root's quota
pub record HasSlots (tree : Objects) (held : Held) : Type 0 where
  pub own : (p q : Path) (slot : ℕ) → slot_in tree p ≡ Some slot → slot_in tree q ≡ Some slot → p ≡ q
  pub within : (p : Path) (slot : ℕ) → slot_in tree p ≡ Some slot → slot < held.slots
  pub free : (slot : ℕ) → ((p : Path) → slot_in tree p ≢ Some slot) → (s : ℕ) → modes_at held s slot ≡ no_modes
  pub places : held.slots ≡ quota_in facts_of tree []

-- the blocks of a segment
abbrev pub blocks_of : Kind → (blocks : ℕ) → Option ℕ
blocks_of Directory blocks = None
blocks_of Segment blocks = Some blocks
blocks_of Mailbox blocks = None
blocks_of (Line n) blocks = None

-- the blocks of the object, if it is a segment
abbrev pub segment_blocks : Facts → Option ℕ
segment_blocks facts = blocks_of facts.kind facts.blocks

-- the number, or 0
abbrev pub or_zero : Option ℕ → ℕ
or_zero None = 0
or_zero (Some n) = n

-- so many blocks of words that are zero
abbrev pub zeros_of : Option ℕ → Option (List ℕ)
zeros_of blocks = option_map (λ n. replicate (words_of_block * n) 0) blocks

-- the words of a new object
abbrev pub new_words : Facts → Option (List ℕ)
new_words facts = zeros_of (segment_blocks facts)

-- what is added at a slot, if there is something
abbrev pub with_some : {Y : Type 0} → finite.FinMap nat_cmp Y → (slot : ℕ) → Option Y → finite.FinMap nat_cmp Y
with_some m slot None = m
with_some m slot (Some y) = finite.insert m slot y

-- the lists of typed bytes in which the line of that kind begins anew
abbrev pub with_new_input : Kind → List (List ℕ) → List (List ℕ)
with_new_input Directory inputs = inputs
with_new_input Segment inputs = inputs
with_new_input Mailbox inputs = inputs
with_new_input (Line n) inputs = slice_set inputs n []

-- the blocks that an object's words take
abbrev pub size_of : Facts → ℕ
size_of facts = or_zero (segment_blocks facts)

-- a segment has its blocks at its slot, and nothing stands for all else; segments stand in the blocks of core above
-- the kernel's, apart
pub record HasExtents (tree : Objects) (slots : ℕ) (frames : Standing) : Type 0 where
  pub sizes : (p : Path) (a : Placed) → finite.get tree p ≡ Some a → finite.get (sizes_of frames) a.slot ≡ segment_blocks a.facts
  pub unowned : (slot : ℕ) → ((p : Path) → slot_in tree p ≢ Some slot) → finite.get (sizes_of frames) slot ≡ None
  pub taken : taken_in frames ≡ sum_by (λ e. size_of e.1.facts) (finite.entries tree)
  pub apart : IsApart frames
  pub first : frames.first ≡ kernel_blocks
  pub blocks : frames.blocks ≡ largest_quota
  pub places : frames.slots ≡ slots

-- there is a mailbox for each slot and a list of bytes for each line; a line is below the number of lines, and no two
-- objects have one line
pub record HasQueues (lines : ℕ) (tree : Objects) (slots : ℕ) (tables : Tables) : Type 0 where
  pub mailboxes : length tables.mailboxes ≡ slots
  pub inputs : length tables.inputs ≡ lines
  pub within : (p : Path) (a : Placed) (n : ℕ) → finite.get tree p ≡ Some a → a.facts.kind ≡ Line n → n < lines
  pub own : (p q : Path) (a b : Placed) (n : ℕ) → finite.get tree p ≡ Some a → finite.get tree q ≡ Some b → a.facts.kind ≡ Line n → b.facts.kind ≡ Line n → p ≡ q

-- what a store keeps
pub record IsStore (lines : ℕ) (tree : Objects) (held : Held) (tables : Tables) : Type 0 where
  pub slots : HasSlots tree held
  pub extents : HasExtents tree held.slots tables.frames
  pub queues : HasQueues lines tree held.slots tables

-- ---- what follows for the value

-- where an object's words stand and what waits in it are as its kind says
abbrev pub FitsKind : Kind → (blocks : ℕ) → Option Extent → Queue → Type 0
FitsKind Directory blocks extent queue = (extent ≡ None) × (queue ≡ NoQueue)
FitsKind Segment blocks extent queue = (option_map (λ e. e.blocks) extent ≡ Some blocks) × (queue ≡ NoQueue)
FitsKind Mailbox blocks extent queue = (extent ≡ None) × ((waiting : Waiting) × (queue ≡ OfMailbox waiting))
FitsKind (Line n) blocks extent queue = (extent ≡ None) × ((bytes : List ℕ) × (queue ≡ OfLine bytes))

-- each object has what its kind says
abbrev pub HaveKinds : Stored → Type 0
HaveKinds v = (path : Path) (e : Entry) → finite.get v.objects path ≡ Some e → FitsKind e.facts.kind e.facts.blocks e.extent e.queue

-- segments have 1 to 128 blocks each, stand within the blocks of core above the kernel's, and no two have a block in common
pub record AreExtentsApart (v : Stored) : Type 0 where
  pub sized : (path : Path) (e : Extent) → extent_in v path ≡ Some e → (1 ≤ e.blocks) × (e.blocks ≤ most_blocks)
  pub within : (path : Path) (e : Extent) → extent_in v path ≡ Some e → (kernel_blocks ≤ e.first) × (e.first + e.blocks ≤ blocks_of_core)
  pub apart : (p q : Path) (e f : Extent) → extent_in v p ≡ Some e → extent_in v q ≡ Some f → p ≢ q → AreApart e f
