-- The store as its callers see it: the levels, the number of lines, each object by its path, and the current access set.
use Rattle.std.specs.Prelude.{ℕ, Bool, nat_lt, List, [], Option, Some, None, option_map, IsSome, IsTrue, ◌*◌, ◌&&◌, ◌∷◌}
use Rattle.std.specs.FinMap as finite
use Rattle.std.specs.FinSet as set
use Rattle.bk_base.specs.Maps.{map_values}
use Rattle.bk_level.specs.Levels.{Level}
use Rattle.bk_object.specs.declared.Facts.{Facts}
use Rattle.bk_object.specs.declared.kind.Kind.{Kind}
use Rattle.bk_object.specs.Kinds.{is_directory, is_segment, is_mailbox, is_any_line}
use Rattle.bk_object.specs.Limits.{bytes_of_block}
use Rattle.bk_path.specs.Paths.{Path, path_cmp}
use Rattle.bk_quota.specs.Charges.{passes}
use Rattle.bk_frames.specs.Extents.{Extent, words_at}
use Rattle.bk_state.specs.State.{triple_cmp, Object, Contents, Children, Words, Messages, Typed}

-- the messages that wait in a mailbox, the oldest first, and how many were lost since one was last taken
pub record Waiting : Type 0 where
  pub messages : List (List ℕ)
  pub lost : ℕ

-- what waits in an object: messages in a mailbox, typed bytes on a line, the oldest first, and nothing in others
pub data Queue : Type 0 where
  NoQueue : Queue
  OfMailbox : (waiting : Waiting) → Queue
  OfLine : (bytes : List ℕ) → Queue

-- an object: its facts, where its words stand if it is a segment, and what waits in it
pub record Entry : Type 0 where
  pub facts : Facts
  pub extent : Option Extent
  pub queue : Queue

-- all that a store has
pub record Stored : Type 0 where
  pub levels : List Level
  pub lines : ℕ
  pub objects : finite.FinMap path_cmp Entry
  pub access : set.FinSet triple_cmp

-- ---- the objects with their contents

-- what waits, as the contents of an object
abbrev pub waiting_in : Queue → Contents
waiting_in NoQueue = Children
waiting_in (OfMailbox waiting) = Messages waiting.messages waiting.lost
waiting_in (OfLine bytes) = Typed bytes

-- the contents of an object: the words of core where it has an extent, else what waits in it
abbrev pub contents_in : List ℕ → Queue → Option Extent → Contents
contents_in words queue None = waiting_in queue
contents_in words queue (Some extent) = Words (words_at words extent)

-- the object of the state
abbrev pub object_of : List ℕ → Entry → Object
object_of words e = record { facts = e.facts; contents = contents_in words e.queue e.extent }

-- the objects of the state: their facts, and their contents with the words of core
abbrev pub objects_of : Stored → List ℕ → finite.FinMap path_cmp Object
objects_of v words = map_values (object_of words) v.objects

-- ---- what is there

-- root alone, and nobody holds anything
abbrev pub begun : List Level → (lines : ℕ) → Facts → Stored
begun levels lines root = record {
  levels = levels;
  lines = lines;
  objects = finite.from_entries (([], record { facts = root; extent = None; queue = NoQueue }) ∷ []);
  access = set.empty;
}

-- the facts of the object at the path
abbrev pub facts_in : Stored → Path → Option Facts
facts_in v path = option_map (λ e. e.facts) (finite.get v.objects path)

-- an object is at the path
abbrev pub IsThere : Stored → Path → Type 0
IsThere v path = IsSome (finite.get v.objects path)

-- an object of such a kind is at the path
abbrev pub HasKind : (Kind → Bool) → Stored → Path → Type 0
HasKind test v path = IsTrue (passes (λ e. test e.facts.kind) (finite.get v.objects path))

-- a directory is at the path
abbrev pub HasDirectory : Stored → Path → Type 0
HasDirectory v path = HasKind is_directory v path

-- a segment is at the path
abbrev pub HasSegment : Stored → Path → Type 0
HasSegment v path = HasKind is_segment v path

-- a mailbox is at the path
abbrev pub HasMailbox : Stored → Path → Type 0
HasMailbox v path = HasKind is_mailbox v path

-- a line is at the path
abbrev pub HasLine : Stored → Path → Type 0
HasLine v path = HasKind is_any_line v path

-- a segment is at the path, and the offset in bytes lies inside
abbrev pub HasOffset : Stored → Path → (offset : ℕ) → Type 0
HasOffset v path offset = IsTrue (passes (λ e. is_segment e.facts.kind && nat_lt offset (bytes_of_block * e.facts.blocks)) (finite.get v.objects path))

-- where the words of the object stand
abbrev pub extent_at : Option Entry → Option Extent
extent_at None = None
extent_at (Some e) = e.extent

-- where the words of the object at the path stand
abbrev pub extent_in : Stored → Path → Option Extent
extent_in v path = extent_at (finite.get v.objects path)
