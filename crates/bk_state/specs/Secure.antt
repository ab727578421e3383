-- When a state is secure.
use Rattle.std.specs.Prelude.{◌≡◌, ℕ, ◌*◌, ◌%◌, ◌^◌, ◌<◌, ◌≤◌, Bool, true, ◌&&◌, [], ◌∷◌, length, Some, slice_index, ◌==◌, nat_lt, ◌⊎◌}
use Rattle.std.specs.List.{list_all, IsDistinct}
use Rattle.bk_level.specs.Levels.{dominates, is_same_level}
use Rattle.bk_path.specs.Paths.{Path}
use Rattle.bk_object.specs.Limits.{most_blocks, words_of_block, largest_quota, most_messages, words_of_message, most_typed}
use Rattle.bk_object.specs.Modes.{AccessMode, has}
use Rattle.bk_object.specs.Kinds.{kind_modes, is_directory}
use Rattle.bk_object.specs.Rows.{in_row, most_subjects}
use Rattle.bk_object.specs.declared.Kind.{Kind}
use Rattle.bk_object.specs.declared.Kind.TheVariants.{Directory, Segment, Mailbox, Line}
use Rattle.bk_object.specs.declared.Facts.{Facts}
use Rattle.bk_process.specs.NewProcess.{windows_of_process, entries_of_process, general_registers}
use Rattle.bk_process.specs.declared.process.Process.{Process}
use Rattle.bk_quota.specs.Charges.{passes}
use Rattle.bk_state.specs.State.{State, Fixed, Object, Contents, Children, Words, Messages, Typed, find, facts_at, holds}
use Rattle.bk_state.specs.State.{current_level, greatest_level, level_of}
use Rattle.bk_state.specs.Allowed.{is_allowed}
use Rattle.bk_state.specs.Quota.{used, is_upgraded, quota_at}

-- a directory is there
abbrev pub IsDirectoryAt : State → Path → Type 0
IsDirectoryAt v path = passes (λ facts. is_directory facts.kind) (facts_at v path) ≡ true

-- The blocks and the contents that each kind has: a segment 1 to 128 blocks of 32 words; a mailbox at most 16 messages of
-- four words and a count of lost ones; a line at most 64 bytes, and the level that the image gives to its number.
abbrev pub FitsKind : Fixed → Kind → Facts → Contents → Type 0
FitsKind fixed Directory facts contents = (facts.blocks ≡ 0) × (contents ≡ Children)
FitsKind fixed Segment facts (Words words) =
    (1 ≤ facts.blocks) × (facts.blocks ≤ most_blocks) × (length words ≡ words_of_block * facts.blocks)
FitsKind fixed Segment facts Children = ⊥
FitsKind fixed Segment facts (Messages waiting lost) = ⊥
FitsKind fixed Segment facts (Typed bytes) = ⊥
FitsKind fixed Mailbox facts (Messages waiting lost) =
    (facts.blocks ≡ 0) × (length waiting ≤ most_messages) × (list_all (λ message. length message == words_of_message) waiting ≡ true) × (lost < 2 ^ 16)
FitsKind fixed Mailbox facts Children = ⊥
FitsKind fixed Mailbox facts (Words words) = ⊥
FitsKind fixed Mailbox facts (Typed bytes) = ⊥
FitsKind fixed (Line n) facts (Typed bytes) =
    (facts.blocks ≡ 0) × (length bytes ≤ most_typed) × (n < length fixed.lines) × (facts.level ≡ slice_index fixed.lines n)
FitsKind fixed (Line n) facts Children = ⊥
FitsKind fixed (Line n) facts (Words words) = ⊥
FitsKind fixed (Line n) facts (Messages waiting lost) = ⊥

-- the object's path is one of a directory with a cell: root, or an upgraded directory
abbrev pub HasCell : State → Path → Type 0
HasCell v path = (path ≡ []) ⊎ (is_upgraded v path ≡ true)

-- the process has all its windows, fault entries and general registers
abbrev pub is_whole : Process → Bool
is_whole process =
    length process.windows == windows_of_process && length process.entries == entries_of_process
    && length process.registers.general == general_registers

-- Each subject has a current level, which is one of the list; each row has a set of modes for every subject that there can
-- be, and each process all its windows, fault entries and general registers.
pub record HasShape (v : State) : Type 0 where
  pub current : length v.current ≡ length v.fixed.subjects
  pub listed : list_all (λ level. nat_lt level (length v.fixed.levels)) v.current ≡ true
  pub rows : (path : Path) (facts : Facts) → facts_at v path ≡ Some facts → length facts.row ≡ most_subjects
  pub processes : list_all is_whole v.processes ≡ true

-- a secure state
pub record Secure (v : State) : Type 0 where
  -- there are as many processes as subjects
  pub processes : length v.processes ≡ length v.fixed.subjects
  -- current levels, rows and processes have all their places
  pub shape : HasShape v
  -- no two numbers of the list are those of one level
  pub distinct : IsDistinct is_same_level v.fixed.levels
  -- root is there and is a directory; the parent of every other object is a directory whose level the object's dominates
  pub root : IsDirectoryAt v []
  pub parents : (entry : ℕ) (path : Path) (facts : Facts) → facts_at v (entry ∷ path) ≡ Some facts →
      passes (λ above. is_directory above.kind && dominates (level_of v facts) (level_of v above)) (facts_at v path) ≡ true
  -- each subject's greatest level dominates its current one; every object's level is in the list
  pub clearances : (s : ℕ) → s < length v.fixed.subjects → dominates (greatest_level v s) (current_level v s) ≡ true
  pub levels : (path : Path) (facts : Facts) → facts_at v path ≡ Some facts → facts.level < length v.fixed.levels
  -- blocks and contents are those of the kind, and no two objects have the same line number
  pub kinds : (path : Path) (object : Object) → find v path ≡ Some object → FitsKind v.fixed object.facts.kind object.facts object.contents
  pub lines : (p q : Path) (facts other : Facts) (n : ℕ) → facts_at v p ≡ Some facts → facts_at v q ≡ Some other →
      facts.kind ≡ Line n → other.kind ≡ Line n → p ≡ q
  -- root and each upgraded directory have a quota of 1 to 3,904, of which no more is used than there is; all else has 0
  pub limits : (path : Path) → HasCell v path → (1 ≤ quota_at v path) × (quota_at v path ≤ largest_quota)
  pub no_limits : (path : Path) → ¬ HasCell v path → quota_at v path ≡ 0
  pub quotas : (path : Path) → HasCell v path → used v path ≤ quota_at v path
  -- rows hold modes of the kind, and only for subjects that are there
  pub rows : (path : Path) (facts : Facts) (s : ℕ) (mode : AccessMode) → facts_at v path ≡ Some facts → has (in_row facts.row s) mode ≡ true →
      (has (kind_modes facts.kind) mode ≡ true) × (s < length v.fixed.subjects)
  -- what a subject holds is there, the mode is in its row, and the levels allow it
  pub access : (s : ℕ) (path : Path) (mode : AccessMode) → holds v s path mode ≡ true →
      passes (λ facts. has (in_row facts.row s) mode && is_allowed v s facts mode) (facts_at v path) ≡ true
  -- the current level of who holds an object dominates the level of its parent
  pub naming : (s entry : ℕ) (path : Path) (mode : AccessMode) → holds v s (entry ∷ path) mode ≡ true →
      passes (λ above. dominates (current_level v s) (level_of v above)) (facts_at v path) ≡ true
  -- fault entries are even; mode, register set and priority of a process are right by its type
  pub entries : list_all (λ process. list_all (λ entry. entry % 2 == 0) process.entries) v.processes ≡ true
