-- What of a state lies under a level, that is, at levels which it dominates.
use Rattle.std.specs.Prelude.{ℕ, Bool, true, ◌&&◌, [], ◌∷◌, length, Option, Some, None, nat_lt, slice_index, if◌then◌else◌}
use Rattle.bk_level.specs.Levels.{Level, dominates, level_at}
use Rattle.bk_path.specs.Paths.{Path}
use Rattle.bk_object.specs.Modes.{AccessMode}
use Rattle.bk_object.specs.declared.Facts.{Facts}
use Rattle.bk_process.specs.declared.process.Process.{Process}
use Rattle.bk_quota.specs.Charges.{passes}
use Rattle.bk_state.specs.State.{State, Fixed, Object, Contents, find, facts_at, holds, process_of, current_level, level_of}

-- the subject is there, and its current level is under the level
abbrev pub is_subject_under : Level → State → (s : ℕ) → Bool
is_subject_under level v s = nat_lt s (length v.fixed.subjects) && dominates level (current_level v s)

-- the line is there, and its level is under the level
abbrev pub is_line_under : Level → State → (line : ℕ) → Bool
is_line_under level v line = nat_lt line (length v.fixed.lines) && dominates level (level_at v.fixed.levels (slice_index v.fixed.lines line))

-- the level of an object with these facts is under the level
abbrev pub is_under : Level → State → Facts → Bool
is_under level v facts = dominates level (level_of v facts)

-- root, and each path whose parent's level is under the level
abbrev pub shows : Level → State → Path → Bool
shows level v [] = true
shows level v (entry ∷ path) = passes (is_under level v) (facts_at v path)

-- the contents of an object, if it is there and lies under the level
abbrev pub contents_under : Level → State → Option Object → Option Contents
contents_under level v None = None
contents_under level v (Some object) = if is_under level v object.facts then Some object.contents else None

-- What is seen of a state.
pub record View : Type 0 where
  -- what no event changes
  pub fixed : Fixed
  -- whether a subject is there whose current level is under the level
  pub subjects : (s : ℕ) → Bool
  -- the number of a subject's current level
  pub current : (s : ℕ) → Option ℕ
  -- the process of a subject
  pub process : (s : ℕ) → Option Process
  -- whether a subject holds an object by a mode
  pub holds : (s : ℕ) → Path → AccessMode → Bool
  -- kind, blocks, level, quota and row of an object
  pub facts : Path → Option Facts
  pub contents : Path → Option Contents

-- What a level sees of a state: what no event changes; which subjects' current levels are under it, and of these the levels,
-- the processes and the current accesses; the facts of root and of each object whose parent's level is under it; and the
-- contents of each object whose own level is under it.
unfoldable pub low : Level → State → View
low level v = record {
  fixed = v.fixed;
  subjects = is_subject_under level v;
  current = λ s. if is_subject_under level v s then Some (slice_index v.current s) else None;
  process = λ s. if is_subject_under level v s then process_of v s else None;
  holds = λ s path mode. is_subject_under level v s && holds v s path mode;
  facts = λ path. if shows level v path then facts_at v path else None;
  contents = λ path. contents_under level v (find v path);
}
