-- The state of the system: what no event changes, the objects by path, the current access set, the processes.
use Rattle.std.specs.Prelude.{ℕ, Bool, List, Option, Some, None, slice_index, slice_get, slice_set, option_map}
use Rattle.std.specs.Ordering.{nat_cmp, on, then_cmp}
use Rattle.std.specs.declared.cmp.Ordering.{Ordering}
use Rattle.std.specs.FinMap as map
use Rattle.std.specs.FinSet as set
use Rattle.bk_level.specs.Levels.{Level, level_at}
use Rattle.bk_path.specs.Paths.{Path, path_cmp}
use Rattle.bk_object.specs.Modes.{AccessMode, mode_number}
use Rattle.bk_object.specs.declared.facts.Facts.{Facts}
use Rattle.bk_state.specs.declared.clearance.Clearance.{Clearance}
use Rattle.bk_process.specs.declared.process.Process.{Process}

-- What an object holds: a directory nothing of its own, since its children are the paths below it; a segment its
-- words; a mailbox the messages of four words that wait, the oldest first, and how many were lost; a line the typed
-- bytes that wait, the oldest first.
pub data Contents : Type 0 where
  Children : Contents
  Words : (words : List ℕ) → Contents
  Messages : (waiting : List (List ℕ)) (lost : ℕ) → Contents
  Typed : (bytes : List ℕ) → Contents

-- an object: what its parent keeps of it, and what it holds
pub record Object : Type 0 where
  pub facts : Facts
  pub contents : Contents

-- what no event changes: the levels, the numbers of each subject's greatest level and of each line's level, the turns of a
-- slot, the schedule
pub record Fixed : Type 0 where
  pub levels : List Level
  pub subjects : List ℕ
  pub lines : List ℕ
  pub turns : ℕ
  pub schedule : List ℕ

-- one current access: the subject, the path of the object, the mode
abbrev pub Triple : Type 0
Triple = ℕ × Path × AccessMode

-- triples in the order of subject, path and mode
abbrev pub triple_cmp : Triple → Triple → Ordering
triple_cmp = then_cmp (on (λ t. t.0) nat_cmp) (then_cmp (on (λ t. t.1) path_cmp) (on (λ t. mode_number t.2) nat_cmp))

-- a state of the system; `current` is the number of each subject's current level
pub record State : Type 0 where
  pub fixed : Fixed
  pub current : List ℕ
  pub objects : map.FinMap path_cmp Object
  pub access : set.FinSet triple_cmp
  pub processes : List Process

-- the object at the path
abbrev pub find : State → Path → Option Object
find v p = map.get v.objects p

-- its facts
abbrev pub facts_at : State → Path → Option Facts
facts_at v p = option_map (λ o. o.facts) (find v p)

-- the subject holds the object by the mode now
abbrev pub holds : State → ℕ → Path → AccessMode → Bool
holds v s p x = set.contains v.access (s, p, x)

-- the process of a subject, where there is such a subject
abbrev pub process_of : State → ℕ → Option Process
process_of v s = slice_get v.processes s

-- the numbers of a subject's levels; of none, those of the first level
abbrev pub clearance_of : State → ℕ → Clearance
clearance_of v s = record { greatest = slice_index v.fixed.subjects s; current = slice_index v.current s }

-- the subject's current level
abbrev pub current_level : State → ℕ → Level
current_level v s = level_at v.fixed.levels (clearance_of v s).current

-- the subject's greatest level
abbrev pub greatest_level : State → ℕ → Level
greatest_level v s = level_at v.fixed.levels (clearance_of v s).greatest

-- the level of an object with these facts
abbrev pub level_of : State → Facts → Level
level_of v facts = level_at v.fixed.levels facts.level

-- the state in which the subject's current level is the one with that number, where there is a number
abbrev pub with_raised : (s : ℕ) → Option ℕ → State → State
with_raised s None v = v
with_raised s (Some level) v = record v { current = slice_set v.current s level }
