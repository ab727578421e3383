-- At which levels a subject may hold an object: the simple security condition and the *-property.
use Rattle.std.specs.Prelude.{ℕ, Bool, true, ◌&&◌, ◌||◌, not, ◌==◌, Option, Some, None}
use Rattle.std.specs.List.{list_all}
use Rattle.std.specs.FinSet as set
use Rattle.bk_level.specs.Levels.{Level, dominates, is_same_level, level_at}
use Rattle.bk_object.specs.Modes.{AccessMode, Read, Execute, Write, Append}
use Rattle.bk_object.specs.declared.Facts.{Facts}
use Rattle.bk_quota.specs.Charges.{passes}
use Rattle.bk_state.specs.State.{State, facts_at, current_level, greatest_level, level_of}

-- the simple security condition: for r, e and w the subject's greatest level dominates the object's
abbrev pub is_simple : AccessMode → (greatest object : Level) → Bool
is_simple Read greatest object = dominates greatest object
is_simple Execute greatest object = dominates greatest object
is_simple Write greatest object = dominates greatest object
is_simple Append greatest object = true

-- the *-property: for r and e the subject's current level dominates the object's, for w it is the object's, and for a the
-- object's dominates it
abbrev pub is_star : AccessMode → (current object : Level) → Bool
is_star Read current object = dominates current object
is_star Execute current object = dominates current object
is_star Write current object = is_same_level object current
is_star Append current object = dominates object current

-- a subject with these levels may hold an object of this level by the mode
abbrev pub allows : AccessMode → (greatest current object : Level) → Bool
allows mode greatest current object = is_simple mode greatest object && is_star mode current object

-- a subject may hold an object in a mode: by its own levels and the object's
abbrev pub is_allowed : State → (s : ℕ) → Facts → AccessMode → Bool
is_allowed v s facts mode = allows mode (greatest_level v s) (current_level v s) (level_of v facts)

-- of a mode that may not be asked for: the test where there is one
abbrev pub by_mode : (AccessMode → Bool) → Option AccessMode → Bool
by_mode test None = true
by_mode test (Some mode) = test mode

-- the *-property of the modes by which a subject puts something into an object; reading down stays allowed as a level rises
abbrev pub is_star_of_putting : AccessMode → (current object : Level) → Bool
is_star_of_putting Read current object = true
is_star_of_putting Execute current object = true
is_star_of_putting Write current object = is_star Write current object
is_star_of_putting Append current object = is_star Append current object

-- what the subject holds by w and by a may be held at the level with that number too
abbrev pub may_rise : State → (s : ℕ) → (level : ℕ) → Bool
may_rise v s level = list_all
    (λ t. not (t.0 == s) || passes (λ facts. is_star_of_putting t.2 (level_at v.fixed.levels level) (level_of v facts)) (facts_at v t.1))
    (set.items v.access)
