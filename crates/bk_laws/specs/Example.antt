-- A state of two levels of which it can be told by hand what the lower one sees: a subject and a line at each level; root at the
-- lower; below root, at the higher level, a mailbox in which a message waits, and a directory over another mailbox.
use Rattle.std.specs.Prelude.{ℕ, List, [], ◌∷◌}
use Rattle.std.specs.FinMap as map
use Rattle.std.specs.FinSet as set
use Rattle.bk_level.specs.Levels.{Level, lowest}
use Rattle.bk_path.specs.Paths.{Path}
use Rattle.bk_object.specs.Modes.{Read}
use Rattle.bk_object.specs.Rows.{empty_row}
use Rattle.bk_object.specs.declared.Kind.{Kind}
use Rattle.bk_object.specs.declared.Kind.TheVariants.{Directory, Mailbox}
use Rattle.bk_object.specs.declared.Facts.{Facts}
use Rattle.bk_report.specs.declared.ReportItem.{ReportItem}
use Rattle.bk_report.specs.declared.ReportItem.TheVariants.{Byte}
use Rattle.bk_state.specs.Smallest.{only_process}
use Rattle.bk_state.specs.State.{State, Object, Contents, Children, Messages}
use Rattle.bk_system.specs.Event.{Event, Turn}

-- the higher of the two levels
abbrev pub higher : Level
higher = record { class = 1; categories = [] }

-- the facts of an object of that kind, level and quota, with an empty row
abbrev pub facts_with : Kind → (level quota : ℕ) → Facts
facts_with kind level quota = record { kind = kind; blocks = 0; level = level; quota = quota; row = empty_row }

-- one message waits, and none was lost
abbrev pub one_waits : Contents
one_waits = Messages ((1 ∷ 2 ∷ 3 ∷ 4 ∷ []) ∷ []) 0

-- a root, a mailbox above it in which a message waits, and an upgraded directory with an empty mailbox
abbrev pub example_objects : List (Path × Object)
example_objects =
    ([], record { facts = facts_with Directory 0 16; contents = Children })
    ∷ (5 ∷ [], record { facts = facts_with Mailbox 1 0; contents = one_waits })
    ∷ (6 ∷ [], record { facts = facts_with Directory 1 4; contents = Children })
    ∷ (0 ∷ 6 ∷ [], record { facts = facts_with Mailbox 1 0; contents = Messages [] 0 })
    ∷ []

-- two subjects, one at each level, of which the lower may raise its own; each holds root by read
abbrev pub example : State
example = record {
  fixed = record {
    levels = lowest ∷ higher ∷ [];
    subjects = 1 ∷ 1 ∷ [];
    lines = 0 ∷ 1 ∷ [];
    turns = 1;
    schedule = 0 ∷ 1 ∷ [];
  };
  current = 0 ∷ 1 ∷ [];
  objects = map.from_sorted example_objects;
  access = set.from_list ((0, [], Read) ∷ (1, [], Read) ∷ []);
  processes = only_process ∷ only_process ∷ [];
}

-- a turn of that subject
abbrev pub turn_by : (subject : ℕ) → Event
turn_by subject = Turn (record { slot = 0; turn = 0; subject = subject })

-- a byte that went out on that line
abbrev pub byte_on : (line : ℕ) → ReportItem
byte_on line = Byte 0 0 line 0o101
