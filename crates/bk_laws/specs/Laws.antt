-- What holds of every event, and of every run.
use Rattle.std.specs.Prelude.{◌≡◌, ◌≤◌, ◌*◌, ℕ, List, [], true, false, length}
use Rattle.bk_level.specs.Levels.{Level}
use Rattle.bk_object.specs.Rows.{most_subjects}
use Rattle.bk_state.specs.declared.image.Image.{Image}
use Rattle.bk_report.specs.Lines.{line_records_of}
use Rattle.bk_state.specs.Limits.{most_lines, most_turns}
use Rattle.bk_state.specs.Low.{is_line_under, low}
use Rattle.bk_state.specs.Secure.{Secure}
use Rattle.bk_state.specs.Start.{state_of}
use Rattle.bk_state.specs.State.{State}
use Rattle.bk_system.specs.declared.script.TypedAt.{TypedAt}
use Rattle.bk_system.specs.Event.{Event, happens, all_happen}
use Rattle.bk_system.specs.Kept.{keep}
use Rattle.bk_system.specs.Limits.{most_slots, most_turns_of_run}
use Rattle.bk_system.specs.Report.{report_of}
use Rattle.bk_system.specs.Slot.{run_events}
use Rattle.bk_laws.specs.Seen.{is_seen, seen_events, seen_items, seen_told}

-- a secure state stays secure, and its fixed part stays
pub record KeepsSecure (v : State) (event : Event) : Type 0 where
  pub secure : Secure (happens v event).state
  pub fixed : (happens v event).state.fixed ≡ v.fixed

-- what is not seen at a level leaves what lies under it, and tells nothing of it
pub record HappensUnseen (level : Level) (v : State) (event : Event) : Type 0 where
  pub state : low level (happens v event).state ≡ low level v
  pub items : seen_items level v (happens v event).items ≡ []

-- what is seen at a level is seen, does the same and tells the same wherever the same lies under it
pub record HappensAlike (level : Level) (v w : State) (event : Event) : Type 0 where
  pub seen : is_seen level w event ≡ true
  pub state : low level (happens v event).state ≡ low level (happens w event).state
  pub items : (happens v event).items ≡ (happens w event).items

-- two runs end with the same under the level, and tell the same of it
pub record RunAlike (level : Level) (v w : State) (events others : List Event) : Type 0 where
  pub state : low level (all_happen v events).state ≡ low level (all_happen w others).state
  pub items : seen_told level v events ≡ seen_told level w others

-- every event keeps a secure state secure
abbrev pub LawSecure : Type 0
LawSecure = (v : State) (event : Event) → Secure v → KeepsSecure v event

-- so every state that is reached from a secure state is secure, with the same fixed part
abbrev pub LawReached : Type 0
LawReached = (v : State) (events : List Event) → Secure v → Secure (all_happen v events).state × ((all_happen v events).state.fixed ≡ v.fixed)

-- what a level does not see changes nothing that lies under it, and tells it nothing
abbrev pub LawUnseen : Type 0
LawUnseen = (level : Level) (v : State) (event : Event) → Secure v → is_seen level v event ≡ false → HappensUnseen level v event

-- what a level sees is decided by what lies under it
abbrev pub LawSeen : Type 0
LawSeen = (level : Level) (v w : State) (event : Event) → Secure v → Secure w → low level v ≡ low level w →
    is_seen level v event ≡ true → HappensAlike level v w event

-- so two runs that begin alike under a level, and of which it sees the same events, end alike under it and tell it the same
abbrev pub LawRuns : Type 0
LawRuns = (level : Level) (v w : State) (events others : List Event) → Secure v → Secure w → low level v ≡ low level w →
    seen_events level v events ≡ seen_events level w others → RunAlike level v w events others

-- the run from an image, and the run without the bytes typed on lines that are not under a level, end with the same under the
-- level and tell the same of it
abbrev pub LawKept : Type 0
LawKept = (level : Level) (image : Image) (records : List TypedAt) (n : ℕ) → Secure (state_of image) →
    RunAlike level (state_of image) (state_of image) (run_events (state_of image).fixed records n)
    (run_events (state_of image).fixed (keep level (state_of image) records) n)

-- the limits of an image and of the slots of a script for it
pub record IsLimited (image : Image) (n : ℕ) : Type 0 where
  pub subjects : length image.subjects ≤ most_subjects
  pub lines : image.lines ≤ most_lines
  pub turns : image.turns ≤ most_turns
  pub slots : n ≤ most_slots
  pub within : n * image.turns ≤ most_turns_of_run

-- so do the line records of its report: those of lines under a level are those of the report of the run without the bytes
-- typed on other lines
abbrev pub LawLines : Type 0
LawLines = (level : Level) (image : Image) (records : List TypedAt) (n : ℕ) → Secure (state_of image) → IsLimited image n →
    line_records_of (is_line_under level (state_of image)) (report_of image records n)
    ≡ line_records_of (is_line_under level (state_of image)) (report_of image (keep level (state_of image) records) n)
