-- What a level sees of events and of items: what is of subjects and lines under it. Each event is seen, or not, in the state in
-- which it comes.
use Rattle.std.specs.Prelude.{Bool, true, false, List, [], ◌∷◌, ◌++◌, filter, if◌then◌else◌}
use Rattle.bk_level.specs.Levels.{Level}
use Rattle.bk_report.specs.declared.ReportItem.{ReportItem}
use Rattle.bk_report.specs.declared.ReportItem.TheVariants as items
use Rattle.bk_state.specs.State.{State}
use Rattle.bk_state.specs.Low.{is_subject_under, is_line_under}
use Rattle.bk_system.specs.Event.{Event, Arrive, Turn, EndSlot, happens}

-- a turn of a subject under the level, an arrival on a line under it, or the end of a slot
abbrev pub is_seen : Level → State → Event → Bool
is_seen level v (Arrive line bytes) = is_line_under level v line
is_seen level v (Turn at) = is_subject_under level v at.subject
is_seen level v EndSlot = true

-- the events that are seen in the states in which they come, of which the first comes in v
abbrev pub seen_events : Level → State → List Event → List Event
seen_events level v [] = []
seen_events level v (event ∷ events) =
    if is_seen level v event then event ∷ seen_events level (happens v event).state events else seen_events level (happens v event).state events

-- a call or a fault of a subject under the level, or a byte on a line under it
abbrev pub is_seen_item : Level → State → ReportItem → Bool
is_seen_item level v (items.Call slot turn s number general answer cause) = is_subject_under level v s
is_seen_item level v (items.Fault slot turn s cause pc entered) = is_subject_under level v s
is_seen_item level v (items.Byte slot turn line byte) = is_line_under level v line
is_seen_item level v (items.End slots turns references calls) = false

-- what is seen of the items that one event gives in the state v
abbrev pub seen_items : Level → State → List ReportItem → List ReportItem
seen_items level v told = filter (is_seen_item level v) told

-- what is seen of the items that events give, each in the state in which its event comes
abbrev pub seen_told : Level → State → List Event → List ReportItem
seen_told level v [] = []
seen_told level v (event ∷ events) = seen_items level v (happens v event).items ++ seen_told level (happens v event).state events
