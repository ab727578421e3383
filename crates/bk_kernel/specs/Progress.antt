-- How far a kernel has come: the state, the slots that have ended, the turns since the last one ended, and the totals.
-- A count stands still at the last value of its type.
use Rattle.std.specs.Prelude.{◌≡◌, ℕ, zero, suc, ◌+◌, ◌-◌, ◌^◌, ◌<◌, min, max, List, [], ◌++◌, Option}
use Rattle.std.specs.Io.KnownBytes.{Appends}
use Rattle.bk_base.specs.Written.{IsFront}
use Rattle.bk_machine.specs.Machine.{MachineState}
use Rattle.bk_report.specs.declared.item.ReportItem.{ReportItem}
use Rattle.bk_report.specs.Text.{lines_of}
use Rattle.bk_state.specs.State.{State}
use Rattle.bk_system.specs.declared.script.TypedAt.{TypedAt}
use Rattle.bk_system.specs.Step.{Step}
use Rattle.bk_system.specs.Turn.{turn_of}
use Rattle.bk_system.specs.Event.{slot_ended}
use Rattle.bk_system.specs.Loops.{all_arrived}
use Rattle.bk_system.specs.Slot.{slot_of, subject_of}
use Rattle.bk_system.specs.Report.{calls_in}
use Rattle.bk_kernel.specs.Tables.{TablesState}

-- how far a run has come: its state, the slots that ended, the turns since the last one ended, and the sums for its last line
pub record Progress : Type 0 where
  pub state : State
  pub slots : ℕ
  pub since : ℕ
  pub turns : ℕ
  pub references : ℕ
  pub calls : ℕ

-- how far it has come, the machine, and the number of the subject that is loaded in it
pub record KernelState : Type 0 where
  pub progress : Progress
  pub machine : MachineState
  pub loaded : ℕ

-- of what the tables stand for, with the totals; the machine counts the references
abbrev pub kernel_from : TablesState → (slots since turns calls : ℕ) → KernelState
kernel_from tables slots since turns calls = record {
  progress = record { state = tables.state; slots = slots; since = since; turns = turns; references = tables.machine.references; calls = calls };
  machine = tables.machine;
  loaded = tables.loaded;
}

-- a count of so many bits that rises, but not past its last value, and never falls
abbrev pub raised : (bits count more : ℕ) → ℕ
raised bits count more = max count (min (count + more) (2 ^ bits - 1))

-- at the beginning nothing is counted
abbrev pub begun : State → Progress
begun v = record { state = v; slots = 0; since = 0; turns = 0; references = 0; calls = 0 }

-- after turns of a slot that came to that step
abbrev pub with_turns : Progress → Step → (turns : ℕ) → Progress
with_turns p step turns = record {
  state = step.state;
  slots = p.slots;
  since = raised 16 p.since turns;
  turns = raised 32 p.turns turns;
  references = raised 64 p.references step.references;
  calls = raised 32 p.calls (calls_in step.items);
}

-- the turn that comes next, of the subject
abbrev pub next_turn : Progress → (subject : ℕ) → Step
next_turn p subject = turn_of (record { slot = p.slots; turn = p.since; subject = subject }) p.state

unfoldable pub after_turn : Progress → (subject : ℕ) → Progress
after_turn p subject = with_turns p (next_turn p subject) 1

-- one more slot has ended, and left this state
abbrev pub with_slot : Progress → State → Progress
with_slot p v = record p { state = v; slots = raised 32 p.slots 1; since = 0 }

-- the slot ends, and a pause with it
unfoldable pub after_end : Progress → Progress
after_end p = with_slot p (slot_ended p.state)

-- what was typed at a slot has arrived
abbrev pub with_arrived : Progress → List TypedAt → Progress
with_arrived p records = record p { state = all_arrived p.state records }

-- the slot that comes next, with these records
abbrev pub next_slot : Progress → List TypedAt → Step
next_slot p records = slot_of p.slots p.state records

unfoldable pub after_slot : Progress → List TypedAt → Progress
after_slot p records = with_slot (with_turns p (next_slot p records) p.state.fixed.turns) (next_slot p records).state

-- within the next slot, at which these records arrive: after so many of its turns
abbrev pub within_slot : Progress → List TypedAt → (turns : ℕ) → Progress
within_slot p records zero = with_arrived p records
within_slot p records (suc n) = after_turn (within_slot p records n) (subject_of p.state.fixed p.slots)

-- the turn that comes next in it
abbrev pub turn_within : Progress → List TypedAt → (turns : ℕ) → Step
turn_within p records n = next_turn (within_slot p records n) (subject_of p.state.fixed p.slots)

-- the items of so many of its turns
abbrev pub items_within : Progress → List TypedAt → (turns : ℕ) → List ReportItem
items_within p records zero = []
items_within p records (suc n) = items_within p records n ++ (turn_within p records n).items

-- a write failed in the next slot, in the turn after so many, which has been made too: what went out is the text of the
-- turns before it and a front of its own, no further turn is made, and the slot hasn't ended
pub record IsCutOff (p now : Progress) (records : List TypedAt) (before after : Option (List ℕ)) : Type 0 where
  pub turns : ℕ
  pub own : turns < p.state.fixed.turns
  pub made : now ≡ within_slot p records (suc turns)
  pub front : List ℕ
  pub of_last : IsFront front (lines_of (turn_within p records turns).items)
  pub written : Appends before after (lines_of (items_within p records turns) ++ front)
