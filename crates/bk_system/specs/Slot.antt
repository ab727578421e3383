-- A slot and a run, as lists of events.
use Rattle.std.specs.Prelude.{ℕ, ◌%◌, List, [], ◌∷◌, ◌++◌, length, map, flat_map, filter, ◌==◌, slice_index}
use Rattle.std.specs.List.{range_with_len}
use Rattle.bk_state.specs.declared.image.Image.{Image}
use Rattle.bk_state.specs.State.{State, Fixed}
use Rattle.bk_state.specs.Start.{state_of}
use Rattle.bk_system.specs.declared.script.TypedAt.{TypedAt}
use Rattle.bk_system.specs.Step.{Step}
use Rattle.bk_system.specs.Event.{Event, Arrive, Turn, EndSlot, all_happen}

-- the subject of a slot: the schedule from its front again and again
abbrev pub subject_of : Fixed → (slot : ℕ) → ℕ
subject_of fixed slot = slice_index fixed.schedule (slot % length fixed.schedule)

-- the events of a slot: its records arrive in their order, its subject has the turns of a slot, it ends
abbrev pub slot_events : Fixed → (slot : ℕ) → List TypedAt → List Event
slot_events fixed slot records =
    map (λ r. Arrive r.line r.bytes) records
    ++ map (λ turn. Turn (record { slot = slot; turn = turn; subject = subject_of fixed slot })) (range_with_len 0 fixed.turns)
    ++ EndSlot ∷ []

-- one slot, with its own records
unfoldable pub slot_of : (slot : ℕ) → State → List TypedAt → Step
slot_of slot v records = all_happen v (slot_events v.fixed slot records)

-- the script's records for a slot
abbrev pub records_for : (slot : ℕ) → List TypedAt → List TypedAt
records_for slot records = filter (λ r. r.slot == slot) records

-- the events of the first n slots
abbrev pub run_events : Fixed → List TypedAt → (n : ℕ) → List Event
run_events fixed records n = flat_map (λ slot. slot_events fixed slot (records_for slot records)) (range_with_len 0 n)

-- a run of n slots from an image
unfoldable pub run_of : Image → List TypedAt → (n : ℕ) → Step
run_of image records n = all_happen (state_of image) (run_events (state_of image).fixed records n)
