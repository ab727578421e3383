-- Slots and runs as loops make them: the last turn last, the last slot last. That they are the folds over events is proved.
use Rattle.std.specs.Prelude.{ℕ, zero, suc, List, [], ◌∷◌}
use Rattle.bk_state.specs.State.{State}
use Rattle.bk_system.specs.declared.script.TypedAt.{TypedAt}
use Rattle.bk_system.specs.Arrivals.{arrived}
use Rattle.bk_system.specs.Event.{slot_ended}
use Rattle.bk_system.specs.Slot.{slot_of, records_for}
use Rattle.bk_system.specs.Step.{Step, nothing, joined}
use Rattle.bk_system.specs.Turn.{turn_of}

-- the records arrive in their order
abbrev pub all_arrived : State → List TypedAt → State
all_arrived v [] = v
all_arrived v (record_ ∷ records) = all_arrived (arrived v record_.line record_.bytes) records

-- the first n turns of a slot, which are the subject's
abbrev pub turns_of : (slot s : ℕ) → State → (n : ℕ) → Step
turns_of slot s v zero = nothing v
turns_of slot s v (suc n) =
    joined (turns_of slot s v n) (turn_of (record { slot = slot; turn = n; subject = s }) (turns_of slot s v n).state)

-- and then the slot ends
abbrev pub with_slot_ended : Step → Step
with_slot_ended step = record { state = slot_ended step.state; items = step.items; references = step.references }

-- the first n slots
abbrev pub slots_of : State → List TypedAt → (n : ℕ) → Step
slots_of v records zero = nothing v
slots_of v records (suc n) = joined (slots_of v records n) (slot_of n (slots_of v records n).state (records_for n records))
