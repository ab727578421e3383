-- Events, one at a time: bytes arrive, a subject has a turn, a slot ends.
use Rattle.std.specs.Prelude.{ℕ, List, [], ◌∷◌, map}
use Rattle.bk_process.specs.declared.process.Process.{Process}
use Rattle.bk_process.specs.declared.status.Status9.{Status9}
use Rattle.bk_process.specs.declared.status.Status9.TheVariants.{Running, Paused, Stopped}
use Rattle.bk_state.specs.State.{State}
use Rattle.bk_system.specs.declared.at.At.{At}
use Rattle.bk_system.specs.Arrivals.{arrived}
use Rattle.bk_system.specs.Step.{Step, nothing, joined}
use Rattle.bk_system.specs.Turn.{turn_of}

-- bytes arrive on a line; a turn is a subject's; a slot ends
pub data Event : Type 0 where
  Arrive : (line : ℕ) (bytes : List ℕ) → Event
  Turn : (at : At) → Event
  EndSlot : Event

-- a paused process runs again
abbrev pub resumed : Status9 → Status9
resumed Running = Running
resumed Paused = Running
resumed (Stopped cause) = Stopped cause

-- a process whose pause ends
abbrev pub with_resumed : Process → Process
with_resumed p = record p { status = resumed p.status }

-- a slot ends: each paused process runs again
unfoldable pub slot_ended : State → State
slot_ended v = record v { processes = map with_resumed v.processes }

-- what an event comes to
unfoldable pub happens : State → Event → Step
happens v (Arrive line bytes) = nothing (arrived v line bytes)
happens v (Turn at) = turn_of at v
happens v EndSlot = nothing (slot_ended v)

-- all the events, one after another
abbrev pub all_happen : State → List Event → Step
all_happen v [] = nothing v
all_happen v (event ∷ events) = joined (happens v event) (all_happen (happens v event).state events)
