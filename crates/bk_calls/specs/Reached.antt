-- What a service finds at the path that it is asked for, once all but its last check have passed.
use Rattle.std.specs.Prelude.{◌≡◌, ℕ, Bool, true, List, [], ◌∷◌, Option, Some, None, Result, Ok, Err, find as first}
use Rattle.bk_object.specs.Kinds.{is_directory, is_segment, is_mailbox, is_any_line}
use Rattle.bk_object.specs.Modes.{AccessMode, Read, Execute, Write, Append, no_modes}
use Rattle.bk_object.specs.declared.Kind.{Kind}
use Rattle.bk_state.specs.State.{State}
use Rattle.bk_state.specs.Request.{path_in, request_in}
use Rattle.bk_state.specs.Calls.{call_fails, service_call}
use Rattle.bk_state.specs.declared.call.Call.TheVariants.{Other}
use Rattle.bk_state.specs.declared.call.Service.{Service}
use Rattle.bk_state.specs.declared.cause.CallCause.{CallCause}
use Rattle.bk_state.specs.declared.cause.CallCause.TheVariants.{NoPath, BadArgument, NotNamed, NoObject, WrongKind, NotHeld}
use Rattle.bk_store.specs.Stored.{Stored, facts_in}
use Rattle.bk_calls.specs.Made.{seen_by}
use Rattle.bk_calls.specs.declared.caller.Caller.{Caller}
use Rattle.bk_calls.specs.declared.reach.Asked.{Asked}
use Rattle.bk_calls.specs.declared.reach.Needs.{Needs}
use Rattle.bk_calls.specs.declared.reach.Needs.TheVariants as needed
use Rattle.bk_calls.specs.declared.reach.Reached.{Reached}
use Rattle.bk_calls.specs.declared.reach.Sort.{Sort}
use Rattle.bk_calls.specs.declared.reach.Sort.TheVariants as sorts

-- the kind is of the sort
abbrev pub is_of : Sort → Kind → Bool
is_of sorts.Directory kind = is_directory kind
is_of sorts.Segment kind = is_segment kind
is_of sorts.Mailbox kind = is_mailbox kind
is_of sorts.Line kind = is_any_line kind

-- the modes of which one has to be held
abbrev pub modes_in : Needs → List AccessMode
modes_in needed.Write = Write ∷ []
modes_in needed.ReadOrWrite = Read ∷ Write ∷ []
modes_in needed.WriteOrAppend = Write ∷ Append ∷ []
modes_in needed.ReadExecuteOrWrite = Read ∷ Execute ∷ Write ∷ []

-- what is asked is what the service asks for, of these registers
pub record Suits (asked : Asked) (service : Service) (general : List ℕ) : Type 0 where
  pub wrong : (v : State) → (service_call service).is_wrong v (request_in general) ≡ asked.is_wrong
  pub modes : (service_call service).modes (request_in general) ≡ no_modes
  pub sort : (kind : Kind) → (service_call service).is_for kind ≡ is_of asked.sort kind
  pub needs : (service_call service).needs ≡ modes_in asked.needs

-- the checks that come before the last one of a service; a check that a service doesn't list never fails for it
abbrev pub front : List CallCause
front = NoPath ∷ BadArgument ∷ NotNamed ∷ NoObject ∷ WrongKind ∷ NotHeld ∷ []

-- the first of them that fails
abbrev pub front_refusal : Caller → Stored → (words : List ℕ) → Service → (general : List ℕ) → Option CallCause
front_refusal caller store words service general = first (call_fails (seen_by caller store words) caller.subject (Other service) general) front

-- an object of the service's kind is at the path
pub record IsReached (store : Stored) (service : Service) (general : List ℕ) (reached : Reached) : Type 0 where
  pub path : path_in general ≡ reached.path
  pub facts : facts_in store reached.path ≡ Some reached.facts
  pub kind : (service_call service).is_for reached.facts.kind ≡ true

-- the object is reached where no check fails, and else the cause is told
abbrev pub Reaches : Caller → Stored → Service → (general : List ℕ) → Result Reached CallCause → Type 0
Reaches caller store service general (Ok reached) = IsReached store service general reached × ((words : List ℕ) → front_refusal caller store words service general ≡ None)
Reaches caller store service general (Err cause) = (words : List ℕ) → front_refusal caller store words service general ≡ Some cause
