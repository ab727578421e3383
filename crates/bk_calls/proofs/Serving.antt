-- What was made of a service that was refused, or that was answered yes.
use Rattle.std.proofs.Common.{◌≡◌, ℕ, Bool, true, false, List, [], ◌∷◌, ◌++◌, Some, None, Result, Ok, Err, refl, sym, ap, subst, ◌∙◌}
use Rattle.std.specs.Prelude.{find as first, if◌then◌else◌}
use Rattle.bk_process.specs.declared.process.Process.{Process}
use Rattle.bk_state.specs.declared.call.Call.{Call}
use Rattle.bk_state.specs.declared.call.Call.TheVariants.{Other}
use Rattle.bk_state.specs.declared.call.Service.{Service}
use Rattle.bk_state.specs.declared.call.Service.TheVariants.{Window, Unwindow, Deposit, Send, Receive, LineOut, LineIn, Entry, Identify, Quota}
use Rattle.bk_state.specs.declared.call.Service.TheVariants.{Pause, SetFaultEntry, Stop}
use Rattle.bk_state.specs.declared.cause.CallCause.{CallCause}
use Rattle.bk_state.specs.declared.cause.CallCause.TheVariants.{TooLong, Empty}
use Rattle.bk_state.specs.Causes.{answer_number, cause_number}
use Rattle.bk_state.specs.Calls.{call_fails, call_refusal}
use Rattle.bk_state.specs.Answers.{answered_by, answered_yes, with_values}
use Rattle.bk_store.specs.Stored.{Stored, objects_of}
use Rattle.bk_calls.specs.Made.{answer_of, seen_by, made_by, IsMade}
use Rattle.bk_calls.specs.Reached.{front, front_refusal, IsReached, Reaches}
use Rattle.bk_calls.specs.declared.reach.Reached.{Reached}
use Rattle.bk_calls.specs.declared.caller.Caller.{Caller}
use Rattle.bk_calls.specs.declared.reply.Reply.{Reply}

-- where none of the first checks fails, the others decide
first-later : {A : Type 0} (f : A → Bool) (early late : List A) → first f early ≡ None → first f (early ++ late) ≡ first f late
first-later f [] late none = refl
first-later f (a ∷ early) late none = by (f a) none (first-later f early late)
  where
    by : (b : Bool) → (if b then Some a else first f early) ≡ None → (first f early ≡ None → first f (early ++ late) ≡ first f late) → (if b then Some a else first f (early ++ late)) ≡ first f late
    by true e rest = cc
    by false e rest = rest e

-- and else they decide
first-early : {A : Type 0} (f : A → Bool) (early late : List A) (x : A) → first f early ≡ Some x → first f (early ++ late) ≡ Some x
first-early f [] late x some = cc
first-early f (a ∷ early) late x some = by (f a) some (first-early f early late x)
  where
    by : (b : Bool) → (if b then Some a else first f early) ≡ Some x → (first f early ≡ Some x → first f (early ++ late) ≡ Some x) → (if b then Some a else first f (early ++ late)) ≡ Some x
    by true e rest = e
    by false e rest = rest e

-- the last check of a service
abbrev pub last_check : Service → List CallCause
last_check Window = []
last_check Unwindow = []
last_check Deposit = TooLong ∷ []
last_check Send = []
last_check Receive = Empty ∷ []
last_check LineOut = []
last_check LineIn = Empty ∷ []
last_check Entry = Empty ∷ []
last_check Identify = []
last_check Quota = []
last_check Pause = []
last_check SetFaultEntry = []
last_check Stop = []

-- a service that is for an object
abbrev pub is_of_object : Service → Bool
is_of_object Window = true
is_of_object Unwindow = false
is_of_object Deposit = true
is_of_object Send = true
is_of_object Receive = true
is_of_object LineOut = true
is_of_object LineIn = true
is_of_object Entry = true
is_of_object Identify = false
is_of_object Quota = true
is_of_object Pause = false
is_of_object SetFaultEntry = false
is_of_object Stop = false

module _ (caller : Caller) (store : Stored) (words : List ℕ) where
  abbrev pub fails : Service → List ℕ → CallCause → Bool
  fails service general = call_fails (seen_by caller store words) caller.subject (Other service) general

  checks-split : (service : Service) (general : List ℕ) → is_of_object service ≡ true →
      call_refusal (seen_by caller store words) caller.subject (Other service) general ≡ first (fails service general) (front ++ last_check service)
  unfolding call_refusal
  checks-split Window general h = refl
  checks-split Unwindow general h = cc
  checks-split Deposit general h = refl
  checks-split Send general h = refl
  checks-split Receive general h = refl
  checks-split LineOut general h = refl
  checks-split LineIn general h = refl
  checks-split Entry general h = refl
  checks-split Identify general h = cc
  checks-split Quota general h = refl
  checks-split Pause general h = cc
  checks-split SetFaultEntry general h = cc
  checks-split Stop general h = cc

  -- what the front refuses, the call refuses
  pub refused-early : (service : Service) (general : List ℕ) (cause : CallCause) → is_of_object service ≡ true →
      front_refusal caller store words service general ≡ Some cause →
      call_refusal (seen_by caller store words) caller.subject (Other service) general ≡ Some cause
  refused-early service general cause h e = checks-split service general h ∙ first-early (fails service general) front (last_check service) cause e

  -- past the front, the last check decides
  pub decided-late : (service : Service) (general : List ℕ) → is_of_object service ≡ true → front_refusal caller store words service general ≡ None →
      call_refusal (seen_by caller store words) caller.subject (Other service) general ≡ first (fails service general) (last_check service)
  decided-late service general h e = checks-split service general h ∙ first-later (fails service general) front (last_check service) e

  module _ (process process_after : Process) (reply : Reply) (call : Call) where
    -- a refused call, after which the objects stand as before
    pub refused-after : (after : Stored) (cause : CallCause) → objects_of after words ≡ objects_of store words → after.access ≡ store.access → after.levels ≡ store.levels → after.lines ≡ store.lines →
        call_refusal (seen_by caller store words) caller.subject call process.registers.general ≡ Some cause →
        process_after ≡ with_values (answer_number cause ∷ cause_number cause ∷ []) process → reply ≡ record { answer = answer_of (Some cause); sent = None; level = None } →
        IsMade store after words words process_after reply (made_by caller store words process call)
    refused-after after cause objects access levels lines refusal became told =
        subst (λ o. IsMade store after words words process_after reply (answered_by (seen_by caller store words) caller.subject process call o)) (sym refusal) (record {
          objects = objects;
          access = access;
          levels = levels;
          lines = lines;
          process = became;
          answer = ap (λ (r : Reply). r.answer) told;
          sent = ap (λ (r : Reply). r.sent) told;
          level = ap (λ (r : Reply). r.level) told;
          kernel = refl;
        })

    pub refused-made : (cause : CallCause) → call_refusal (seen_by caller store words) caller.subject call process.registers.general ≡ Some cause →
        process_after ≡ with_values (answer_number cause ∷ cause_number cause ∷ []) process → reply ≡ record { answer = answer_of (Some cause); sent = None; level = None } →
        IsMade store store words words process_after reply (made_by caller store words process call)
    refused-made cause = refused-after store cause refl refl refl refl

    -- a call that none of its checks refuses
    pub agreed-made : (after : Stored) (words_after : List ℕ) → call_refusal (seen_by caller store words) caller.subject call process.registers.general ≡ None →
        IsMade store after words words_after process_after reply (answered_yes (seen_by caller store words) caller.subject process call) →
        IsMade store after words words_after process_after reply (made_by caller store words process call)
    agreed-made after words_after none made = subst (λ o. IsMade store after words words_after process_after reply (answered_by (seen_by caller store words) caller.subject process call o)) (sym none) made

  -- what was told where the object isn't reached
  told : (service : Service) (general : List ℕ) (r : Result Reached CallCause) (cause : CallCause) → Reaches caller store service general r → r ≡ Err cause → front_refusal caller store words service general ≡ Some cause
  told service general r cause reaches is = let reach : Reaches caller store service general (Err cause) = subst (λ (x : Result Reached CallCause). Reaches caller store service general x) is reaches in reach words

  -- and what was found where it is
  pub found : (service : Service) (general : List ℕ) (r : Result Reached CallCause) (reached : Reached) → Reaches caller store service general r → r ≡ Ok reached → IsReached store service general reached
  found service general r reached reaches is = let reach : Reaches caller store service general (Ok reached) = subst (λ (x : Result Reached CallCause). Reaches caller store service general x) is reaches in reach.0

  pub decided : (service : Service) (general : List ℕ) (r : Result Reached CallCause) (reached : Reached) → is_of_object service ≡ true → Reaches caller store service general r → r ≡ Ok reached →
      call_refusal (seen_by caller store words) caller.subject (Other service) general ≡ first (fails service general) (last_check service)
  decided service general r reached h reaches is = let reach : Reaches caller store service general (Ok reached) = subst (λ (x : Result Reached CallCause). Reaches caller store service general x) is reaches in decided-late service general h (reach.1 words)

  -- a service whose object isn't reached
  pub refused-reach : (process process_after : Process) (reply : Reply) (service : Service) (r : Result Reached CallCause) (cause : CallCause) → is_of_object service ≡ true →
      Reaches caller store service process.registers.general r → r ≡ Err cause →
      process_after ≡ with_values (answer_number cause ∷ cause_number cause ∷ []) process → reply ≡ record { answer = answer_of (Some cause); sent = None; level = None } →
      IsMade store store words words process_after reply (made_by caller store words process (Other service))
  refused-reach process process_after reply service r cause h reaches is =
      refused-made process process_after reply (Other service) cause (refused-early service process.registers.general cause h (told service process.registers.general r cause reaches is))
