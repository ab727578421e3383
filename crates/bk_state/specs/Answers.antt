-- What a kernel call comes to: the answer, the values that the caller finds in its registers, and what changes.
use Rattle.std.specs.Prelude.{ℕ, suc, List, [], ◌∷◌, Option, Some, None, unwrap_or, slice_index, slice_set}
use Rattle.std.specs.FinMap as map
use Rattle.std.specs.FinSet as set
use Rattle.bk_path.specs.Paths.{path_cmp}
use Rattle.bk_process.specs.declared.process.Process.{Process}
use Rattle.bk_state.specs.declared.call.Call.{Call}
use Rattle.bk_state.specs.declared.cause.CallCause.{CallCause}
use Rattle.bk_state.specs.declared.cause.CallCause.TheVariants.{NoCall}
use Rattle.bk_state.specs.State.{State, Object, triple_cmp, with_raised}
use Rattle.bk_state.specs.Causes.{cause_number, answer_number}
use Rattle.bk_state.specs.Request.{request_in}
use Rattle.bk_state.specs.Calls.{call_of, definition_of, call_refusal}

-- the number of the level that becomes the caller's current one where the answer is yes, if the call raises it
abbrev pub raised_by : Call → (general : List ℕ) → Option ℕ
raised_by call general = (definition_of call).raises (request_in general)

-- the state after a call by the subject that is answered yes, but for the caller's process
unfoldable pub outcome : State → (s : ℕ) → Call → (general : List ℕ) → State
outcome v s call general = with_raised s (raised_by call general) ((definition_of call).changes v s (request_in general))

-- the number of a subject's current level after a call that raises it to that one, or doesn't raise it
abbrev pub level_after : State → (s : ℕ) → Option ℕ → ℕ
level_after v s raised = unwrap_or raised (slice_index v.current s)

-- the values of R0 and those after it where the answer is yes
unfoldable pub reply : State → (s : ℕ) → Call → (general : List ℕ) → List ℕ
reply v s call general = (definition_of call).gives v s (request_in general)

-- the line and the byte that goes out where the answer is yes
abbrev pub sent_by : State → Call → (general : List ℕ) → Option (ℕ × ℕ)
sent_by v call general = (definition_of call).sends v (request_in general)

-- the registers from n on take these values
abbrev pub taking_from : (n : ℕ) → (values general : List ℕ) → List ℕ
taking_from n [] general = general
taking_from n (value ∷ values) general = taking_from (suc n) values (slice_set general n value)

-- the process finds these values in R0 and the registers after it
abbrev pub with_values : (values : List ℕ) → Process → Process
with_values values p = record p { registers = record p.registers { general = taking_from 0 values p.registers.general } }

-- what changes of the caller's windows, fault entries and status where the answer is yes
abbrev pub with_call : Call → (general : List ℕ) → Process → Process
with_call call general p = (definition_of call).alters (request_in general) p

-- what a call comes to: objects and current access set, the number of the level to which the caller's current one is raised,
-- the caller's process, why not (None for yes), the byte sent
pub record Called : Type 0 where
  pub objects : map.FinMap path_cmp Object
  pub access : set.FinSet triple_cmp
  pub raised : Option ℕ
  pub process : Process
  pub cause : Option CallCause
  pub sent : Option (ℕ × ℕ)

-- a refused call changes R0 and R1 alone
abbrev pub refused : State → Process → CallCause → Called
refused v p cause = record {
  objects = v.objects;
  access = v.access;
  raised = None;
  process = with_values (answer_number cause ∷ cause_number cause ∷ []) p;
  cause = Some cause;
  sent = None;
}

-- a call that is answered yes
abbrev pub answered_yes : State → (s : ℕ) → Process → Call → Called
answered_yes v s p call = record {
  objects = (outcome v s call p.registers.general).objects;
  access = (outcome v s call p.registers.general).access;
  raised = raised_by call p.registers.general;
  process = with_values (reply v s call p.registers.general) (with_call call p.registers.general p);
  cause = None;
  sent = sent_by v call p.registers.general;
}

-- a call by its refusal, if it has one
abbrev pub answered_by : State → (s : ℕ) → Process → Call → Option CallCause → Called
answered_by v s p call None = answered_yes v s p call
answered_by v s p call (Some cause) = refused v p cause

-- a call by its definition, if there is such a call
abbrev pub called_by : State → (s : ℕ) → Process → Option Call → Called
called_by v s p None = refused v p NoCall
called_by v s p (Some call) = answered_by v s p call (call_refusal v s call p.registers.general)

-- the call of that number, by the subject, whose process is p
unfoldable pub called : State → (s : ℕ) → Process → (number : ℕ) → Called
called v s p number = called_by v s p (call_of number)
