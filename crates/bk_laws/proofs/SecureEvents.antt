-- Every event keeps a secure state secure.
use Rattle.std.proofs.Common.{◌≡◌, ℕ, Bool, true, false, List, [], ◌∷◌, Option, Some, None, refl, sym, ◌∙◌, subst}
use Rattle.std.specs.Prelude.{slice_set, slice_index}
use Rattle.bk_space.specs.AddrSpace.{applied}
use Rattle.bk_exec.specs.declared.event.Event as execution
use Rattle.bk_exec.specs.declared.event.Event.TheVariants as ends
use Rattle.bk_exec.specs.Exec.{exec}
use Rattle.bk_process.specs.declared.process.Process.{Process}
use Rattle.bk_process.specs.declared.status.Status9.{Status9}
use Rattle.bk_process.specs.declared.status.Status9.TheVariants.{Running, Paused, Stopped}
use Rattle.bk_state.specs.declared.call.Call.{Call}
use Rattle.bk_state.specs.Causes.{answer_number, cause_number}
use Rattle.bk_state.specs.declared.cause.CallCause.TheVariants.{NoCall}
use Rattle.bk_state.specs.State.{State, process_of}
use Rattle.bk_state.specs.Secure.{Secure}
use Rattle.bk_state.specs.declared.cause.CallCause.{CallCause}
use Rattle.bk_state.specs.Calls.{call_of, definition_of, call_refusal}
use Rattle.bk_state.specs.Request.{request_in}
use Rattle.bk_state.specs.Answers.{Called, outcome, level_after, raised_by, reply, with_call, answered_by, called_by, called}
use Rattle.bk_system.specs.Event.{Event, Arrive, Turn, EndSlot, happens}
use Rattle.bk_system.specs.Turn.{written, with_process, with_pushes, fault_number, is_reflected, entered, faulted, ended, turn_by}
use Rattle.bk_system.specs.Turn.{turn_of_process, turn_of}
use Rattle.bk_system.specs.declared.at.At.{At}
use Rattle.bk_laws.proofs.Changes.{with_changes, raised-is, set_itself}
use Rattle.bk_system.proofs.FixedPart.{happens-fixed}
use Rattle.bk_system.specs.Space.{space_of}
use Rattle.bk_laws.specs.Laws.{KeepsSecure, LawReached}
use Rattle.bk_laws.proofs.Tests.{not_refused}
use Rattle.bk_laws.proofs.SecureFrame.{IsSound}
use Rattle.bk_laws.proofs.SecureProcesses.{secure_with_process, secure_slot_ended, process_sound, sound_with_values, sound_executed}
use Rattle.bk_laws.proofs.SecureCalls.{each_keeps}
use Rattle.bk_laws.proofs.SecureContents.{secure_applied, secure_with_pushes, secure_arrived}

-- ---- kernel calls

secure_outcome : (v : State) (s : ℕ) (call : Call) (general : List ℕ) → Secure v → call_refusal v s call general ≡ None → Secure (outcome v s call general)
unfolding outcome
secure_outcome v s call general sec none = (each_keeps call).secure v s general sec (not_refused v s call general none)

-- objects and current access set of another state, and a level of the subject
abbrev joined_with : State → (w : State) (s level : ℕ) → State
joined_with v w s level = record (with_changes v w) { current = slice_set v.current s level }

outcome-changes : (v : State) (s : ℕ) (call : Call) (general : List ℕ) → outcome v s call general ≡ joined_with v (outcome v s call general) s (level_after v s (raised_by call general))
unfolding outcome
outcome-changes v s call general =
    raised-is v ((definition_of call).changes v s (request_in general)) s ((definition_of call).raises (request_in general)) ((each_keeps call).changes v s (request_in general))

-- and one process that is another
secure_joined : (v w : State) (s level : ℕ) (p : Process) → w ≡ joined_with v w s level → Secure w → IsSound p → Secure (with_process (joined_with v w s level) s p)
secure_joined v w s level p changes sec sound = secure_with_process (joined_with v w s level) s p (subst Secure changes sec) sound

abbrev left_by : State → (s : ℕ) → Called → State
left_by v s c = record v { objects = c.objects; access = c.access; current = slice_set v.current s (level_after v s c.raised); processes = slice_set v.processes s c.process }

-- the level stays, and one process is another
secure_refused : (v : State) (s : ℕ) (p : Process) → Secure v → IsSound p → Secure (record v { current = slice_set v.current s (slice_index v.current s); processes = slice_set v.processes s p })
secure_refused v s p sec sound =
    subst (λ current. Secure (record v { current = current; processes = slice_set v.processes s p })) (sym (set_itself v.current s)) (secure_with_process v s p sec sound)

module _ (v : State) (at : At) (p : Process) (sec : Secure v) (sound : IsSound p) where
  secure_answered : (call : Call) (o : Option CallCause) → call_refusal v at.subject call p.registers.general ≡ o → Secure (left_by v at.subject (answered_by v at.subject p call o))
  secure_answered call None is =
      secure_joined v (outcome v at.subject call p.registers.general) at.subject (level_after v at.subject (raised_by call p.registers.general)) _ (outcome-changes v at.subject call p.registers.general)
      (secure_outcome v at.subject call p.registers.general sec is)
      (sound_with_values (reply v at.subject call p.registers.general) (with_call call p.registers.general p)
      ((each_keeps call).sound v at.subject (request_in p.registers.general) p (not_refused v at.subject call p.registers.general is) sound))
  secure_answered call (Some cause) is = secure_refused v at.subject _ sec (sound_with_values (answer_number cause ∷ cause_number cause ∷ []) p sound)

  secure_called_by : (o : Option Call) → Secure (left_by v at.subject (called_by v at.subject p o))
  secure_called_by None = secure_refused v at.subject _ sec (sound_with_values (answer_number NoCall ∷ cause_number NoCall ∷ []) p sound)
  secure_called_by (Some call) = secure_answered call (call_refusal v at.subject call p.registers.general) refl

  secure_called : (number : ℕ) → Secure (left_by v at.subject (called v at.subject p number))
  unfolding called
  secure_called number = secure_called_by (call_of number)

  -- ---- what an instruction ends as

  secure_faulted : (number references entry : ℕ) (reflected : Bool) → Secure (faulted v at p number references entry reflected).state
  secure_faulted number references entry true = secure_with_process (with_pushes v p) at.subject (entered p entry) (secure_with_pushes v p sec) sound
  secure_faulted number references entry false = secure_with_process v at.subject (record p { status = Stopped number }) sec sound

  secure_ended : (references : ℕ) (event : execution.Event) → Secure (ended v at p references event).state
  secure_ended references ends.Ran = secure_with_process v at.subject p sec sound
  secure_ended references (ends.Call number) = secure_called number
  secure_ended references (ends.Fault cause) =
      secure_faulted (fault_number cause) references (slice_index p.entries (fault_number cause)) (is_reflected v at.subject p (slice_index p.entries (fault_number cause)))

-- ---- turns

secure_turn_of_process : (v : State) (at : At) (o : Option Process) → process_of v at.subject ≡ o → Secure v → Secure (turn_of_process v at o).state
secure_turn_of_process v at None is sec = sec
secure_turn_of_process v at (Some p) is sec = by p.status
  where
    by : (status : Status9) → Secure (turn_by v at p status).state
    by Running =
        let x = exec (space_of v at.subject p.windows) p.registers in
        secure_ended (applied (written p.windows) v x.write) at (record p { registers = x.regs }) (secure_applied p.windows v x.write sec)
        (sound_executed (space_of v at.subject p.windows) p (process_sound v at.subject p sec is)) x.references x.outcome
    by Paused = sec
    by (Stopped cause) = sec

secure_turn : (at : At) (v : State) → Secure v → Secure (turn_of at v).state
unfolding turn_of
secure_turn at v sec = secure_turn_of_process v at (process_of v at.subject) refl sec

-- ---- events

pub secure_happens : (v : State) (event : Event) → Secure v → Secure (happens v event).state
unfolding happens
secure_happens v (Arrive line bytes) sec = secure_arrived v line bytes sec
secure_happens v (Turn at) sec = secure_turn at v sec
secure_happens v EndSlot sec = secure_slot_ended v sec

-- the law
pub law_secure : (v : State) (event : Event) → Secure v → KeepsSecure v event
law_secure v event sec = record { secure = secure_happens v event sec; fixed = happens-fixed v event }

-- a list of events keeps a secure state secure
pub law_reached : LawReached
law_reached v [] sec = (sec, refl)
law_reached v (event ∷ events) sec =
    let kept = law_secure v event sec in
    let after = law_reached (happens v event).state events kept.secure in
    (after.0, after.1 ∙ kept.fixed)
