-- The numbers that the items of a run tell.
use Rattle.std.proofs.Common.{◌≡◌, ℕ, ◌%◌, ◌<◌, ◌≤◌, ◌^◌, Bool, true, false, List, [], ◌∷◌, length, Option, Some, None, refl, sym, subst, arith}
use Rattle.std.specs.Prelude.{slice_index, ⊤}
use Rattle.std.specs.List.{AllByRecursion}
use Rattle.bk_path.specs.Paths.{Path}
use Rattle.bk_object.specs.declared.Kind.{Kind}
use Rattle.bk_object.specs.declared.Kind.TheVariants.{Directory, Segment, Mailbox, Line}
use Rattle.bk_object.specs.declared.Facts.{Facts}
use Rattle.bk_exec.specs.declared.event.Event as event
use Rattle.bk_exec.specs.declared.event.Event.TheVariants as ends
use Rattle.bk_exec.specs.Exec.{Done, exec}
use Rattle.bk_process.specs.declared.process.Process.{Process}
use Rattle.bk_process.specs.declared.status.Status9.{Status9}
use Rattle.bk_process.specs.declared.status.Status9.TheVariants.{Running, Paused, Stopped}
use Rattle.bk_report.specs.declared.ReportItem.{ReportItem}
use Rattle.bk_report.specs.Text.{IsNumbered}
use Rattle.bk_space.specs.AddrSpace.{applied}
use Rattle.bk_space.specs.declared.cause.Cause as fault
use Rattle.bk_space.specs.declared.cause.Cause.TheVariants as faults
use Rattle.bk_state.specs.declared.call.Call.{Call}
use Rattle.bk_state.specs.declared.call.Call.TheVariants.{ByRule, Other}
use Rattle.bk_state.specs.declared.call.Service.TheVariants.{Window, Unwindow, Deposit, Send, Receive, LineOut, LineIn, Entry, Identify, Quota}
use Rattle.bk_state.specs.declared.call.Service.TheVariants.{Pause, SetFaultEntry, Stop}
use Rattle.bk_state.specs.declared.rule.Rule.TheVariants.{GetRead, GetAppend, GetExecute, GetWrite, Release, Give, Rescind, Create, DeleteGroup, RaiseLevel}
use Rattle.bk_system.specs.declared.at.At.{At}
use Rattle.bk_state.specs.State.{State, Object, Contents, Children, Words, Messages, Typed, find, process_of}
use Rattle.bk_state.specs.Secure.{Secure, FitsKind}
use Rattle.bk_state.specs.declared.cause.CallCause.{CallCause}
use Rattle.bk_state.specs.declared.cause.CallCause.TheVariants.{NotInRow, AboveGreatest, WrongCurrent, NoParentWrite, LevelFalls, Taken, OverQuota}
use Rattle.bk_state.specs.declared.cause.CallCause.TheVariants.{NotHeld, Empty, TooLong, IsRoot, NoCall, NoPath, NotNamed, WrongKind, BadArgument}
use Rattle.bk_state.specs.declared.cause.CallCause.TheVariants.{NoObject, StarProperty}
use Rattle.bk_state.specs.Causes.{cause_number, cause_in}
use Rattle.bk_state.specs.Calls.{call_of, definition_of, call_refusal}
use Rattle.bk_state.specs.Request.{Request, register, request_in}
use Rattle.bk_state.specs.Answers.{called, called_by, answered_by}
use Rattle.bk_state.specs.QueueCalls.{byte_on}
use Rattle.bk_system.specs.Turn.{byte_item, fault_number, faulted, is_reflected, ended, executed, turn_by, turn_of_process, turn_of, written}
use Rattle.bk_system.specs.Event.{Event, Arrive, Turn, EndSlot, happens, all_happen}
use Rattle.bk_system.proofs.FixedPart.{applied-fixed}
use Rattle.bk_system.specs.Space.{space_of}
use Rattle.bk_laws.specs.Laws.{LawSecure}
use Rattle.bk_laws.proofs.SecureContents.{secure_applied}
use Rattle.bk_laws.proofs.SecureProcesses.{process_subject}
use Rattle.bk_laws.proofs.Tests.{every-append}

-- the numbers of all of them
abbrev pub Numbered : List ReportItem → Type 0
Numbered told = AllByRecursion IsNumbered told

cause_small : (cause : CallCause) → cause_number cause < 2 ^ 64
cause_small NotInRow = omega arith
cause_small AboveGreatest = omega arith
cause_small WrongCurrent = omega arith
cause_small NoParentWrite = omega arith
cause_small LevelFalls = omega arith
cause_small Taken = omega arith
cause_small OverQuota = omega arith
cause_small NotHeld = omega arith
cause_small Empty = omega arith
cause_small TooLong = omega arith
cause_small IsRoot = omega arith
cause_small NoCall = omega arith
cause_small NoPath = omega arith
cause_small NotNamed = omega arith
cause_small WrongKind = omega arith
cause_small BadArgument = omega arith
cause_small NoObject = omega arith
cause_small StarProperty = omega arith

cause_in_small : (cause : Option CallCause) → cause_in cause < 2 ^ 64
cause_in_small None = omega arith
cause_in_small (Some cause) = cause_small cause

fault_small : (cause : fault.Cause) → fault_number cause < 2 ^ 64
fault_small faults.Odd = omega arith
fault_small faults.NonResident = omega arith
fault_small faults.Length = omega arith
fault_small faults.ReadOnly = omega arith
fault_small faults.Reserved = omega arith
fault_small faults.Break = omega arith
fault_small faults.Iot = omega arith
fault_small faults.Trap = omega arith

-- ---- a byte goes out on a line of the image

-- what a byte is sent on is a line of the image
abbrev IsOnLine : State → Option (ℕ × ℕ) → Type 0
IsOnLine v None = ⊤
IsOnLine v (Some sent) = sent.0 < length v.fixed.lines

module _ (v : State) (sec : Secure v) where
  -- an object of a kind that fits sends on a line of the image
  on_kind : (byte : ℕ) (kind : Kind) (facts : Facts) (contents : Contents) → FitsKind v.fixed kind facts contents →
      IsOnLine v (byte_on byte (Some (record { facts = record facts { kind = kind }; contents = contents })))
  on_kind byte Directory facts contents fits = tt
  on_kind byte Segment facts contents fits = tt
  on_kind byte Mailbox facts contents fits = tt
  on_kind byte (Line n) facts Children fits = absurd fits
  on_kind byte (Line n) facts (Words words) fits = absurd fits
  on_kind byte (Line n) facts (Messages waiting lost) fits = absurd fits
  on_kind byte (Line n) facts (Typed bytes) fits = fits.2

  on_line : (byte : ℕ) (path : Path) (o : Option Object) → find v path ≡ o → IsOnLine v (byte_on byte o)
  on_line byte path None is = tt
  on_line byte path (Some object) is = on_kind byte object.facts.kind object.facts object.contents (sec.kinds path object is)

  -- no call but line out sends a byte
  each_line : (call : Call) (request : Request) → IsOnLine v ((definition_of call).sends v request)
  each_line (Other LineOut) request = on_line (register request 3 % 256) request.path (find v request.path) refl
  each_line (ByRule GetRead) request = tt
  each_line (ByRule GetAppend) request = tt
  each_line (ByRule GetExecute) request = tt
  each_line (ByRule GetWrite) request = tt
  each_line (ByRule Release) request = tt
  each_line (ByRule Give) request = tt
  each_line (ByRule Rescind) request = tt
  each_line (ByRule Create) request = tt
  each_line (ByRule DeleteGroup) request = tt
  each_line (ByRule RaiseLevel) request = tt
  each_line (Other Window) request = tt
  each_line (Other Unwindow) request = tt
  each_line (Other Deposit) request = tt
  each_line (Other Send) request = tt
  each_line (Other Receive) request = tt
  each_line (Other LineIn) request = tt
  each_line (Other Entry) request = tt
  each_line (Other Identify) request = tt
  each_line (Other Quota) request = tt
  each_line (Other Pause) request = tt
  each_line (Other SetFaultEntry) request = tt
  each_line (Other Stop) request = tt

  called_line : (s : ℕ) (p : Process) (number : ℕ) → IsOnLine v (called v s p number).sent
  unfolding called
  called_line s p number = by_call (call_of number)
    where
      by_cause : (call : Call) (cause : Option CallCause) → IsOnLine v (answered_by v s p call cause).sent
      by_cause call None = each_line call (request_in p.registers.general)
      by_cause call (Some cause) = tt

      by_call : (call : Option Call) → IsOnLine v (called_by v s p call).sent
      by_call None = tt
      by_call (Some call) = by_cause call (call_refusal v s call p.registers.general)

-- ---- the items of a turn

-- the numbers of a turn are told whole
abbrev pub IsAtNumbered : At → Type 0
IsAtNumbered at = (at.slot < 2 ^ 64) × (at.turn < 2 ^ 64)

module _ (at : At) (small : IsAtNumbered at) where
  byte_numbered : (v : State) → Secure v → length v.fixed.lines ≤ 256 → (sent : Option (ℕ × ℕ)) → IsOnLine v sent → Numbered (byte_item at sent)
  byte_numbered v sec lines None on = tt
  byte_numbered v sec lines (Some sent) on = ((small.0, small.1, omega (arith, lines, on)), tt)

  module _ (subjects : at.subject < 2 ^ 64) where
    ended_numbered : (v : State) → Secure v → length v.fixed.lines ≤ 256 → (p : Process) (references : ℕ) (outcome : event.Event) → Numbered (ended v at p references outcome).items
    ended_numbered v sec lines p references ends.Ran = tt
    ended_numbered v sec lines p references (ends.Call number) =
        let c = called v at.subject p number in
        ((small.0, small.1, subjects, cause_in_small c.cause), byte_numbered v sec lines c.sent (called_line v sec at.subject p number))
    ended_numbered v sec lines p references (ends.Fault cause) = by (is_reflected v at.subject p (slice_index p.entries (fault_number cause)))
      where
        by : (reflected : Bool) → Numbered (faulted v at p (fault_number cause) references (slice_index p.entries (fault_number cause)) reflected).items
        by true = ((small.0, small.1, subjects, fault_small cause), tt)
        by false = ((small.0, small.1, subjects, fault_small cause), tt)

    executed_numbered : (v : State) → Secure v → length v.fixed.lines ≤ 256 → (p : Process) (x : Done) → Numbered (executed v at p x).items
    executed_numbered v sec lines p x =
        ended_numbered (applied (written p.windows) v x.write) (secure_applied p.windows v x.write sec)
        (subst (λ f. length f.lines ≤ 256) (sym (applied-fixed p.windows v x.write)) lines) (record p { registers = x.regs }) x.references x.outcome

    by_numbered : (v : State) → Secure v → length v.fixed.lines ≤ 256 → (p : Process) (status : Status9) → Numbered (turn_by v at p status).items
    by_numbered v sec lines p Running = executed_numbered v sec lines p (exec (space_of v at.subject p.windows) p.registers)
    by_numbered v sec lines p Paused = tt
    by_numbered v sec lines p (Stopped cause) = tt

  -- the items of a turn tell whole numbers of the slot, the turn, the subject, the line and the cause
  pub turn_numbered : (v : State) → Secure v → length v.fixed.lines ≤ 256 → length v.fixed.subjects ≤ 256 → Numbered (turn_of at v).items
  unfolding turn_of
  turn_numbered v sec lines subjects = by (process_of v at.subject) refl
    where
      by : (p : Option Process) → process_of v at.subject ≡ p → Numbered (turn_of_process v at p).items
      by None there = tt
      by (Some p) there = by_numbered (omega (arith, subjects, process_subject v at.subject p sec there)) v sec lines p p.status

-- ---- the items of a list of events

-- the event's numbers are told whole
abbrev pub IsEventNumbered : Event → Type 0
IsEventNumbered (Arrive line bytes) = ⊤
IsEventNumbered (Turn at) = IsAtNumbered at
IsEventNumbered EndSlot = ⊤

module _ (law_secure : LawSecure) where
  event_numbered : (v : State) → Secure v → length v.fixed.lines ≤ 256 → length v.fixed.subjects ≤ 256 → (e : Event) → IsEventNumbered e → Numbered (happens v e).items
  unfolding happens
  event_numbered v sec lines subjects (Arrive line bytes) small = tt
  event_numbered v sec lines subjects (Turn at) small = turn_numbered at small v sec lines subjects
  event_numbered v sec lines subjects EndSlot small = tt

  -- those of all items of a list of events that start from a secure state
  pub all_numbered : (v : State) → Secure v → length v.fixed.lines ≤ 256 → length v.fixed.subjects ≤ 256 → (es : List Event) → AllByRecursion IsEventNumbered es → Numbered (all_happen v es).items
  all_numbered v sec lines subjects [] small = tt
  all_numbered v sec lines subjects (e ∷ es) small =
      let kept = law_secure v e sec in
      every-append IsNumbered (happens v e).items (all_happen (happens v e).state es).items (event_numbered v sec lines subjects e small.0)
      (all_numbered (happens v e).state kept.secure (subst (λ f. length f.lines ≤ 256) (sym kept.fixed) lines) (subst (λ f. length f.subjects ≤ 256) (sym kept.fixed) subjects) es small.1)
