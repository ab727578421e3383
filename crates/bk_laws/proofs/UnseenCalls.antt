-- No kernel call of a subject that is not under a level changes what lies under it, or sends a byte on a line under it.
use Rattle.std.proofs.Common.{◌≡◌, ℕ, ◌<◌, ◌%◌, true, false, List, [], length, Option, Some, None, refl, sym, ap, subst}
use Rattle.std.specs.Prelude.{slice_index, slice_set}
use Rattle.bk_level.specs.Levels.{Level, dominates, level_at}
use Rattle.bk_object.specs.Modes.{AccessMode, Read, Execute, Write, Append}
use Rattle.bk_object.specs.Rows.{given}
use Rattle.bk_process.specs.declared.process.Process.{Process}
use Rattle.bk_state.specs.declared.rule.Rule.TheVariants.{GetRead, GetAppend, GetExecute, GetWrite, Release, Give, Rescind, Create, DeleteGroup, RaiseLevel}
use Rattle.bk_state.specs.declared.call.Call.{Call}
use Rattle.bk_state.specs.declared.call.Call.TheVariants.{ByRule, Other}
use Rattle.bk_state.specs.declared.call.Service.TheVariants.{Window, Unwindow, Deposit, Send, Receive, LineOut, LineIn, Entry, Identify, Quota, Pause}
use Rattle.bk_state.specs.declared.call.Service.TheVariants.{SetFaultEntry, Stop}
use Rattle.bk_state.specs.State.{State, find, current_level}
use Rattle.bk_state.specs.Secure.{Secure}
use Rattle.bk_state.specs.declared.cause.CallCause.{CallCause}
use Rattle.bk_state.specs.Request.{Request, register, request_in}
use Rattle.bk_state.specs.Calls.{call_of, definition_of, call_refusal}
use Rattle.bk_state.specs.KernelCall.{KernelCall}
use Rattle.bk_state.specs.RowCalls.{give, rescind}
use Rattle.bk_state.specs.SegmentCalls.{deposit}
use Rattle.bk_state.specs.AccessCalls.{get_read, get_append, get_execute, get_write, release, with_triple}
use Rattle.bk_state.specs.TreeCalls.{create, delete_group}
use Rattle.bk_state.specs.LevelCalls.{raise_level}
use Rattle.bk_state.specs.Answers.{outcome, level_after, raised_by, Called, answered_by, called_by, called}
use Rattle.bk_state.specs.QueueCalls.{send, receive, line_out, line_in}
use Rattle.bk_system.specs.declared.at.At.{At}
use Rattle.bk_system.specs.Turn.{byte_item}
use Rattle.bk_laws.specs.Seen.{seen_items}
use Rattle.bk_laws.proofs.Changes.{with_changes, set_itself}
use Rattle.bk_state.specs.Low.{is_subject_under, low}
use Rattle.bk_laws.proofs.Tests.{Passes, passed, not_refused, not_false, some_same}
use Rattle.bk_laws.proofs.Alike.{low_from_alike}
use Rattle.bk_laws.proofs.UnseenChanges.{hidden_path, row_changed, row_rescinded, created, contents_by_call, unseen_line}
use Rattle.bk_laws.proofs.Unseen.{alike_without_group}
use Rattle.bk_laws.proofs.UnseenLevels.{unseen_raised}
use Rattle.bk_laws.proofs.Unseen.{alike_with_triple, alike_release, high_by_write, high_object}

-- what a call comes to leaves what lies under the level, and sends no byte on a line under it
pub record CallsUnseen (level : Level) (v : State) (s : ℕ) (at : At) (call : Called) : Type 0 where
  pub state : low level v ≡ low level (record v { objects = call.objects; access = call.access; current = slice_set v.current s (level_after v s call.raised) })
  pub byte : seen_items level v (byte_item at call.sent) ≡ []

-- a subject that is there, and not under the level
module _ (level : Level) (v : State) (sec : Secure v) (s : ℕ) (real : s < length v.fixed.subjects) (blind : is_subject_under level v s ≡ false) where
  -- ---- each call that is answered yes

  record Unseen (call : KernelCall) (request : Request) : Type 0 where
    state : low level v ≡ low level (with_changes v (call.changes v s request))
    byte : (at : At) → seen_items level v (byte_item at (call.sends v request)) ≡ []

  -- the subject holds something more, which its own view alone shows
  got : (request : Request) (mode : AccessMode) → low level v ≡ low level (with_triple v s request.path mode)
  got request mode = low_from_alike level v _ _ _ _ (alike_with_triple level v sec s real blind request.path mode)

  get_read-unseen : (request : Request) → Unseen get_read request
  get_read-unseen request = record { state = got request Read; byte = λ at. refl }

  get_append-unseen : (request : Request) → Unseen get_append request
  get_append-unseen request = record { state = got request Append; byte = λ at. refl }

  get_execute-unseen : (request : Request) → Unseen get_execute request
  get_execute-unseen request = record { state = got request Execute; byte = λ at. refl }

  get_write-unseen : (request : Request) → Unseen get_write request
  get_write-unseen request = record { state = got request Write; byte = λ at. refl }

  release-unseen : (request : Request) → Unseen release request
  release-unseen request = record {
    state = low_from_alike level v _ _ _ _ (alike_release level v sec s real blind request.path request.modes);
    byte = λ at. refl;
  }

  give-unseen : (request : Request) → Passes v s give request → Unseen give request
  give-unseen request none = record {
    state =
        let (path, (bad, (named, (there, (kind, (root, (write, end))))))) = passed v s give request none in
        row_changed level v sec s real blind request.path (given request.subject request.modes) (find v request.path) refl (hidden_path level v sec s real blind request.path root (not_false _ write));
    byte = λ at. refl;
  }

  rescind-unseen : (request : Request) → Passes v s rescind request → Unseen rescind request
  rescind-unseen request none = record {
    state =
        let (path, (bad, (named, (there, (kind, (root, (write, end))))))) = passed v s rescind request none in
        row_rescinded level v sec s real blind request.path request.subject request.modes (find v request.path) refl (hidden_path level v sec s real blind request.path root (not_false _ write));
    byte = λ at. refl;
  }

  create-unseen : (request : Request) → Passes v s create request → Unseen create request
  create-unseen request none = record {
    state =
        let (path, (bad, (named, (root, (write, (falls, (free, (quota, end)))))))) = passed v s create request none in
        created level v sec s real blind request request.path root (not_false _ write) (not_false _ falls);
    byte = λ at. refl;
  }

  delete_group-unseen : (request : Request) → Passes v s delete_group request → Unseen delete_group request
  delete_group-unseen request none = record {
    state =
        let (path, (named, (there, (root, (write, end))))) = passed v s delete_group request none in
        low_from_alike level v _ _ _ _ (alike_without_group level v sec request.path (hidden_path level v sec s real blind request.path root (not_false _ write)));
    byte = λ at. refl;
  }

  deposit-unseen : (request : Request) → Passes v s deposit request → Unseen deposit request
  deposit-unseen request none = record {
    state =
        let (path, (bad, (named, (there, (kind, (held, (long, end))))))) = passed v s deposit request none in
        contents_by_call level v sec s real blind request.path _ (high_object level v sec s real blind request.path (not_false _ held));
    byte = λ at. refl;
  }

  send-unseen : (request : Request) → Passes v s send request → Unseen send request
  send-unseen request none = record {
    state =
        let (path, (named, (there, (kind, (held, end))))) = passed v s send request none in
        contents_by_call level v sec s real blind request.path _ (high_object level v sec s real blind request.path (not_false _ held));
    byte = λ at. refl;
  }

  receive-unseen : (request : Request) → Passes v s receive request → Unseen receive request
  receive-unseen request none = record {
    state =
        let (path, (named, (there, (kind, (held, (empty, end)))))) = passed v s receive request none in
        contents_by_call level v sec s real blind request.path _ (high_by_write level v sec s real blind request.path (not_false _ held));
    byte = λ at. refl;
  }

  line_out-unseen : (request : Request) → Passes v s line_out request → Unseen line_out request
  line_out-unseen request none = record {
    state = refl;
    byte = λ at.
        let (path, (named, (there, (kind, (held, end))))) = passed v s line_out request none in
        unseen_line level v sec s real blind at (register request 3 % 256) request.path (find v request.path) refl (high_object level v sec s real blind request.path (not_false _ held));
  }

  line_in-unseen : (request : Request) → Passes v s line_in request → Unseen line_in request
  line_in-unseen request none = record {
    state =
        let (path, (named, (there, (kind, (held, (empty, end)))))) = passed v s line_in request none in
        contents_by_call level v sec s real blind request.path _ (high_by_write level v sec s real blind request.path (not_false _ held));
    byte = λ at. refl;
  }

  each_unseen : (call : Call) (request : Request) → Passes v s (definition_of call) request → Unseen (definition_of call) request
  each_unseen (ByRule GetRead) request none = get_read-unseen request
  each_unseen (ByRule GetAppend) request none = get_append-unseen request
  each_unseen (ByRule GetExecute) request none = get_execute-unseen request
  each_unseen (ByRule GetWrite) request none = get_write-unseen request
  each_unseen (ByRule Release) request none = release-unseen request
  each_unseen (ByRule Give) request none = give-unseen request none
  each_unseen (ByRule Rescind) request none = rescind-unseen request none
  each_unseen (ByRule Create) request none = create-unseen request none
  each_unseen (ByRule DeleteGroup) request none = delete_group-unseen request none
  each_unseen (Other Deposit) request none = deposit-unseen request none
  each_unseen (Other Send) request none = send-unseen request none
  each_unseen (Other Receive) request none = receive-unseen request none
  each_unseen (Other LineOut) request none = line_out-unseen request none
  each_unseen (Other LineIn) request none = line_in-unseen request none
  -- these change nothing and send nothing
  each_unseen (ByRule RaiseLevel) request none = record { state = refl; byte = λ at. refl }
  each_unseen (Other Window) request none = record { state = refl; byte = λ at. refl }
  each_unseen (Other Unwindow) request none = record { state = refl; byte = λ at. refl }
  each_unseen (Other Entry) request none = record { state = refl; byte = λ at. refl }
  each_unseen (Other Identify) request none = record { state = refl; byte = λ at. refl }
  each_unseen (Other Quota) request none = record { state = refl; byte = λ at. refl }
  each_unseen (Other Pause) request none = record { state = refl; byte = λ at. refl }
  each_unseen (Other SetFaultEntry) request none = record { state = refl; byte = λ at. refl }
  each_unseen (Other Stop) request none = record { state = refl; byte = λ at. refl }

  -- the level that the subject comes to have, if it raises its own, dominates the one that it had
  each_high : (call : Call) (request : Request) → Passes v s (definition_of call) request → (n : ℕ) → (definition_of call).raises request ≡ Some n →
      dominates (level_at v.fixed.levels n) (current_level v s) ≡ true
  each_high (ByRule RaiseLevel) request none n is =
      let (listed, (under, (above, (star, end)))) = passed v s raise_level request none in
      subst (λ k. dominates (level_at v.fixed.levels k) (current_level v s) ≡ true) (some_same is) (not_false _ above)
  each_high (ByRule GetRead) request none n is = cc
  each_high (ByRule GetAppend) request none n is = cc
  each_high (ByRule GetExecute) request none n is = cc
  each_high (ByRule GetWrite) request none n is = cc
  each_high (ByRule Release) request none n is = cc
  each_high (ByRule Give) request none n is = cc
  each_high (ByRule Rescind) request none n is = cc
  each_high (ByRule Create) request none n is = cc
  each_high (ByRule DeleteGroup) request none n is = cc
  each_high (Other Window) request none n is = cc
  each_high (Other Unwindow) request none n is = cc
  each_high (Other Deposit) request none n is = cc
  each_high (Other Send) request none n is = cc
  each_high (Other Receive) request none n is = cc
  each_high (Other LineOut) request none n is = cc
  each_high (Other LineIn) request none n is = cc
  each_high (Other Entry) request none n is = cc
  each_high (Other Identify) request none n is = cc
  each_high (Other Quota) request none n is = cc
  each_high (Other Pause) request none n is = cc
  each_high (Other SetFaultEntry) request none n is = cc
  each_high (Other Stop) request none n is = cc

  -- ---- the call

  unseen_outcome : (call : Call) (general : List ℕ) → Passes v s (definition_of call) (request_in general) →
      low level v ≡ low level (record (with_changes v (outcome v s call general)) { current = slice_set v.current s (level_after v s (raised_by call general)) })
  unfolding outcome
  unseen_outcome call general none = unseen_raised level v ((definition_of call).changes v s (request_in general)) s blind ((definition_of call).raises (request_in general))
      (each_high call (request_in general) none) (each_unseen call (request_in general) none).state

  -- a refused call leaves the level
  unseen_refused : low level v ≡ low level (record v { current = slice_set v.current s (slice_index v.current s) })
  unseen_refused = ap (λ current. low level (record v { current = current })) (sym (set_itself v.current s))

  unseen_answered : (at : At) (p : Process) (call : Call) (cause : Option CallCause) → call_refusal v s call p.registers.general ≡ cause → CallsUnseen level v s at (answered_by v s p call cause)
  unseen_answered at p call None is = record {
    state = unseen_outcome call p.registers.general (not_refused v s call p.registers.general is);
    byte = (each_unseen call (request_in p.registers.general) (not_refused v s call p.registers.general is)).byte at;
  }
  unseen_answered at p call (Some cause) is = record { state = unseen_refused; byte = refl }

  unseen_called_by : (at : At) (p : Process) (call : Option Call) → CallsUnseen level v s at (called_by v s p call)
  unseen_called_by at p None = record { state = unseen_refused; byte = refl }
  unseen_called_by at p (Some call) = unseen_answered at p call (call_refusal v s call p.registers.general) refl

  -- whatever the call's number
  pub unseen_called : (at : At) (p : Process) (number : ℕ) → CallsUnseen level v s at (called v s p number)
  unfolding called
  unseen_called at p number = unseen_called_by at p (call_of number)
