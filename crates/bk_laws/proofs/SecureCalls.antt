-- What each kernel call changes on yes keeps a secure state secure, leaves the fixed part and the processes, and leaves the
-- caller's process sound.
use Rattle.std.proofs.Common.{◌≡◌, ℕ, ◌/◌, ◌%◌, Bool, true, false, ◌||◌, ◌==◌, nat_le, List, None, refl, sym, ap, ◌∙◌, subst, arith, length-set}
use Rattle.std.proofs.lemmas.Bool.Decides.{nat_tests}
use Rattle.bk_object.specs.Modes.{Read, Execute, Write, Append}
use Rattle.bk_object.specs.Rows.{given, rescinded}
use Rattle.bk_process.specs.NewProcess.{entries_of_process}
use Rattle.bk_process.specs.declared.process.Process.{Process}
use Rattle.bk_state.specs.declared.rule.Rule.TheVariants.{GetRead, GetAppend, GetExecute, GetWrite, Release, Give, Rescind, Create, DeleteGroup, RaiseLevel}
use Rattle.bk_state.specs.declared.call.Call.{Call}
use Rattle.bk_state.specs.declared.call.Call.TheVariants.{ByRule, Other}
use Rattle.bk_state.specs.declared.call.Service.TheVariants.{Window, Unwindow, Deposit, Send, Receive, LineOut, LineIn, Entry, Identify, Quota}
use Rattle.bk_state.specs.declared.call.Service.TheVariants.{Pause, SetFaultEntry, Stop}
use Rattle.bk_state.specs.State.{State, facts_at, with_raised}
use Rattle.bk_state.specs.Contents.{with_contents, with_word, put, without_message, without_byte}
use Rattle.bk_state.specs.Secure.{Secure}
use Rattle.bk_state.specs.Request.{Request, register, request_in}
use Rattle.bk_state.specs.KernelCall.{KernelCall}
use Rattle.bk_state.specs.AccessCalls.{get_read, get_append, get_execute, get_write, release, without_triples}
use Rattle.bk_state.specs.RowCalls.{give, rescind, with_row}
use Rattle.bk_state.specs.TreeCalls.{create, delete_group}
use Rattle.bk_state.specs.SegmentCalls.{window, unwindow, deposit}
use Rattle.bk_state.specs.QueueCalls.{send, receive, line_out, line_in, message_in}
use Rattle.bk_state.specs.TellingCalls.{entry, identify, quota}
use Rattle.bk_state.specs.ProcessCalls.{pause, set_fault_entry, stop}
use Rattle.bk_state.specs.LevelCalls.{raise_level}
use Rattle.bk_state.specs.Calls.{definition_of}
use Rattle.bk_laws.proofs.Tests.{Passes, passed, not_false, passes_both}
use Rattle.bk_laws.proofs.Changes.{with_changes, changed_at-changes}
use Rattle.bk_laws.proofs.Fits.{fits_with_word, fits_put, fits_without_message, fits_without_byte}
use Rattle.bk_laws.proofs.SecureFrame.{IsSound, is_even}
use Rattle.bk_laws.proofs.SecureAccess.{secure_got, secure_retain}
use Rattle.bk_laws.proofs.SecureRows.{secure_give, secure_rescind}
use Rattle.bk_laws.proofs.SecureNew.{secure_create}
use Rattle.bk_laws.proofs.SecureGroup.{secure_delete_group}
use Rattle.bk_laws.proofs.SecureContents.{secure_contents}
use Rattle.bk_laws.proofs.SecureProcesses.{all_set, still_whole}
use Rattle.bk_laws.proofs.Rising.{secure_raised}

-- what is to be shown of a call
pub record CallKeeps (call : KernelCall) : Type 0 where
  pub secure : (v : State) (s : ℕ) (general : List ℕ) → Secure v → Passes v s call (request_in general) →
      Secure (with_raised s (call.raises (request_in general)) (call.changes v s (request_in general)))
  pub changes : (v : State) (s : ℕ) (request : Request) → call.changes v s request ≡ with_changes v (call.changes v s request)
  pub sound : (v : State) (s : ℕ) (request : Request) (p : Process) → Passes v s call request → IsSound p → IsSound (call.alters request p)

-- a call that changes nothing but what it tells
changes_nothing : (call : KernelCall) → ((v : State) (s : ℕ) (request : Request) → call.changes v s request ≡ v) → ((request : Request) → call.raises request ≡ None) →
    ((request : Request) (p : Process) → call.alters request p ≡ p) → CallKeeps call
changes_nothing call same lies still = record {
  secure = λ v s general sec none. subst Secure (λ i. with_raised s (sym (lies (request_in general)) i) (sym (same v s (request_in general)) i)) sec;
  changes = λ v s request. same v s request ∙ sym (ap (with_changes v) (same v s request));
  sound = λ v s request p none sound. subst IsSound (sym (still request p)) sound;
}

-- ---- the rules

get_read-keeps : CallKeeps get_read
get_read-keeps = record {
  secure = λ v s general sec none.
      let (path, (named, (there, (kind, (row, (greatest, (current, end))))))) = passed v s get_read (request_in general) none in
      secure_got v s (request_in general).path Read sec (not_false _ named) (not_false _ row)
      (passes_both _ _ (facts_at v (request_in general).path) (not_false _ greatest) (not_false _ current));
  changes = λ v s request. refl;
  sound = λ v s request p none sound. sound;
}

-- the greatest level is not asked for
get_append-keeps : CallKeeps get_append
get_append-keeps = record {
  secure = λ v s general sec none.
      let (path, (named, (there, (kind, (row, (current, end)))))) = passed v s get_append (request_in general) none in
      secure_got v s (request_in general).path Append sec (not_false _ named) (not_false _ row) (not_false _ current);
  changes = λ v s request. refl;
  sound = λ v s request p none sound. sound;
}

get_execute-keeps : CallKeeps get_execute
get_execute-keeps = record {
  secure = λ v s general sec none.
      let (path, (named, (there, (kind, (row, (greatest, (current, end))))))) = passed v s get_execute (request_in general) none in
      secure_got v s (request_in general).path Execute sec (not_false _ named) (not_false _ row)
      (passes_both _ _ (facts_at v (request_in general).path) (not_false _ greatest) (not_false _ current));
  changes = λ v s request. refl;
  sound = λ v s request p none sound. sound;
}

get_write-keeps : CallKeeps get_write
get_write-keeps = record {
  secure = λ v s general sec none.
      let (path, (named, (there, (kind, (row, (greatest, (current, end))))))) = passed v s get_write (request_in general) none in
      secure_got v s (request_in general).path Write sec (not_false _ named) (not_false _ row)
      (passes_both _ _ (facts_at v (request_in general).path) (not_false _ greatest) (not_false _ current));
  changes = λ v s request. refl;
  sound = λ v s request p none sound. sound;
}

release-keeps : CallKeeps release
release-keeps = record {
  secure = λ v s general sec none. secure_retain v _ sec;
  changes = λ v s request. refl;
  sound = λ v s request p none sound. sound;
}

give-keeps : CallKeeps give
give-keeps = record {
  secure = λ v s general sec none. secure_give v s general sec none;
  changes = λ v s request. changed_at-changes v request.path (with_row (given request.subject request.modes));
  sound = λ v s request p none sound. sound;
}

rescind-keeps : CallKeeps rescind
rescind-keeps = record {
  secure = λ v s general sec none. secure_rescind v s (request_in general) sec;
  changes = λ v s request.
      changed_at-changes (without_triples v request.subject request.path request.modes) request.path (with_row (rescinded request.subject request.modes));
  sound = λ v s request p none sound. sound;
}

create-keeps : CallKeeps create
create-keeps = record {
  secure = λ v s general sec none. secure_create v s general sec none;
  changes = λ v s request. refl;
  sound = λ v s request p none sound. sound;
}

delete_group-keeps : CallKeeps delete_group
delete_group-keeps = record {
  secure = λ v s general sec none. secure_delete_group v s (request_in general) sec none;
  changes = λ v s request. refl;
  sound = λ v s request p none sound. sound;
}

-- ---- calls that are for segments

window-keeps : CallKeeps window
window-keeps = record {
  secure = λ v s general sec none. sec;
  changes = λ v s request. refl;
  sound = λ v s request p none sound. (sound.0, still_whole p (window.alters request p) (length-set p.windows (register request 3) _) refl refl sound.1);
}

unwindow-keeps : CallKeeps unwindow
unwindow-keeps = record {
  secure = λ v s general sec none. sec;
  changes = λ v s request. refl;
  sound = λ v s request p none sound. (sound.0, still_whole p (unwindow.alters request p) (length-set p.windows (register request 3) _) refl refl sound.1);
}

deposit-keeps : CallKeeps deposit
deposit-keeps = record {
  secure = λ v s general sec none.
      secure_contents v (request_in general).path _ sec (fits_with_word (register (request_in general) 3 / 2) (register (request_in general) 4));
  changes = λ v s request. changed_at-changes v request.path (with_contents (with_word (register request 3 / 2) (register request 4)));
  sound = λ v s request p none sound. sound;
}

-- ---- calls that are for mailboxes and lines

send-keeps : CallKeeps send
send-keeps = record {
  secure = λ v s general sec none. secure_contents v (request_in general).path _ sec (fits_put (message_in (request_in general)) refl);
  changes = λ v s request. changed_at-changes v request.path (with_contents (put (message_in request)));
  sound = λ v s request p none sound. sound;
}

receive-keeps : CallKeeps receive
receive-keeps = record {
  secure = λ v s general sec none. secure_contents v (request_in general).path without_message sec fits_without_message;
  changes = λ v s request. changed_at-changes v request.path (with_contents without_message);
  sound = λ v s request p none sound. sound;
}

line_out-keeps : CallKeeps line_out
line_out-keeps = changes_nothing line_out (λ v s request. refl) (λ request. refl) (λ request p. refl)

line_in-keeps : CallKeeps line_in
line_in-keeps = record {
  secure = λ v s general sec none. secure_contents v (request_in general).path without_byte sec fits_without_byte;
  changes = λ v s request. changed_at-changes v request.path (with_contents without_byte);
  sound = λ v s request p none sound. sound;
}

-- ---- calls that tell the caller something

entry-keeps : CallKeeps entry
entry-keeps = changes_nothing entry (λ v s request. refl) (λ request. refl) (λ request p. refl)

identify-keeps : CallKeeps identify
identify-keeps = changes_nothing identify (λ v s request. refl) (λ request. refl) (λ request p. refl)

quota-keeps : CallKeeps quota
quota-keeps = changes_nothing quota (λ v s request. refl) (λ request. refl) (λ request p. refl)

-- ---- calls by which a process changes itself

pause-keeps : CallKeeps pause
pause-keeps = record {
  secure = λ v s general sec none. sec;
  changes = λ v s request. refl;
  sound = λ v s request p none sound. sound;
}

-- what is not refused as odd is even
even_where : (past : Bool) (n : ℕ) → (past || n % 2 == 1) ≡ false → is_even n ≡ true
even_where true n h = cc
even_where false n h = grind (arith, nat_tests, h)

set_fault_entry-keeps : CallKeeps set_fault_entry
set_fault_entry-keeps = record {
  secure = λ v s general sec none. sec;
  changes = λ v s request. refl;
  sound = λ v s request p none sound.
      let (argument, end) = passed v s set_fault_entry request none in (
        all_set is_even p.entries (register request 3) (register request 4) sound.0
            (even_where (nat_le entries_of_process (register request 3)) (register request 4) argument),
        still_whole p (set_fault_entry.alters request p) refl (length-set p.entries (register request 3) _) refl sound.1,
      );
}

stop-keeps : CallKeeps stop
stop-keeps = record {
  secure = λ v s general sec none. sec;
  changes = λ v s request. refl;
  sound = λ v s request p none sound. sound;
}

-- ---- the call by which a subject raises its level

raise_level-keeps : CallKeeps raise_level
raise_level-keeps = record {
  secure = λ v s general sec none.
      let (listed, (under, (above, (star, end)))) = passed v s raise_level (request_in general) none in
      secure_raised v s (register (request_in general) 3) sec listed (not_false _ under) (not_false _ above) (not_false _ star);
  changes = λ v s request. refl;
  sound = λ v s request p none sound. sound;
}

-- ---- all calls

pub each_keeps : (call : Call) → CallKeeps (definition_of call)
each_keeps (ByRule GetRead) = get_read-keeps
each_keeps (ByRule GetAppend) = get_append-keeps
each_keeps (ByRule GetExecute) = get_execute-keeps
each_keeps (ByRule GetWrite) = get_write-keeps
each_keeps (ByRule Release) = release-keeps
each_keeps (ByRule Give) = give-keeps
each_keeps (ByRule Rescind) = rescind-keeps
each_keeps (ByRule Create) = create-keeps
each_keeps (ByRule DeleteGroup) = delete_group-keeps
each_keeps (ByRule RaiseLevel) = raise_level-keeps
each_keeps (Other Window) = window-keeps
each_keeps (Other Unwindow) = unwindow-keeps
each_keeps (Other Deposit) = deposit-keeps
each_keeps (Other Send) = send-keeps
each_keeps (Other Receive) = receive-keeps
each_keeps (Other LineOut) = line_out-keeps
each_keeps (Other LineIn) = line_in-keeps
each_keeps (Other Entry) = entry-keeps
each_keeps (Other Identify) = identify-keeps
each_keeps (Other Quota) = quota-keeps
each_keeps (Other Pause) = pause-keeps
each_keeps (Other SetFaultEntry) = set_fault_entry-keeps
each_keeps (Other Stop) = stop-keeps
