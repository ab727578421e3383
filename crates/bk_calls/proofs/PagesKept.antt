-- A call that changes no page keeps what pages are made of.
use Rattle.std.proofs.Common.{◌≡◌, ◌≢◌, ℕ, List, Option, Some, None, true, false, refl, sym, ap, ◌∙◌}
use Rattle.std.specs.Prelude.{◌/◌, slice_index}
use Rattle.bk_process.specs.declared.process.Process.{Process}
use Rattle.bk_state.specs.declared.call.Call.{Call}
use Rattle.bk_state.specs.declared.call.Call.TheVariants.{ByRule, Other}
use Rattle.bk_state.specs.declared.call.Service.{Service}
use Rattle.bk_state.specs.declared.call.Service.TheVariants.{Window, Unwindow, Deposit, Send, Receive, LineOut, LineIn, Entry, Identify, Quota}
use Rattle.bk_state.specs.declared.call.Service.TheVariants.{Pause, SetFaultEntry, Stop}
use Rattle.bk_state.specs.declared.rule.Rule.{Rule}
use Rattle.bk_state.specs.declared.rule.Rule.TheVariants.{GetRead, GetAppend, GetExecute, GetWrite, Release, Give, Rescind, Create, DeleteGroup, RaiseLevel}
use Rattle.bk_state.specs.declared.cause.CallCause.{CallCause}
use Rattle.bk_object.specs.Rows.{given}
use Rattle.bk_state.specs.Contents.{with_contents, with_word, put, without_message, without_byte}
use Rattle.bk_state.specs.QueueCalls.{message_in}
use Rattle.bk_state.specs.RowCalls.{with_row}
use Rattle.bk_state.specs.Request.{request_in}
use Rattle.bk_state.specs.Calls.{call_refusal}
use Rattle.bk_state.specs.Answers.{answered_by, outcome, with_call}
use Rattle.bk_store.specs.Stored.{Stored}
use Rattle.bk_calls.specs.declared.caller.Caller.{Caller}
use Rattle.bk_calls.specs.declared.reply.Answer.{Answer}
use Rattle.bk_calls.specs.declared.reply.Answer.TheVariants.{Yes}
use Rattle.bk_calls.specs.declared.reply.Reply.{Reply}
use Rattle.bk_calls.specs.Made.{made_by, seen_by, IsMade}
use Rattle.bk_calls.specs.Shown.{answered_changes_pages, call_changes_pages, rule_changes_pages, service_changes_pages, KeepsPages, SameExtents}
use Rattle.bk_calls.proofs.Served.{changed-access}

module _ (caller : Caller) (store : Stored) (words : List ℕ) (general : List ℕ) where
  -- of the rules two change no page: they leave what is held
  rule-access : (rule : Rule) → rule_changes_pages rule ≡ false → (outcome (seen_by caller store words) caller.subject (ByRule rule) general).access ≡ store.access
  unfolding outcome
  rule-access GetRead h = cc
  rule-access GetAppend h = cc
  rule-access GetExecute h = cc
  rule-access GetWrite h = cc
  rule-access Release h = cc
  rule-access Give h = changed-access caller store words (request_in general).path (with_row (given (request_in general).subject (request_in general).modes))
  rule-access Rescind h = cc
  rule-access Create h = cc
  rule-access DeleteGroup h = cc
  rule-access RaiseLevel h = refl

  -- and no service changes what is held
  service-access : (service : Service) → (outcome (seen_by caller store words) caller.subject (Other service) general).access ≡ store.access
  unfolding outcome
  service-access Window = refl
  service-access Unwindow = refl
  service-access Deposit = changed-access caller store words (request_in general).path (with_contents (with_word (slice_index general 3 / 2) (slice_index general 4)))
  service-access Send = changed-access caller store words (request_in general).path (with_contents (put (message_in (request_in general))))
  service-access Receive = changed-access caller store words (request_in general).path (with_contents without_message)
  service-access LineOut = refl
  service-access LineIn = changed-access caller store words (request_in general).path (with_contents without_byte)
  service-access Entry = refl
  service-access Identify = refl
  service-access Quota = refl
  service-access Pause = refl
  service-access SetFaultEntry = refl
  service-access Stop = refl

  -- a call that changes no page leaves what is held
  call-access : (call : Call) → call_changes_pages (Some call) ≡ false → (outcome (seen_by caller store words) caller.subject call general).access ≡ store.access
  call-access (ByRule rule) h = rule-access rule h
  call-access (Other service) h = service-access service

-- and the caller's windows
service-windows : (service : Service) → service_changes_pages service ≡ false → (general : List ℕ) (p : Process) → (with_call (Other service) general p).windows ≡ p.windows
service-windows Window h general p = cc
service-windows Unwindow h general p = cc
service-windows Deposit h general p = refl
service-windows Send h general p = refl
service-windows Receive h general p = refl
service-windows LineOut h general p = refl
service-windows LineIn h general p = refl
service-windows Entry h general p = refl
service-windows Identify h general p = refl
service-windows Quota h general p = refl
service-windows Pause h general p = refl
service-windows SetFaultEntry h general p = refl
service-windows Stop h general p = refl

-- no rule changes them
rule-windows : (rule : Rule) (general : List ℕ) (p : Process) → (with_call (ByRule rule) general p).windows ≡ p.windows
rule-windows GetRead general p = refl
rule-windows GetAppend general p = refl
rule-windows GetExecute general p = refl
rule-windows GetWrite general p = refl
rule-windows Release general p = refl
rule-windows Give general p = refl
rule-windows Rescind general p = refl
rule-windows Create general p = refl
rule-windows DeleteGroup general p = refl
rule-windows RaiseLevel general p = refl

call-windows : (call : Call) → call_changes_pages (Some call) ≡ false → (general : List ℕ) (p : Process) → (with_call call general p).windows ≡ p.windows
call-windows (ByRule rule) h general p = rule-windows rule general p
call-windows (Other service) h general p = service-windows service h general p

-- a call that was made, and that changes no page by its answer, keeps what pages are made of
pub pages-kept : (caller : Caller) (store after : Stored) (words words_after : List ℕ) (process process_after : Process) (reply : Reply) (call : Call) →
    IsMade store after words words_after process_after reply (made_by caller store words process call) →
    answered_changes_pages (Some call) reply.answer ≡ false → SameExtents store after → KeepsPages store after process process_after
pages-kept caller store after words words_after process process_after reply call made none extents =
    by (call_refusal (seen_by caller store words) caller.subject call process.registers.general) made
  where
    by : (o : Option CallCause) → IsMade store after words words_after process_after reply (answered_by (seen_by caller store words) caller.subject process call o) → KeepsPages store after process process_after
    by (Some cause) m = record { extents = extents; access = m.access; windows = ap (λ (p : Process). p.windows) m.process }
    by None m =
        let still : call_changes_pages (Some call) ≡ false = sym (ap (answered_changes_pages (Some call)) m.answer) ∙ none in
        record {
          extents = extents;
          access = m.access ∙ call-access caller store words process.registers.general call still;
          windows = ap (λ (p : Process). p.windows) m.process ∙ call-windows call still process.registers.general process;
        }

-- a rule that changes pages, and is known to have changed none, was refused
pub unless-yes : (rule : Rule) (answer : Answer) → rule_changes_pages rule ≡ true → answered_changes_pages (Some (ByRule rule)) answer ≡ false → answer ≢ Yes
unless-yes rule answer does none agreed = let both : true ≡ false = sym does ∙ sym (ap (answered_changes_pages (Some (ByRule rule))) agreed) ∙ none in cc
