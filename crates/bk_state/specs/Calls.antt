-- The kernel calls by their numbers, and the check by which each is refused.
use Rattle.std.specs.Prelude.{ℕ, zero, suc, Bool, not, List, [], ◌∷◌, filter, Option, None, slice_get, find as first}
use Rattle.bk_state.specs.declared.cause.CallCause.{CallCause}
use Rattle.bk_state.specs.declared.rule.Rule.{Rule}
use Rattle.bk_state.specs.declared.rule.Rule.TheVariants.{GetRead, GetAppend, GetExecute, GetWrite, Release, Give, Rescind, Create, DeleteGroup, RaiseLevel}
use Rattle.bk_state.specs.declared.call.Call.{Call}
use Rattle.bk_state.specs.declared.call.Call.TheVariants.{ByRule, Other}
use Rattle.bk_state.specs.declared.call.Service.{Service}
use Rattle.bk_state.specs.declared.call.Service.TheVariants.{Window, Unwindow, Deposit, Send, Receive, LineOut, LineIn, Entry, Identify, Quota}
use Rattle.bk_state.specs.declared.call.Service.TheVariants.{Pause, SetFaultEntry, Stop}
use Rattle.bk_state.specs.State.{State, with_raised}
use Rattle.bk_state.specs.Causes.{is_of_words}
use Rattle.bk_state.specs.Request.{Request, request_in}
use Rattle.bk_state.specs.KernelCall.{KernelCall, fails}
use Rattle.bk_state.specs.AccessCalls.{get_read, get_append, get_execute, get_write, release}
use Rattle.bk_state.specs.RowCalls.{give, rescind}
use Rattle.bk_state.specs.TreeCalls.{create, delete_group}
use Rattle.bk_state.specs.SegmentCalls.{window, unwindow, deposit}
use Rattle.bk_state.specs.QueueCalls.{send, receive, line_out, line_in}
use Rattle.bk_state.specs.TellingCalls.{entry, identify, quota}
use Rattle.bk_state.specs.ProcessCalls.{pause, set_fault_entry, stop}
use Rattle.bk_state.specs.LevelCalls.{raise_level}

-- the calls by their numbers, from 1 on
abbrev pub calls : List Call
calls =
    ByRule GetRead ∷ ByRule GetAppend ∷ ByRule GetExecute ∷ ByRule GetWrite ∷ ByRule Release ∷ ByRule Give ∷ ByRule Rescind
    ∷ ByRule Create ∷ ByRule DeleteGroup ∷ Other Window ∷ Other Unwindow ∷ Other Deposit ∷ Other Send ∷ Other Receive ∷ Other LineOut
    ∷ Other LineIn ∷ Other Entry ∷ Other Identify ∷ Other Quota ∷ Other Pause ∷ Other SetFaultEntry ∷ Other Stop ∷ ByRule RaiseLevel ∷ []

-- the call that EMT of that number makes
abbrev pub call_of : (number : ℕ) → Option Call
call_of zero = None
call_of (suc n) = slice_get calls n

-- what each of the ten rules is as a call
abbrev pub rule_call : Rule → KernelCall
rule_call GetRead = get_read
rule_call GetAppend = get_append
rule_call GetExecute = get_execute
rule_call GetWrite = get_write
rule_call Release = release
rule_call Give = give
rule_call Rescind = rescind
rule_call Create = create
rule_call DeleteGroup = delete_group
rule_call RaiseLevel = raise_level

-- what each other call is
abbrev pub service_call : Service → KernelCall
service_call Window = window
service_call Unwindow = unwindow
service_call Deposit = deposit
service_call Send = send
service_call Receive = receive
service_call LineOut = line_out
service_call LineIn = line_in
service_call Entry = entry
service_call Identify = identify
service_call Quota = quota
service_call Pause = pause
service_call SetFaultEntry = set_fault_entry
service_call Stop = stop

-- what a call is
abbrev pub definition_of : Call → KernelCall
definition_of (ByRule rule) = rule_call rule
definition_of (Other service) = service_call service

-- ---- the ten rules, over a request whose words are a path and arguments

-- the checks of a rule that look at the state, in their order
abbrev pub rule_checks : Rule → List CallCause
rule_checks rule = filter (λ cause. not (is_of_words cause)) (rule_call rule).checks

-- the first of them that fails
unfoldable pub refusal : State → (s : ℕ) → Rule → Request → Option CallCause
refusal v s rule request = first (fails v s (rule_call rule) request) (rule_checks rule)

-- the state after a call of the rule by the subject that is answered yes
unfoldable pub changed : State → (s : ℕ) → Rule → Request → State
changed v s rule request = with_raised s ((rule_call rule).raises request) ((rule_call rule).changes v s request)

-- ---- all calls, over R0 to R5 of the caller

-- the check of that cause fails
abbrev pub call_fails : State → (s : ℕ) → Call → (general : List ℕ) → CallCause → Bool
call_fails v s call general cause = fails v s (definition_of call) (request_in general) cause

-- the first check of the call that fails
unfoldable pub call_refusal : State → (s : ℕ) → Call → (general : List ℕ) → Option CallCause
call_refusal v s call general = first (call_fails v s call general) (definition_of call).checks
