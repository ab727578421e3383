-- Which calls may change what the pages of a subject show, and what all others leave.
use Rattle.std.specs.Prelude.{◌≡◌, ℕ, Bool, true, false, Option, Some, None}
use Rattle.bk_path.specs.Paths.{Path}
use Rattle.bk_process.specs.declared.process.Process.{Process}
use Rattle.bk_state.specs.declared.call.Call.{Call}
use Rattle.bk_state.specs.declared.call.Call.TheVariants.{ByRule, Other}
use Rattle.bk_state.specs.declared.call.Service.{Service}
use Rattle.bk_state.specs.declared.call.Service.TheVariants.{Window, Unwindow, Deposit, Send, Receive, LineOut, LineIn, Entry, Identify, Quota}
use Rattle.bk_state.specs.declared.call.Service.TheVariants.{Pause, SetFaultEntry, Stop}
use Rattle.bk_state.specs.declared.rule.Rule.{Rule}
use Rattle.bk_state.specs.declared.rule.Rule.TheVariants.{GetRead, GetAppend, GetExecute, GetWrite, Release, Give, Rescind, Create, DeleteGroup, RaiseLevel}
use Rattle.bk_state.specs.Calls.{call_of}
use Rattle.bk_store.specs.Stored.{Stored, extent_in}
use Rattle.bk_calls.specs.declared.reply.Answer.{Answer}
use Rattle.bk_calls.specs.declared.reply.Answer.TheVariants.{Yes, No, Unknown}

-- a rule changes what is held, or where a segment stands; a row and a level are no part of what pages are made of
abbrev pub rule_changes_pages : Rule → Bool
rule_changes_pages GetRead = true
rule_changes_pages GetAppend = true
rule_changes_pages GetExecute = true
rule_changes_pages GetWrite = true
rule_changes_pages Release = true
rule_changes_pages Give = false
rule_changes_pages Rescind = true
rule_changes_pages Create = true
rule_changes_pages DeleteGroup = true
rule_changes_pages RaiseLevel = false

-- a service changes what a window shows
abbrev pub service_changes_pages : Service → Bool
service_changes_pages Window = true
service_changes_pages Unwindow = true
service_changes_pages Deposit = false
service_changes_pages Send = false
service_changes_pages Receive = false
service_changes_pages LineOut = false
service_changes_pages LineIn = false
service_changes_pages Entry = false
service_changes_pages Identify = false
service_changes_pages Quota = false
service_changes_pages Pause = false
service_changes_pages SetFaultEntry = false
service_changes_pages Stop = false

-- so a call may change what a page shows, where it is answered yes
abbrev pub call_changes_pages : Option Call → Bool
call_changes_pages None = false
call_changes_pages (Some (ByRule rule)) = rule_changes_pages rule
call_changes_pages (Some (Other service)) = service_changes_pages service

-- and where it is refused it may not
abbrev pub answered_changes_pages : Option Call → Answer → Bool
answered_changes_pages call Yes = call_changes_pages call
answered_changes_pages call (No cause) = false
answered_changes_pages call (Unknown cause) = false

-- a call of that number with that answer may have changed what a page shows
abbrev pub changes_pages : (number : ℕ) → Answer → Bool
changes_pages number answer = answered_changes_pages (call_of number) answer

-- every segment stands where it stood
abbrev pub SameExtents : (before after : Stored) → Type 0
SameExtents before after = (path : Path) → extent_in after path ≡ extent_in before path

-- all that pages are made of stays: where segments stand, what is held, and the windows of the caller's process
pub record KeepsPages (store_before store_after : Stored) (before after : Process) : Type 0 where
  pub extents : SameExtents store_before store_after
  pub access : store_after.access ≡ store_before.access
  pub windows : after.windows ≡ before.windows
