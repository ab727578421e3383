-- The level to which a call raises its caller is one of the list.
use Rattle.std.proofs.Common.{◌≡◌, ℕ, ◌<◌, Bool, true, false, length, Option, Some, None, refl, subst, arith}
use Rattle.std.specs.Prelude.{nat_le, slice_index, if◌then◌else◌}
use Rattle.std.proofs.lemmas.Bool.Decides.{nat_tests}
use Rattle.std.proofs.lemmas.Option.{same_Some}
use Rattle.bk_process.specs.declared.process.Process.{Process}
use Rattle.bk_state.specs.declared.cause.CallCause.{CallCause}
use Rattle.bk_state.specs.declared.cause.CallCause.TheVariants.{BadArgument}
use Rattle.bk_state.specs.declared.rule.Rule.TheVariants.{GetRead, GetAppend, GetExecute, GetWrite, Release, Give, Rescind, Create, DeleteGroup, RaiseLevel}
use Rattle.bk_state.specs.declared.call.Call.{Call}
use Rattle.bk_state.specs.declared.call.Call.TheVariants.{ByRule, Other}
use Rattle.bk_state.specs.declared.call.Service.TheVariants.{Window, Unwindow, Deposit, Send, Receive, LineOut, LineIn, Entry, Identify, Quota}
use Rattle.bk_state.specs.declared.call.Service.TheVariants.{Pause, SetFaultEntry, Stop}
use Rattle.bk_state.specs.State.{State}
use Rattle.bk_state.specs.Calls.{call_of, call_refusal}
use Rattle.bk_state.specs.Answers.{answered_by, called, called_by, raised_by}

-- what the first of several checks doesn't refuse passes it
first_passed : (b : Bool) (later : Option CallCause) → (if b then Some BadArgument else later) ≡ None → b ≡ false
first_passed true later none = cc
first_passed false later none = refl

below : (levels n : ℕ) → nat_le levels n ≡ false → n < levels
below levels n fit = grind (arith, nat_tests, fit)

module _ (v : State) (s : ℕ) (p : Process) (n : ℕ) where
  by_definition : (call : Call) → call_refusal v s call p.registers.general ≡ None → raised_by call p.registers.general ≡ Some n → n < length v.fixed.levels
  unfolding call_refusal
  by_definition (ByRule GetRead) none is = cc
  by_definition (ByRule GetAppend) none is = cc
  by_definition (ByRule GetExecute) none is = cc
  by_definition (ByRule GetWrite) none is = cc
  by_definition (ByRule Release) none is = cc
  by_definition (ByRule Give) none is = cc
  by_definition (ByRule Rescind) none is = cc
  by_definition (ByRule Create) none is = cc
  by_definition (ByRule DeleteGroup) none is = cc
  by_definition (ByRule RaiseLevel) none is =
      subst (λ m. m < length v.fixed.levels) (same_Some (slice_index p.registers.general 3) n is) (below (length v.fixed.levels) (slice_index p.registers.general 3) (first_passed _ _ none))
  by_definition (Other Window) none is = cc
  by_definition (Other Unwindow) none is = cc
  by_definition (Other Deposit) none is = cc
  by_definition (Other Send) none is = cc
  by_definition (Other Receive) none is = cc
  by_definition (Other LineOut) none is = cc
  by_definition (Other LineIn) none is = cc
  by_definition (Other Entry) none is = cc
  by_definition (Other Identify) none is = cc
  by_definition (Other Quota) none is = cc
  by_definition (Other Pause) none is = cc
  by_definition (Other SetFaultEntry) none is = cc
  by_definition (Other Stop) none is = cc

  by_refusal : (call : Call) (o : Option CallCause) → call_refusal v s call p.registers.general ≡ o → (answered_by v s p call o).raised ≡ Some n → n < length v.fixed.levels
  by_refusal call None none is = by_definition call none is
  by_refusal call (Some cause) some is = cc

  by_call : (o : Option Call) → (called_by v s p o).raised ≡ Some n → n < length v.fixed.levels
  by_call None is = cc
  by_call (Some call) is = by_refusal call (call_refusal v s call p.registers.general) refl is

  -- whatever the call's number
  pub raised-listed : (number : ℕ) → (called v s p number).raised ≡ Some n → n < length v.fixed.levels
  unfolding called
  raised-listed number is = by_call (call_of number) is
