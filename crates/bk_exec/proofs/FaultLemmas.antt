use Rattle.std.proofs.Common.{◌≡◌, ℕ, Bool, true, false, Ok, Err, refl, sym, subst}
use Rattle.std.specs.Prelude.{Result}
use Rattle.bk_space.specs.declared.cause.Cause.{Cause}
use Rattle.bk_space.specs.declared.cause.Cause.TheVariants as causes
use Rattle.bk_space.specs.declared.registers.Regs.{Regs}
use Rattle.bk_exec.specs.declared.ending.Ending.{Ending}
use Rattle.bk_exec.specs.declared.ending.Ending.TheVariants.{Completed, Returned, Called, Broke, Interrupted, Trapped}
use Rattle.bk_exec.specs.declared.event.Event.TheVariants.{Fault}
use Rattle.bk_exec.specs.Given.{Given}
use Rattle.bk_exec.specs.Exec.{event_of, finished}
use Rattle.bk_exec.specs.Laws.{IsCutOff, ChangesNothing}

-- no instruction that has completed ends as a fault from 0 to 4
not_cut_off : (ending : Ending) (trace : Bool) (cause : Cause) → IsCutOff cause → event_of ending trace ≡ Fault cause → ⊥
not_cut_off Completed true cause h e = let p : causes.Break ≡ cause = cc in subst IsCutOff (sym p) h
not_cut_off Completed false cause h e = cc
not_cut_off Returned trace cause h e = cc
not_cut_off (Called n) trace cause h e = cc
not_cut_off Broke trace cause h e = let p : causes.Break ≡ cause = cc in subst IsCutOff (sym p) h
not_cut_off Interrupted trace cause h e = let p : causes.Iot ≡ cause = cc in subst IsCutOff (sym p) h
not_cut_off Trapped trace cause h e = let p : causes.Trap ≡ cause = cc in subst IsCutOff (sym p) h

pub cut_off_changes_nothing : (before : Regs) (made : ℕ) (outcome : Result (Given × Regs) Cause) (cause : Cause) → IsCutOff cause
    → (finished before made outcome).outcome ≡ Fault cause → ChangesNothing before (finished before made outcome)
cut_off_changes_nothing before made (Ok x) cause h e = absurd (not_cut_off x.0.1 x.1.ps.trace cause h e)
cut_off_changes_nothing before made (Err stop) cause h e = record { registers = refl; nothing = refl }
