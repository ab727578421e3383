use Rattle.bk_space.specs.declared.reference.Abort.{Abort}
use Rattle.bk_space.specs.declared.reference.Abort.TheVariants as aborts
use Rattle.bk_space.specs.declared.cause.Cause.{Cause}
use Rattle.bk_space.specs.declared.cause.Cause.TheVariants as causes

-- the fault that an abort is
abbrev pub cause_of : Abort → Cause
cause_of aborts.Odd = causes.Odd
cause_of aborts.NonResident = causes.NonResident
cause_of aborts.Length = causes.Length
cause_of aborts.ReadOnly = causes.ReadOnly
