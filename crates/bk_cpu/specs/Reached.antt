use Rattle.std.specs.Prelude.{◌≡◌, Result, Ok, Err}
use Rattle.bk_space.specs.declared.cause.Cause.{Cause}
use Rattle.bk_space.specs.declared.registers.Regs.{Regs}
use Rattle.bk_space.specs.AddrSpace.{Write, applied}
use Rattle.bk_operand.specs.Part.{Part}
use Rattle.bk_exec.specs.declared.ending.Ending.{Ending}
use Rattle.bk_exec.specs.declared.ending.Ending.TheVariants as ending
use Rattle.bk_cpu.specs.declared.outcome.Outcome.{Outcome}
use Rattle.bk_cpu.specs.declared.outcome.Outcome.TheVariants.{Completed, Returned, Called, Broke, Interrupted, Trapped, CutOff}
use Rattle.bk_exec.specs.Given.{Given}

-- how an instruction ends and what it leaves, without its write
abbrev pub ended : Result (Given × Regs) Cause → Result (Ending × Regs) Cause
ended (Ok x) = Ok (x.0.1, x.1)
ended (Err cause) = Err cause

-- what a function returned and the registers that it left are what the part gives
abbrev pub Reaches : Result Ending Cause → Regs → Part Given → Type 0
Reaches (Ok ending) regs part = ended part.outcome ≡ Ok (ending, regs)
Reaches (Err cause) regs part = ended part.outcome ≡ Err cause

-- what the part leaves of the bus: its write, where there is one
abbrev pub left_by : {S : Type 0} → (S → Write → S) → S → Result (Given × Regs) Cause → S
left_by after state (Ok x) = applied after state x.0.0
left_by after state (Err cause) = state

-- an outcome as a result
abbrev pub result_of : Outcome → Result Ending Cause
result_of Completed = Ok ending.Completed
result_of Returned = Ok ending.Returned
result_of (Called n) = Ok (ending.Called n)
result_of Broke = Ok ending.Broke
result_of Interrupted = Ok ending.Interrupted
result_of Trapped = Ok ending.Trapped
result_of (CutOff cause) = Err cause
