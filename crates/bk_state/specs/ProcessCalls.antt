-- The calls by which a process changes itself alone.
use Rattle.std.specs.Prelude.{◌%◌, ◌||◌, [], ◌∷◌, nat_le, ◌==◌, slice_set}
use Rattle.bk_process.specs.NewProcess.{entries_of_process}
use Rattle.bk_process.specs.declared.status.Status9.TheVariants.{Paused, Stopped}
use Rattle.bk_state.specs.declared.cause.CallCause.TheVariants.{BadArgument}
use Rattle.bk_state.specs.Request.{register}
use Rattle.bk_state.specs.KernelCall.{KernelCall, plain}

-- pause: the rest of this slot's turns are idle
abbrev pub pause : KernelCall
pause = record plain { alters = λ request p. record p { status = Paused } }

-- set fault entry: the fault in R3, 0 to 7, is taken at the address in R4, which is even; 0 takes the entry away
abbrev pub set_fault_entry : KernelCall
set_fault_entry = record plain {
  checks = BadArgument ∷ [];
  is_wrong = λ v request. nat_le entries_of_process (register request 3) || register request 4 % 2 == 1;
  alters = λ request p. record p { entries = slice_set p.entries (register request 3) (register request 4) };
}

-- stop: the process never runs again; 8 is the number of this call among what stops a process
abbrev pub stop : KernelCall
stop = record plain { alters = λ request p. record p { status = Stopped 8 } }
