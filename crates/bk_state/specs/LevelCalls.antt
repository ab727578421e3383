-- The call of rule 10: a subject raises its current level.
use Rattle.std.specs.Prelude.{[], ◌∷◌, length, Some, nat_le}
use Rattle.bk_state.specs.declared.cause.CallCause.TheVariants.{BadArgument, AboveGreatest, WrongCurrent, StarProperty}
use Rattle.bk_state.specs.Request.{register}
use Rattle.bk_state.specs.KernelCall.{KernelCall, plain}

-- raise level: the caller's current level becomes the one with the number in R3, which is in the list; no path is looked at
abbrev pub raise_level : KernelCall
raise_level = record plain {
  checks = BadArgument ∷ AboveGreatest ∷ WrongCurrent ∷ StarProperty ∷ [];
  is_wrong = λ v request. nat_le (length v.fixed.levels) (register request 3);
  raises = λ request. Some (register request 3);
}
