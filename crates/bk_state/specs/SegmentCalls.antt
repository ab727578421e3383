-- The calls that are for segments: windows that show them, and a word that is put into one.
use Rattle.std.specs.Prelude.{◌/◌, ◌%◌, [], ◌∷◌, Some, None, nat_le, ◌==◌, slice_set}
use Rattle.bk_object.specs.Modes.{Read, Execute, Write, Append}
use Rattle.bk_object.specs.Kinds.{is_segment}
use Rattle.bk_process.specs.NewProcess.{windows_of_process}
use Rattle.bk_state.specs.declared.cause.CallCause.TheVariants.{NoPath, BadArgument, NotNamed, NoObject, WrongKind, NotHeld, TooLong}
use Rattle.bk_state.specs.Contents.{with_contents, with_word}
use Rattle.bk_state.specs.Request.{register}
use Rattle.bk_state.specs.KernelCall.{KernelCall, plain}
use Rattle.bk_state.specs.RowCalls.{changed_at}

-- window: the caller's window with the number in R3 shows the segment
abbrev pub window : KernelCall
window = record plain {
  checks = NoPath ∷ BadArgument ∷ NotNamed ∷ NoObject ∷ WrongKind ∷ NotHeld ∷ [];
  is_wrong = λ v request. nat_le windows_of_process (register request 3);
  is_for = is_segment;
  needs = Read ∷ Execute ∷ Write ∷ [];
  alters = λ request p. record p { windows = slice_set p.windows (register request 3) (Some request.path) };
}

-- unwindow: the caller's window with the number in R3 is free; no path is looked at
abbrev pub unwindow : KernelCall
unwindow = record plain {
  checks = BadArgument ∷ [];
  is_wrong = λ v request. nat_le windows_of_process (register request 3);
  alters = λ request p. record p { windows = slice_set p.windows (register request 3) None };
}

-- deposit: the word in R4 is written at the byte offset in R3, which is even and inside the segment
abbrev pub deposit : KernelCall
deposit = record plain {
  checks = NoPath ∷ BadArgument ∷ NotNamed ∷ NoObject ∷ WrongKind ∷ NotHeld ∷ TooLong ∷ [];
  is_wrong = λ v request. register request 3 % 2 == 1;
  is_for = is_segment;
  needs = Write ∷ Append ∷ [];
  changes = λ v s request. changed_at v request.path (with_contents (with_word (register request 3 / 2) (register request 4)));
}
