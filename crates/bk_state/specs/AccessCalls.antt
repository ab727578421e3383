-- The calls of rules 1 to 5: a subject comes to hold an object by a mode, or gives it up.
use Rattle.std.specs.Prelude.{ℕ, not, ◌&&◌, ◌==◌, [], ◌∷◌, Some}
use Rattle.std.specs.FinSet as set
use Rattle.bk_path.specs.Paths.{Path, is_same}
use Rattle.bk_object.specs.Modes.{AccessMode, Read, Execute, Write, Append, only, has}
use Rattle.bk_object.specs.declared.Modes.{Modes}
use Rattle.bk_state.specs.declared.cause.CallCause.TheVariants.{NoPath, BadArgument, NotNamed, NoObject, WrongKind, NotInRow, AboveGreatest, WrongCurrent}
use Rattle.bk_state.specs.State.{State}
use Rattle.bk_state.specs.Request.{register, is_outside}
use Rattle.bk_state.specs.KernelCall.{KernelCall, plain}

-- the subject holds the object by the mode too
abbrev pub with_triple : State → ℕ → Path → AccessMode → State
with_triple v s path mode = record v { access = set.insert v.access (s, path, mode) }

-- the subject no longer holds the object by these modes
abbrev pub without_triples : State → ℕ → Path → Modes → State
without_triples v s path modes = record v { access = set.retain v.access (λ t. not ((t.0 == s) && is_same t.1 path && has modes t.2)) }

-- get-read: the object is held by r
abbrev pub get_read : KernelCall
get_read = record plain {
  checks = NoPath ∷ NotNamed ∷ NoObject ∷ WrongKind ∷ NotInRow ∷ AboveGreatest ∷ WrongCurrent ∷ [];
  modes = λ request. only Read;
  mode = Some Read;
  changes = λ v s request. with_triple v s request.path Read;
}

-- get-append: the object is held by a; the greatest level is not asked for
abbrev pub get_append : KernelCall
get_append = record plain {
  checks = NoPath ∷ NotNamed ∷ NoObject ∷ WrongKind ∷ NotInRow ∷ WrongCurrent ∷ [];
  modes = λ request. only Append;
  mode = Some Append;
  changes = λ v s request. with_triple v s request.path Append;
}

-- get-execute: the object is held by e
abbrev pub get_execute : KernelCall
get_execute = record plain {
  checks = NoPath ∷ NotNamed ∷ NoObject ∷ WrongKind ∷ NotInRow ∷ AboveGreatest ∷ WrongCurrent ∷ [];
  modes = λ request. only Execute;
  mode = Some Execute;
  changes = λ v s request. with_triple v s request.path Execute;
}

-- get-write: the object is held by w
abbrev pub get_write : KernelCall
get_write = record plain {
  checks = NoPath ∷ NotNamed ∷ NoObject ∷ WrongKind ∷ NotInRow ∷ AboveGreatest ∷ WrongCurrent ∷ [];
  modes = λ request. only Write;
  mode = Some Write;
  changes = λ v s request. with_triple v s request.path Write;
}

-- release: the object is no longer held by the modes in R3, which are 1 to 15
abbrev pub release : KernelCall
release = record plain {
  checks = NoPath ∷ BadArgument ∷ [];
  is_wrong = λ v request. is_outside 1 15 (register request 3);
  modes = λ request. request.modes;
  changes = λ v s request. without_triples v s request.path request.modes;
}
