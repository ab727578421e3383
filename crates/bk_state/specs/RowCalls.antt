-- The calls of rules 6 and 7: who holds an object's parent by w changes the object's row.
use Rattle.std.specs.Prelude.{Bool, ◌||◌, List, [], ◌∷◌, length, Option, Some, None, nat_le}
use Rattle.std.specs.FinMap as map
use Rattle.bk_path.specs.Paths.{Path}
use Rattle.bk_object.specs.Rows.{given, rescinded}
use Rattle.bk_object.specs.declared.Modes.{Modes}
use Rattle.bk_state.specs.declared.cause.CallCause.TheVariants.{NoPath, BadArgument, NotNamed, NoObject, WrongKind, IsRoot, NoParentWrite}
use Rattle.bk_state.specs.State.{State, Object, find}
use Rattle.bk_state.specs.Request.{Request, register, is_outside}
use Rattle.bk_state.specs.KernelCall.{KernelCall, plain}
use Rattle.bk_state.specs.AccessCalls.{without_triples}

-- a state in which the object at a path, if it was found, is changed
abbrev pub changed_by : State → Path → (Object → Object) → Option Object → State
changed_by v path change None = v
changed_by v path change (Some object) = record v { objects = map.insert v.objects path (change object) }

-- the object at the path, if one is there, becomes another
abbrev pub changed_at : State → Path → (Object → Object) → State
changed_at v path change = changed_by v path change (find v path)

-- the row of an object becomes another
abbrev pub with_row : (List Modes → List Modes) → Object → Object
with_row change object = record { facts = record object.facts { row = change object.facts.row }; contents = object.contents }

-- the modes in R3 are none of 1 to 15, or there is no subject with the number in R4
abbrev pub is_wrong_grant : State → Request → Bool
is_wrong_grant v request = is_outside 1 15 (register request 3) || nat_le (length v.fixed.subjects) (register request 4)

-- give: the subject in R4 gets the modes in R3 in the object's row
abbrev pub give : KernelCall
give = record plain {
  checks = NoPath ∷ BadArgument ∷ NotNamed ∷ NoObject ∷ WrongKind ∷ IsRoot ∷ NoParentWrite ∷ [];
  is_wrong = is_wrong_grant;
  modes = λ request. request.modes;
  changes = λ v s request. changed_at v request.path (with_row (given request.subject request.modes));
}

-- rescind: the subject in R4 loses the modes in R3 in the object's row, and no longer holds it by them
abbrev pub rescind : KernelCall
rescind = record plain {
  checks = NoPath ∷ BadArgument ∷ NotNamed ∷ NoObject ∷ WrongKind ∷ IsRoot ∷ NoParentWrite ∷ [];
  is_wrong = is_wrong_grant;
  modes = λ request. request.modes;
  changes = λ v s request.
      changed_at (without_triples v request.subject request.path request.modes) request.path (with_row (rescinded request.subject request.modes));
}
