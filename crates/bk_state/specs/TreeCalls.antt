-- The calls of rules 8 and 9: objects come and go.
use Rattle.std.specs.Prelude.{ℕ, ◌/◌, ◌%◌, Bool, true, ◌||◌, not, [], ◌∷◌, length, nat_le, ◌==◌, if◌then◌else◌}
use Rattle.std.specs.FinMap as map
use Rattle.std.specs.FinSet as set
use Rattle.bk_path.specs.Paths.{Path, parent, is_inferior}
use Rattle.bk_object.specs.Limits.{most_blocks, largest_quota}
use Rattle.bk_state.specs.declared.cause.CallCause.TheVariants.{NoPath, BadArgument, NotNamed, NoObject, IsRoot, NoParentWrite, LevelFalls, Taken, OverQuota}
use Rattle.bk_state.specs.State.{State, Object}
use Rattle.bk_state.specs.Contents.{new_contents}
use Rattle.bk_state.specs.Quota.{level_number}
use Rattle.bk_state.specs.Request.{Request, register, is_outside, new_facts}
use Rattle.bk_state.specs.KernelCall.{KernelCall, plain}

-- A segment has 1 to 128 blocks, a directory a quota of 1 to 3,904 (kept in an upgraded one alone); all else has no
-- blocks. Nobody creates a line.
abbrev pub is_no_object : (kind blocks quota : ℕ) → Bool
is_no_object kind blocks quota =
    if kind == 0 then not (blocks == 0) || is_outside 1 largest_quota quota else (
    if kind == 1 then is_outside 1 most_blocks blocks else (
    if kind == 2 then not (blocks == 0) else true))

-- the object that is asked for, in a directory of that level
abbrev pub new_object : Request → (above : ℕ) → Object
new_object request above = record { facts = new_facts request above; contents = new_contents request.kind request.blocks }

-- the new object is there, at its level and under its parent's
abbrev pub with_object : State → Request → State
with_object v request = record v { objects = map.insert v.objects request.path (new_object request (level_number v (parent request.path))) }

-- the object and all its inferiors go, with all that any subject holds of them
abbrev pub without_group : State → Path → State
without_group v path = record v {
  objects = map.retain_keys v.objects (λ other. not (is_inferior other path));
  access = set.retain v.access (λ t. not (is_inferior t.1 path));
}

-- create: a new object of the kind and the blocks in R3, of the level in R4, with the quota in R5
abbrev pub create : KernelCall
create = record plain {
  checks = NoPath ∷ BadArgument ∷ NotNamed ∷ IsRoot ∷ NoParentWrite ∷ LevelFalls ∷ Taken ∷ OverQuota ∷ [];
  is_wrong = λ v request.
      is_no_object (register request 3 / 256) (register request 3 % 256) (register request 5) || nat_le (length v.fixed.levels) (register request 4);
  changes = λ v s request. with_object v request;
}

-- delete group: the object goes, with all its inferiors
abbrev pub delete_group : KernelCall
delete_group = record plain {
  checks = NoPath ∷ NotNamed ∷ NoObject ∷ IsRoot ∷ NoParentWrite ∷ [];
  changes = λ v s request. without_group v request.path;
}
