-- The calls that tell the caller something and change nothing: a directory's entry, the caller itself, a quota.
use Rattle.std.specs.Prelude.{ℕ, ◌+◌, ◌*◌, List, [], ◌∷◌, length, Option, Some, None, is_none, nat_lt, if◌then◌else◌}
use Rattle.bk_path.specs.Paths.{Path}
use Rattle.bk_object.specs.Modes.{Read, Write, modes_where}
use Rattle.bk_object.specs.Kinds.{is_directory, kind_number, blocks_or_line}
use Rattle.bk_object.specs.Rows.{in_row}
use Rattle.bk_object.specs.declared.Facts.{Facts}
use Rattle.bk_state.specs.declared.cause.CallCause.TheVariants.{NoPath, BadArgument, NotNamed, NoObject, WrongKind, NotHeld, Empty}
use Rattle.bk_state.specs.State.{State, facts_at, holds, clearance_of}
use Rattle.bk_state.specs.Quota.{governing, quota_at, used}
use Rattle.bk_state.specs.Request.{register}
use Rattle.bk_state.specs.KernelCall.{KernelCall, plain, plain_yes}

-- the facts of a directory's child; a path of seven entries has none
abbrev pub child_at : State → Path → (entry : ℕ) → Option Facts
child_at v path entry = if nat_lt (length path) 7 then facts_at v (entry ∷ path) else None

-- R2 kind and blocks of a child, R3 the number of its level, R4 the modes by which the caller holds it, R5 those in its row
abbrev pub entry_values : State → (s : ℕ) → (child : Path) → Option Facts → List ℕ
entry_values v s child None = plain_yes
entry_values v s child (Some facts) =
    0 ∷ 0 ∷ (256 * kind_number facts.kind + blocks_or_line facts.kind facts.blocks) ∷ facts.level
    ∷ (modes_where (holds v s child)).0 ∷ (in_row facts.row s).0 ∷ []

-- entry: what stands at the directory's entry in R3, which is 0 to 15
abbrev pub entry : KernelCall
entry = record plain {
  checks = NoPath ∷ BadArgument ∷ NotNamed ∷ NoObject ∷ WrongKind ∷ NotHeld ∷ Empty ∷ [];
  is_wrong = λ v request. nat_lt 15 (register request 3);
  is_for = is_directory;
  needs = Read ∷ Write ∷ [];
  is_empty = λ v request. is_none (child_at v request.path (register request 3));
  gives = λ v s request. entry_values v s (register request 3 ∷ request.path) (child_at v request.path (register request 3));
}

-- self: R2 the caller's number, R3 and R4 the numbers of its current and its greatest level; no path is looked at
abbrev pub identify : KernelCall
identify = record plain { gives = λ v s request. 0 ∷ 0 ∷ s ∷ (clearance_of v s).current ∷ (clearance_of v s).greatest ∷ [] }

-- quota: R2 the limit and R3 the used number of the cell that governs the directory
abbrev pub quota : KernelCall
quota = record plain {
  checks = NoPath ∷ NotNamed ∷ NoObject ∷ WrongKind ∷ NotHeld ∷ [];
  is_for = is_directory;
  needs = Read ∷ Write ∷ [];
  gives = λ v s request. 0 ∷ 0 ∷ quota_at v (governing v request.path) ∷ used v (governing v request.path) ∷ [];
}
