-- What a kernel call is: its checks, its arguments, what it asks of the object, and what it gives and changes.
use Rattle.std.specs.Prelude.{◌+◌, ◌*◌, ℕ, Bool, true, false, ◌&&◌, not, List, [], ◌∷◌, Option, None, Some, is_some, is_none, nat_lt, nat_le}
use Rattle.std.specs.List.{list_any}
use Rattle.bk_level.specs.Levels.{dominates, level_at}
use Rattle.bk_path.specs.Paths.{parent, is_root, unpack}
use Rattle.bk_object.specs.Limits.{bytes_of_block}
use Rattle.bk_object.specs.Modes.{AccessMode, Write, no_modes, is_within}
use Rattle.bk_object.specs.Kinds.{kind_modes}
use Rattle.bk_object.specs.Rows.{in_row}
use Rattle.bk_object.specs.declared.Kind.{Kind}
use Rattle.bk_object.specs.declared.Modes.{Modes}
use Rattle.bk_process.specs.declared.process.Process.{Process}
use Rattle.bk_quota.specs.Charges.{charge_of}
use Rattle.bk_state.specs.declared.cause.CallCause.{CallCause}
use Rattle.bk_state.specs.declared.cause.CallCause.TheVariants as causes
use Rattle.bk_state.specs.State.{State, facts_at, holds, current_level, greatest_level, level_of}
use Rattle.bk_state.specs.Allowed.{is_simple, is_star, by_mode, may_rise}
use Rattle.bk_state.specs.Named.{passes, is_named}
use Rattle.bk_state.specs.Quota.{used, governing, level_number, quota_at}
use Rattle.bk_state.specs.Request.{Request, register, new_facts}

-- all that defines one kernel call
pub record KernelCall : Type 0 where
  -- its checks, in the order in which they are made; that there is such a call is checked before them
  pub checks : List CallCause
  -- its arguments are outside their ranges
  pub is_wrong : State → Request → Bool
  -- the kinds of object that it is for
  pub is_for : Kind → Bool
  -- the modes that it asks for, which have to be modes of the object's kind
  pub modes : Request → Modes
  -- the mode by which the caller is to hold the object: it has to be in the caller's row, and the levels have to allow it
  pub mode : Option AccessMode
  -- the modes of which the caller has to hold one
  pub needs : List AccessMode
  -- nothing is there that it could give
  pub is_empty : State → Request → Bool
  -- on yes: the number of the level that becomes the caller's current one
  pub raises : Request → Option ℕ
  -- on yes: what becomes of the objects and of the current access set, for the caller with that number
  pub changes : State → (s : ℕ) → Request → State
  -- on yes: what becomes of the caller's windows, fault entries and status
  pub alters : Request → Process → Process
  -- on yes: R0, which is 0, and what the registers after it take
  pub gives : State → (s : ℕ) → Request → List ℕ
  -- on yes: the line and the byte that goes out
  pub sends : State → Request → Option (ℕ × ℕ)

-- R0 and R1 are 0, and no other register is given anything
abbrev pub plain_yes : List ℕ
plain_yes = 0 ∷ 0 ∷ []

-- the call that looks at nothing, changes nothing and is always answered yes; each call below differs from it in what its
-- definition says
abbrev pub plain : KernelCall
plain = record {
  checks = [];
  is_wrong = λ v request. false;
  is_for = λ kind. true;
  modes = λ request. no_modes;
  mode = None;
  needs = [];
  is_empty = λ v request. false;
  raises = λ request. None;
  changes = λ v s request. v;
  alters = λ request p. p;
  gives = λ v s request. plain_yes;
  sends = λ v request. None;
}

-- the used number of the cell that governs the parent, and the charge of the new object, are at most the cell's limit
abbrev pub has_room : State → Request → Bool
has_room v request =
    let cell = governing v (parent request.path) in
    let above = level_number v (parent request.path) in
    nat_le (used v cell + charge_of (new_facts request above) above) (quota_at v cell)

-- the caller's greatest level doesn't dominate the level: that of the object which is to be held, or the new one
abbrev pub is_above_greatest : State → (s : ℕ) → KernelCall → Request → Option ℕ → Bool
is_above_greatest v s call request None =
    not (passes (λ facts. by_mode (λ mode. is_simple mode (greatest_level v s) (level_of v facts)) call.mode) (facts_at v request.path))
is_above_greatest v s call request (Some level) = not (dominates (greatest_level v s) (level_at v.fixed.levels level))

-- the caller's current level doesn't stand to the object's as the mode asks; or the new level doesn't dominate it
abbrev pub is_wrong_current : State → (s : ℕ) → KernelCall → Request → Option ℕ → Bool
is_wrong_current v s call request None =
    not (passes (λ facts. by_mode (λ mode. is_star mode (current_level v s) (level_of v facts)) call.mode) (facts_at v request.path))
is_wrong_current v s call request (Some level) = not (dominates (level_at v.fixed.levels level) (current_level v s))

-- what the caller holds may not be held at the new level
abbrev pub breaks_star : State → (s : ℕ) → Option ℕ → Bool
breaks_star v s None = false
breaks_star v s (Some level) = not (may_rise v s level)

-- the check of that cause fails, for a call by the subject
abbrev pub fails : State → (s : ℕ) → KernelCall → Request → CallCause → Bool
fails v s call request causes.NoPath = is_none (unpack (register request 1) (register request 2))
fails v s call request causes.BadArgument = call.is_wrong v request
fails v s call request causes.NotNamed = not (is_named v s request.path)
fails v s call request causes.NoObject = is_none (facts_at v request.path)
fails v s call request causes.WrongKind =
    not (passes (λ facts. call.is_for facts.kind && is_within (call.modes request) (kind_modes facts.kind)) (facts_at v request.path))
fails v s call request causes.IsRoot = is_root request.path
fails v s call request causes.NoParentWrite = not (holds v s (parent request.path) Write)
fails v s call request causes.NotHeld = not (list_any (holds v s request.path) call.needs)
fails v s call request causes.NotInRow = not (passes (λ facts. is_within (call.modes request) (in_row facts.row s)) (facts_at v request.path))
fails v s call request causes.AboveGreatest = is_above_greatest v s call request (call.raises request)
fails v s call request causes.WrongCurrent = is_wrong_current v s call request (call.raises request)
fails v s call request causes.LevelFalls =
    not (passes (λ above. dominates (level_at v.fixed.levels request.level) (level_of v above)) (facts_at v (parent request.path)))
fails v s call request causes.Taken = is_some (facts_at v request.path)
fails v s call request causes.OverQuota = not (has_room v request)
fails v s call request causes.TooLong = not (passes (λ facts. nat_lt (register request 3) (bytes_of_block * facts.blocks)) (facts_at v request.path))
fails v s call request causes.Empty = call.is_empty v request
fails v s call request causes.NoCall = false
fails v s call request causes.StarProperty = breaks_star v s (call.raises request)
