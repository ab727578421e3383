-- The answer of each rule, from the facts that it looks at, and the facts of a state.
use Rattle.std.specs.Prelude.{ℕ, List, [], Bool, false, ◌&&◌, not, Option, Some, None, is_some, unwrap_or, option_map, find as first, if◌then◌else◌}
use Rattle.bk_level.specs.Levels.{Level, dominates, lowest, level_at}
use Rattle.bk_path.specs.Paths.{parent, is_root}
use Rattle.bk_object.specs.Modes.{Write, no_modes, is_within}
use Rattle.bk_object.specs.Kinds.{kind_modes}
use Rattle.bk_object.specs.Rows.{in_row}
use Rattle.bk_object.specs.declared.Facts.{Facts}
use Rattle.bk_object.specs.declared.Kind.TheVariants.{Directory}
use Rattle.bk_object.specs.declared.Modes.{Modes}
use Rattle.bk_state.specs.declared.cause.CallCause.{CallCause}
use Rattle.bk_state.specs.declared.cause.CallCause.TheVariants as causes
use Rattle.bk_state.specs.declared.Rule.{Rule}
use Rattle.bk_state.specs.State.{State, facts_at, holds, current_level, greatest_level, level_of}
use Rattle.bk_state.specs.Allowed.{is_simple, is_star, by_mode}
use Rattle.bk_state.specs.Causes.{cause_number, is_no}
use Rattle.bk_state.specs.Named.{is_named}
use Rattle.bk_state.specs.Request.{Request}
use Rattle.bk_state.specs.KernelCall.{KernelCall, has_room, breaks_star}
use Rattle.bk_state.specs.Calls.{rule_call, rule_checks}
use Rattle.bk_rules.specs.declared.facts.RuleFacts.{RuleFacts}
use Rattle.bk_rules.specs.declared.answers.Decision.{Decision}
use Rattle.bk_rules.specs.declared.answers.Decision.TheVariants.{Yes, No, Unknown}

-- the rules by which a subject comes to hold an object by a mode
abbrev pub is_get : Rule → Bool
is_get rule = is_some (rule_call rule).mode

-- a request of which the modes alone are told
abbrev pub asking_for : Modes → Request
asking_for modes = record { path = []; modes = modes; subject = 0; kind = Directory; blocks = 0; level = 0; quota = 0; general = [] }

-- the greatest level doesn't dominate the object's, as far as the mode asks; or, where the call raises a level, the new one
abbrev pub is_above_greatest : RuleFacts → KernelCall → Option ℕ → Bool
is_above_greatest facts call None = not (by_mode (λ mode. is_simple mode facts.f_s facts.f_o) call.mode)
is_above_greatest facts call (Some level) = not (dominates facts.f_s facts.new_level)

-- the current level doesn't stand to the object's as the mode asks; or the new one doesn't dominate it
abbrev pub is_wrong_current : RuleFacts → KernelCall → Option ℕ → Bool
is_wrong_current facts call None = not (by_mode (λ mode. is_star mode facts.f_c facts.f_o) call.mode)
is_wrong_current facts call (Some level) = not (dominates facts.new_level facts.f_c)

-- the check of that cause fails, for the call that a rule is
abbrev pub fails : RuleFacts → KernelCall → CallCause → Bool
fails facts call causes.NotNamed = not facts.named
fails facts call causes.NoObject = not facts.there
fails facts call causes.WrongKind = not (call.is_for facts.kind && is_within (call.modes (asking_for facts.modes)) (kind_modes facts.kind))
fails facts call causes.IsRoot = facts.root
fails facts call causes.NoParentWrite = not facts.parent_write
fails facts call causes.NotInRow = not (is_within (call.modes (asking_for facts.modes)) facts.row)
fails facts call causes.AboveGreatest = is_above_greatest facts call (call.raises (asking_for no_modes))
fails facts call causes.WrongCurrent = is_wrong_current facts call (call.raises (asking_for no_modes))
fails facts call causes.LevelFalls = not (dominates facts.new_level facts.parent_level)
fails facts call causes.Taken = facts.taken
fails facts call causes.OverQuota = not facts.fits
fails facts call causes.StarProperty = not facts.rises
-- of the calls that are no rule, and of the words and arguments of a call
fails facts call causes.NotHeld = false
fails facts call causes.Empty = false
fails facts call causes.TooLong = false
fails facts call causes.NoCall = false
fails facts call causes.NoPath = false
fails facts call causes.BadArgument = false

-- the first of these checks of the rule that fails
abbrev pub first_of : List CallCause → RuleFacts → Rule → Option CallCause
first_of listed facts rule = first (fails facts (rule_call rule)) listed

-- the first of the rule's checks that fails
abbrev pub refusal_by : RuleFacts → Rule → Option CallCause
refusal_by facts rule = first_of (rule_checks rule) facts rule

-- the decision for a cause: no, or `?`
abbrev pub answer_for : Option CallCause → Decision
answer_for None = Yes
answer_for (Some cause) = if is_no cause then No (cause_number cause) else Unknown (cause_number cause)

-- the answer by the first of the rule's checks that fails
abbrev pub answer : RuleFacts → Rule → Decision
answer facts rule = answer_for (refusal_by facts rule)

-- the level of an object, and the lowest where there is none
abbrev pub level_or_lowest : State → Option Facts → Level
level_or_lowest v facts = unwrap_or (option_map (level_of v) facts) lowest

-- the number of the level that is asked for: of the caller, where the rule raises it, and else of a new object
abbrev pub new_level_number : Rule → Request → ℕ
new_level_number rule request = unwrap_or ((rule_call rule).raises request) request.level

-- The facts of a subject's call of a rule in a state. Where there is no object, or no parent, what is said of it doesn't matter.
abbrev pub facts_of : State → (s : ℕ) → Rule → Request → RuleFacts
facts_of v s rule request = record {
  named = is_named v s request.path;
  there = is_some (facts_at v request.path);
  root = is_root request.path;
  kind = unwrap_or (option_map (λ facts. facts.kind) (facts_at v request.path)) Directory;
  row = unwrap_or (option_map (λ facts. in_row facts.row s) (facts_at v request.path)) no_modes;
  f_s = greatest_level v s;
  f_c = current_level v s;
  f_o = level_or_lowest v (facts_at v request.path);
  parent_write = holds v s (parent request.path) Write;
  parent_level = level_or_lowest v (facts_at v (parent request.path));
  new_level = level_at v.fixed.levels (new_level_number rule request);
  taken = is_some (facts_at v request.path);
  fits = has_room v request;
  rises = not (breaks_star v s ((rule_call rule).raises request));
  modes = request.modes;
}
