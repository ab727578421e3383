-- What a rule is decided from, and what a call of a rule finds once its checks have passed.
use Rattle.std.specs.Prelude.{◌≡◌, ℕ, Bool, true, false, List, Some, None, Result, Ok, Err}
use Rattle.bk_level.specs.Levels.{level_at, lowest}
use Rattle.bk_object.specs.Modes.{no_modes}
use Rattle.bk_object.specs.declared.Kind.TheVariants.{Directory}
use Rattle.bk_path.specs.Paths.{Path}
use Rattle.bk_rules.specs.Decisions.{facts_of}
use Rattle.bk_rules.specs.declared.facts.RuleFacts.{RuleFacts}
use Rattle.bk_state.specs.Allowed.{may_rise}
use Rattle.bk_state.specs.State.{State, current_level, greatest_level}
use Rattle.bk_state.specs.Request.{Request, path_in}
use Rattle.bk_state.specs.Calls.{call_refusal}
use Rattle.bk_state.specs.declared.call.Call.TheVariants.{ByRule}
use Rattle.bk_state.specs.declared.cause.CallCause.{CallCause}
use Rattle.bk_state.specs.declared.rule.Rule.{Rule}
use Rattle.bk_state.specs.declared.rule.Rule.TheVariants.{GetRead, GetAppend, GetExecute, GetWrite, Release, Give, Rescind, Create, DeleteGroup, RaiseLevel}
use Rattle.bk_store.specs.Stored.{Stored}
use Rattle.bk_calls.specs.Made.{seen_by}
use Rattle.bk_calls.specs.declared.caller.Caller.{Caller}

-- the rules of an object, which is told by its path: all but the raise of a level
abbrev pub has_path : Rule → Bool
has_path GetRead = true
has_path GetAppend = true
has_path GetExecute = true
has_path GetWrite = true
has_path Release = true
has_path Give = true
has_path Rescind = true
has_path Create = true
has_path DeleteGroup = true
has_path RaiseLevel = false

-- the facts at which each rule of an object that is there looks: not those of a new object, and not those of a level to rise to
abbrev pub facts_there : State → (s : ℕ) → Rule → Request → RuleFacts
facts_there v s rule request = record (facts_of v s rule request) { parent_level = lowest; new_level = lowest; fits = false; rises = false }

-- the facts at which the raise of a level looks: the caller's levels, the new one, and what the caller holds
abbrev pub facts_of_raise : State → (s : ℕ) → (level : ℕ) → RuleFacts
facts_of_raise v s level = record {
  named = false;
  there = false;
  root = false;
  kind = Directory;
  row = no_modes;
  f_s = greatest_level v s;
  f_c = current_level v s;
  f_o = lowest;
  parent_write = false;
  parent_level = lowest;
  new_level = level_at v.fixed.levels level;
  taken = false;
  fits = false;
  rises = may_rise v s level;
  modes = no_modes;
}

-- the path is told where no check of the rule fails, and else the cause
abbrev pub Allows : Caller → Stored → Rule → (general : List ℕ) → Result Path CallCause → Type 0
Allows caller store rule general (Ok path) = (path_in general ≡ path) × ((words : List ℕ) → call_refusal (seen_by caller store words) caller.subject (ByRule rule) general ≡ None)
Allows caller store rule general (Err cause) = (words : List ℕ) → call_refusal (seen_by caller store words) caller.subject (ByRule rule) general ≡ Some cause
