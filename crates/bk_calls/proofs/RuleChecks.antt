-- The checks of a call of a rule, one after another: the path, the arguments, and then those of the rule.
use Rattle.std.proofs.Common.{◌≡◌, ℕ, ◌<◌, ◌/◌, ◌%◌, Bool, true, false, ◌&&◌, ◌||◌, not, List, Option, Some, None, length, refl, sym, ap, ◌∙◌, arith}
use Rattle.std.proofs.lemmas.Bool.Decides.{nat_tests}
use Rattle.std.specs.Prelude.{is_none, slice_index, nat_le, if◌then◌else◌}
use Rattle.bk_path.specs.Paths.{Path, unpack}
use Rattle.bk_rules.specs.Decisions.{facts_of, is_get, refusal_by}
use Rattle.bk_rules.specs.declared.facts.RuleFacts.{RuleFacts}
use Rattle.bk_state.specs.Allowed.{may_rise}
use Rattle.bk_state.specs.State.{State}
use Rattle.bk_state.specs.Request.{Request, request_in}
use Rattle.bk_state.specs.TreeCalls.{is_no_object}
use Rattle.bk_state.specs.Calls.{call_refusal, refusal, rule_call}
use Rattle.bk_state.specs.declared.call.Call.TheVariants.{ByRule}
use Rattle.bk_state.specs.declared.cause.CallCause.{CallCause}
use Rattle.bk_state.specs.declared.cause.CallCause.TheVariants.{NoPath, BadArgument}
use Rattle.bk_state.specs.declared.rule.Rule.{Rule}
use Rattle.bk_state.specs.declared.rule.Rule.TheVariants.{GetRead, GetAppend, GetExecute, GetWrite, Release, Give, Rescind, Create, DeleteGroup, RaiseLevel}
use Rattle.bk_calls.specs.Decided.{facts_of_raise, facts_there, has_path}

abbrev pub is_create : Rule → Bool
is_create GetRead = false
is_create GetAppend = false
is_create GetExecute = false
is_create GetWrite = false
is_create Release = false
is_create Give = false
is_create Rescind = false
is_create Create = true
is_create DeleteGroup = false
is_create RaiseLevel = false

-- an argument of the rule is outside its range
abbrev pub is_wrong : State → Rule → (general : List ℕ) → Bool
is_wrong v rule general = (rule_call rule).is_wrong v (request_in general)

-- a rule by which an object comes to be held has no arguments
pub none-wrong : (v : State) (rule : Rule) (general : List ℕ) → is_get rule ≡ true → is_wrong v rule general ≡ false
none-wrong v GetRead general h = refl
none-wrong v GetAppend general h = refl
none-wrong v GetExecute general h = refl
none-wrong v GetWrite general h = refl
none-wrong v Release general h = cc
none-wrong v Give general h = cc
none-wrong v Rescind general h = cc
none-wrong v Create general h = cc
none-wrong v DeleteGroup general h = refl
none-wrong v RaiseLevel general h = cc

-- the first of all checks that fails, by whether the first two do
abbrev pub refusal_after : (no_path wrong : Bool) → Option CallCause → Option CallCause
refusal_after true wrong later = Some NoPath
refusal_after false true later = Some BadArgument
refusal_after false false later = later

module _ (v : State) (s : ℕ) (general : List ℕ) where
  -- a path is asked for, and the words are none
  abbrev pub no_path : Rule → Bool
  no_path rule = has_path rule && is_none (unpack (slice_index general 1) (slice_index general 2))

  -- a rule without arguments has none outside their ranges
  plain : (later : Option CallCause) (b : Bool) → (if b then Some NoPath else later) ≡ refusal_after b false later
  plain later true = refl
  plain later false = refl

  bounded : (later : Option CallCause) (b wrong : Bool) → (if b then Some NoPath else (if wrong then Some BadArgument else later)) ≡ refusal_after b wrong later
  bounded later true wrong = refl
  bounded later false true = refl
  bounded later false false = refl

  pub refusal-after : (rule : Rule) → call_refusal v s (ByRule rule) general ≡ refusal_after (no_path rule) (is_wrong v rule general) (refusal v s rule (request_in general))
  unfolding call_refusal refusal
  refusal-after GetRead = plain _ (no_path GetRead)
  refusal-after GetAppend = plain _ (no_path GetAppend)
  refusal-after GetExecute = plain _ (no_path GetExecute)
  refusal-after GetWrite = plain _ (no_path GetWrite)
  refusal-after Release = bounded _ (no_path Release) (is_wrong v Release general)
  refusal-after Give = bounded _ (no_path Give) (is_wrong v Give general)
  refusal-after Rescind = bounded _ (no_path Rescind) (is_wrong v Rescind general)
  refusal-after Create = bounded _ (no_path Create) (is_wrong v Create general)
  refusal-after DeleteGroup = plain _ (no_path DeleteGroup)
  refusal-after RaiseLevel = bounded _ (no_path RaiseLevel) (is_wrong v RaiseLevel general)

  -- a path that is there passes the first check, whether it is asked for or not
  past : (b wrong : Bool) (later : Option CallCause) → refusal_after (b && false) wrong later ≡ refusal_after false wrong later
  past true wrong later = refl
  past false wrong later = refl

  -- what the check of the path or of the arguments refuses, and what the rule decides after both
  pub no-path : (rule : Rule) → has_path rule ≡ true → None ≡ unpack (slice_index general 1) (slice_index general 2) → call_refusal v s (ByRule rule) general ≡ Some NoPath
  no-path rule has none = refusal-after rule ∙ (λ i. refusal_after (has i && is_none (sym none i)) (is_wrong v rule general) (refusal v s rule (request_in general)))

  pub bad-argument : (rule : Rule) (path : Path) → Some path ≡ unpack (slice_index general 1) (slice_index general 2) → is_wrong v rule general ≡ true → call_refusal v s (ByRule rule) general ≡ Some BadArgument
  bad-argument rule path at wrong = refusal-after rule ∙ (λ i. refusal_after (has_path rule && is_none (sym at i)) (wrong i) (refusal v s rule (request_in general))) ∙ past (has_path rule) true _

  pub by-rule : (rule : Rule) (path : Path) → Some path ≡ unpack (slice_index general 1) (slice_index general 2) → is_wrong v rule general ≡ false → call_refusal v s (ByRule rule) general ≡ refusal v s rule (request_in general)
  by-rule rule path at fit = refusal-after rule ∙ (λ i. refusal_after (has_path rule && is_none (sym at i)) (fit i) (refusal v s rule (request_in general))) ∙ past (has_path rule) false _

-- the bounds of create have its level in the list
pub level-there : (v : State) (general : List ℕ) → is_wrong v Create general ≡ false → slice_index general 4 < length v.fixed.levels
level-there v general fit = let last = neither (is_no_object (slice_index general 3 / 256) (slice_index general 3 % 256) (slice_index general 5)) (nat_le (length v.fixed.levels) (slice_index general 4)) fit in grind (arith, nat_tests)
  where
    neither : (a b : Bool) → (a || b) ≡ false → b ≡ false
    neither true b e = cc
    neither false b e = e

-- the facts of a new object are looked at by create alone, and those of a level to rise to by the raise
pub there-enough : (v : State) (s : ℕ) (rule : Rule) (request : Request) → has_path rule ≡ true → is_create rule ≡ false → refusal_by (facts_there v s rule request) rule ≡ refusal_by (facts_of v s rule request) rule
there-enough v s GetRead request has h = refl
there-enough v s GetAppend request has h = refl
there-enough v s GetExecute request has h = refl
there-enough v s GetWrite request has h = refl
there-enough v s Release request has h = refl
there-enough v s Give request has h = refl
there-enough v s Rescind request has h = refl
there-enough v s Create request has h = cc
there-enough v s DeleteGroup request has h = refl
there-enough v s RaiseLevel request has h = cc

-- a raise looks at no object's facts
pub raise-enough : (v : State) (s : ℕ) (request : Request) → refusal_by (facts_of_raise v s (slice_index request.general 3)) RaiseLevel ≡ refusal_by (facts_of v s RaiseLevel request) RaiseLevel
raise-enough v s request =
    ap (λ b. refusal_by (record (facts_of_raise v s (slice_index request.general 3)) { rises = b }) RaiseLevel) (twice (may_rise v s (slice_index request.general 3)))
  where
    twice : (b : Bool) → b ≡ not (not b)
    twice true = refl
    twice false = refl

-- where the object isn't named, or is root, it doesn't matter whether it fits
pub only-fits : (f : RuleFacts) (fits : Bool) → (f.named ≡ true → f.root ≡ false → fits ≡ f.fits) → refusal_by (record f { fits = fits }) Create ≡ refusal_by f Create
only-fits f fits same = by f.named f.root same
  where
    by : (named root : Bool) → (named ≡ true → root ≡ false → fits ≡ f.fits) → refusal_by (record f { named = named; root = root; fits = fits }) Create ≡ refusal_by (record f { named = named; root = root }) Create
    by false root h = refl
    by true true h = refl
    by true false h = ap (λ b. refusal_by (record f { named = true; root = false; fits = b }) Create) (h refl refl)
