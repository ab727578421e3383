-- What is made of a call of a rule that no check refuses.
use Rattle.std.proofs.Common.{◌≡◌, ◌≢◌, ◌*◌, ℕ, ◌<◌, Bool, true, false, ◌||◌, List, [], ◌∷◌, length, take, Option, Some, None, refl, sym, ap, subst, ◌∙◌, arith}
use Rattle.std.specs.Prelude.{is_none, is_some, nat_le, slice_index, option_map, find as first, if◌then◌else◌}
use Rattle.std.proofs.lemmas.List.{length-replicate}
use Rattle.std.proofs.lemmas.Bool.Decides.{nat_tests}
use Rattle.std.specs.FinMap as finite
use Rattle.bk_object.specs.declared.modes.Modes.{Modes}
use Rattle.bk_object.specs.Modes.{Read, Execute, Write, Append}
use Rattle.bk_object.specs.Limits.{words_of_block}
use Rattle.bk_object.specs.Rows.{given, rescinded}
use Rattle.bk_path.specs.Paths.{Path, is_root}
use Rattle.bk_process.specs.declared.process.Process.{Process}
use Rattle.bk_rules.specs.Decisions.{is_get}
use Rattle.bk_state.specs.State.{State, Fixed, Object, find, facts_at}
use Rattle.bk_state.specs.Request.{Request, is_outside, path_in, request_in}
use Rattle.bk_state.specs.KernelCall.{fails}
use Rattle.bk_state.specs.AccessCalls.{without_triples}
use Rattle.bk_state.specs.RowCalls.{changed_by, with_row}
use Rattle.bk_state.specs.Calls.{call_refusal, changed, refusal, rule_call, rule_checks}
use Rattle.bk_state.specs.declared.cause.CallCause.{CallCause}
use Rattle.bk_state.specs.Answers.{outcome, reply, with_values}
use Rattle.bk_state.specs.declared.call.Call.TheVariants.{ByRule}
use Rattle.bk_state.specs.declared.rule.Rule.{Rule}
use Rattle.bk_state.specs.declared.rule.Rule.TheVariants.{GetRead, GetAppend, GetExecute, GetWrite, Release, Give, Rescind, Create, DeleteGroup, RaiseLevel}
use Rattle.bk_store.specs.Stored.{Entry, Stored, IsThere, with_held, without_held, with_given, with_rescinded, without_group}
use Rattle.bk_core.specs.Memory.{kernel_blocks}
use Rattle.bk_store.specs.Stands.{StandsFor}
use Rattle.bk_store.proofs.Stands.{stands-held, stands-released, stands-given, stands-rescinded, stands-deleted}
use Rattle.bk_calls.specs.Decided.{has_path}
use Rattle.bk_calls.specs.Made.{line_byte, seen_by, made_by, IsMade}
use Rattle.bk_calls.specs.declared.caller.Caller.{Caller}
use Rattle.bk_calls.specs.declared.reply.Answer.TheVariants.{Yes}
use Rattle.bk_calls.specs.declared.reply.Reply.{Reply}
use Rattle.bk_calls.proofs.RuleChecks.{is_wrong, refusal-after, refusal_after, no_path}
use Rattle.bk_calls.proofs.Seen.{facts-seen, subjects-seen, stands-seen, with_lines}
use Rattle.bk_calls.proofs.Serving.{agreed-made}

-- no change looks at the lines
lines-by : (store : Stored) (v : State) (path : Path) (change : Object → Object) (o : Option Object) → changed_by (with_lines store v) path change o ≡ with_lines store (changed_by v path change o)
lines-by store v path change None = refl
lines-by store v path change (Some object) = refl

changed-lines : (store : Stored) (v : State) (s : ℕ) (rule : Rule) (request : Request) → changed (with_lines store v) s rule request ≡ with_lines store (changed v s rule request)
unfolding changed
changed-lines store v s GetRead request = refl
changed-lines store v s GetAppend request = refl
changed-lines store v s GetExecute request = refl
changed-lines store v s GetWrite request = refl
changed-lines store v s Release request = refl
changed-lines store v s Give request = lines-by store v request.path (with_row (given request.subject request.modes)) (find v request.path)
changed-lines store v s Rescind request = lines-by store (without_triples v request.subject request.path request.modes) request.path (with_row (rescinded request.subject request.modes)) (find v request.path)
changed-lines store v s Create request = refl
changed-lines store v s DeleteGroup request = refl
changed-lines store v s RaiseLevel request = refl

-- nor changes what no event changes
fixed-by : (v : State) (path : Path) (change : Object → Object) (o : Option Object) → (changed_by v path change o).fixed ≡ v.fixed
fixed-by v path change None = refl
fixed-by v path change (Some object) = refl

changed-fixed : (v : State) (s : ℕ) (rule : Rule) (request : Request) → (changed v s rule request).fixed ≡ v.fixed
unfolding changed
changed-fixed v s GetRead request = refl
changed-fixed v s GetAppend request = refl
changed-fixed v s GetExecute request = refl
changed-fixed v s GetWrite request = refl
changed-fixed v s Release request = refl
changed-fixed v s Give request = fixed-by v request.path (with_row (given request.subject request.modes)) (find v request.path)
changed-fixed v s Rescind request = fixed-by (without_triples v request.subject request.path request.modes) request.path (with_row (rescinded request.subject request.modes)) (find v request.path)
changed-fixed v s Create request = refl
changed-fixed v s DeleteGroup request = refl
changed-fixed v s RaiseLevel request = refl

-- each of the checks passes
abbrev pub AllPass : (CallCause → Bool) → List CallCause → Type 0
AllPass f [] = Unit {0}
AllPass f (cause ∷ causes) = (f cause ≡ false) × AllPass f causes

all-pass : (f : CallCause → Bool) (causes : List CallCause) → first f causes ≡ None → AllPass f causes
all-pass f [] none = tt
all-pass f (cause ∷ causes) none = by (f cause) refl none (all-pass f causes)
  where
    by : (b : Bool) → f cause ≡ b → (if b then Some cause else first f causes) ≡ None → (first f causes ≡ None → AllPass f causes) → AllPass f (cause ∷ causes)
    by true is e rest = cc
    by false is e rest = (is, rest e)

module _ (caller : Caller) (store : Stored) (words general : List ℕ) (rule : Rule) (none : call_refusal (seen_by caller store words) caller.subject (ByRule rule) general ≡ None) where
  abbrev v : State
  v = seen_by caller store words

  both_none : (a b : Bool) (later : Option CallCause) → refusal_after a b later ≡ None → (b ≡ false) × (later ≡ None)
  both_none true b later e = cc
  both_none false true later e = cc
  both_none false false later e = (refl, e)

  pub bounds-kept : is_wrong v rule general ≡ false
  bounds-kept = (both_none (no_path v caller.subject general rule) (is_wrong v rule general) (refusal v caller.subject rule (request_in general)) (sym (refusal-after v caller.subject general rule) ∙ none)).0

  pub checks-passed : AllPass (fails v caller.subject (rule_call rule) (request_in general)) (rule_checks rule)
  unfolding refusal
  checks-passed = all-pass (fails v caller.subject (rule_call rule) (request_in general)) (rule_checks rule) (both_none (no_path v caller.subject general rule) (is_wrong v rule general) (refusal v caller.subject rule (request_in general)) (sym (refusal-after v caller.subject general rule) ∙ none)).1

-- an object that is there in the state is there in the store
pub there-seen : (caller : Caller) (store : Stored) (words : List ℕ) (path : Path) → is_none (facts_at (seen_by caller store words) path) ≡ false → IsThere store path
there-seen caller store words path some = by (finite.get store.objects path) (ap is_none (sym (facts-seen caller store words path)) ∙ some)
  where
    by : (o : Option Entry) → is_none (option_map (λ (e : Entry). e.facts) o) ≡ false → is_some o ≡ true
    by None e = cc
    by (Some e) h = refl

-- the rules that change a row
abbrev pub is_given : Rule → Bool
is_given GetRead = false
is_given GetAppend = false
is_given GetExecute = false
is_given GetWrite = false
is_given Release = false
is_given Give = true
is_given Rescind = true
is_given Create = false
is_given DeleteGroup = false
is_given RaiseLevel = false

-- what an object has to be there for
abbrev pub is_of_object : Rule → Bool
is_of_object GetRead = true
is_of_object GetAppend = true
is_of_object GetExecute = true
is_of_object GetWrite = true
is_of_object Release = false
is_of_object Give = true
is_of_object Rescind = true
is_of_object Create = false
is_of_object DeleteGroup = true
is_of_object RaiseLevel = false

pub object-there : (caller : Caller) (store : Stored) (general : List ℕ) (rule : Rule) (path : Path) → path_in general ≡ path → is_of_object rule ≡ true →
    ((words : List ℕ) → call_refusal (seen_by caller store words) caller.subject (ByRule rule) general ≡ None) → IsThere store path
object-there caller store general rule path at of none = subst (IsThere store) at (there-seen caller store [] (path_in general) (second rule of (checks-passed caller store [] general rule (none []))))
  where
    second : (r : Rule) → is_of_object r ≡ true → AllPass (fails (seen_by caller store []) caller.subject (rule_call r) (request_in general)) (rule_checks r) → is_none (facts_at (seen_by caller store []) (path_in general)) ≡ false
    second GetRead h passed = passed.1.0
    second GetAppend h passed = passed.1.0
    second GetExecute h passed = passed.1.0
    second GetWrite h passed = passed.1.0
    second Release h passed = cc
    second Give h passed = passed.1.0
    second Rescind h passed = passed.1.0
    second Create h passed = cc
    second DeleteGroup h passed = passed.1.0
    second RaiseLevel h passed = cc

-- what a rule of an object gives: R0 and R1 are 0, the process changes no further, no byte goes out, and no level is raised
pub record GivesNothing (rule : Rule) (v : State) (s : ℕ) (request : Request) (process : Process) : Type 0 where
  pub gives : (rule_call rule).gives v s request ≡ 0 ∷ 0 ∷ []
  pub alters : (rule_call rule).alters request process ≡ process
  pub sends : (rule_call rule).sends v request ≡ None
  pub raises : (rule_call rule).raises request ≡ None

gives-nothing : (rule : Rule) → has_path rule ≡ true → (v : State) (s : ℕ) (request : Request) (process : Process) → GivesNothing rule v s request process
gives-nothing GetRead has v s request process = record { gives = refl; alters = refl; sends = refl; raises = refl }
gives-nothing GetAppend has v s request process = record { gives = refl; alters = refl; sends = refl; raises = refl }
gives-nothing GetExecute has v s request process = record { gives = refl; alters = refl; sends = refl; raises = refl }
gives-nothing GetWrite has v s request process = record { gives = refl; alters = refl; sends = refl; raises = refl }
gives-nothing Release has v s request process = record { gives = refl; alters = refl; sends = refl; raises = refl }
gives-nothing Give has v s request process = record { gives = refl; alters = refl; sends = refl; raises = refl }
gives-nothing Rescind has v s request process = record { gives = refl; alters = refl; sends = refl; raises = refl }
gives-nothing Create has v s request process = record { gives = refl; alters = refl; sends = refl; raises = refl }
gives-nothing DeleteGroup has v s request process = record { gives = refl; alters = refl; sends = refl; raises = refl }
gives-nothing RaiseLevel has v s request process = cc

-- a rule that none of its checks refuses, and whose change the store has made
pub rule-made : (caller : Caller) (store after : Stored) (words words_after : List ℕ) (process process_after : Process) (told : Reply) (rule : Rule) → has_path rule ≡ true →
    ((ws : List ℕ) → call_refusal (seen_by caller store ws) caller.subject (ByRule rule) process.registers.general ≡ None) →
    StandsFor after words_after (changed (with_lines store (seen_by caller store words)) caller.subject rule (request_in process.registers.general)) →
    take (words_of_block * kernel_blocks) words_after ≡ take (words_of_block * kernel_blocks) words → process_after ≡ with_values (0 ∷ 0 ∷ []) process → told ≡ record { answer = Yes; sent = None; level = None } →
    IsMade store after words words_after process_after told (made_by caller store words process (ByRule rule))
unfolding outcome reply changed
rule-made caller store after words words_after process process_after told rule has none stands kernel became is =
    let v = seen_by caller store words in
    let request = request_in process.registers.general in
    let same = changed-lines store v caller.subject rule request in
    let fixed = changed-fixed (with_lines store v) caller.subject rule request in
    let nothing = gives-nothing rule has v caller.subject request process in
    agreed-made caller store words process process_after told (ByRule rule) after words_after (none words) (record {
      objects = stands.objects ∙ ap (λ (x : State). x.objects) same;
      access = stands.access ∙ ap (λ (x : State). x.access) same;
      levels = stands.levels ∙ ap (λ (f : Fixed). f.levels) fixed;
      lines = stands.lines ∙ ap (λ (f : Fixed). length f.lines) fixed ∙ length-replicate store.lines 0;
      process = became ∙ (λ i. with_values (sym nothing.gives i) (sym nothing.alters i));
      answer = ap (λ (r : Reply). r.answer) is;
      sent = ap (λ (r : Reply). r.sent) is ∙ ap (option_map line_byte) (sym nothing.sends);
      level = ap (λ (r : Reply). r.level) is ∙ sym nothing.raises;
      kernel = kernel;
    })

-- the subject holds the object by the mode of the rule too
pub stands-got : (caller : Caller) (store : Stored) (words : List ℕ) (s : ℕ) (rule : Rule) (request : Request) (path : Path) (modes : Modes) → is_get rule ≡ true →
    request.path ≡ path → modes ≡ (rule_call rule).modes request →
    StandsFor (with_held s path modes store) words (changed (with_lines store (seen_by caller store words)) s rule request)
unfolding changed
stands-got caller store words s rule request path modes get at is = subst (λ p. StandsFor (with_held s p modes store) words (changed (with_lines store (seen_by caller store words)) s rule request)) at (subst (λ m. StandsFor (with_held s request.path m store) words (changed (with_lines store (seen_by caller store words)) s rule request)) (sym is) (by rule get))
  where
    by : (r : Rule) → is_get r ≡ true → StandsFor (with_held s request.path ((rule_call r).modes request) store) words (changed (with_lines store (seen_by caller store words)) s r request)
    by GetRead h = stands-held store words (with_lines store (seen_by caller store words)) (stands-seen caller store words) s request.path Read
    by GetAppend h = stands-held store words (with_lines store (seen_by caller store words)) (stands-seen caller store words) s request.path Append
    by GetExecute h = stands-held store words (with_lines store (seen_by caller store words)) (stands-seen caller store words) s request.path Execute
    by GetWrite h = stands-held store words (with_lines store (seen_by caller store words)) (stands-seen caller store words) s request.path Write
    by Release h = cc
    by Give h = cc
    by Rescind h = cc
    by Create h = cc
    by DeleteGroup h = cc
    by RaiseLevel h = cc

-- the subject in R4 is one of those that are there
pub subject-there : (caller : Caller) (store : Stored) (general : List ℕ) (rule : Rule) → is_given rule ≡ true →
    ((words : List ℕ) → call_refusal (seen_by caller store words) caller.subject (ByRule rule) general ≡ None) → slice_index general 4 < caller.subjects
subject-there caller store general rule of none = subst (λ n. slice_index general 4 < n) (subjects-seen caller store []) (by rule of (bounds-kept caller store [] general rule (none [])))
  where
    below : (a : Bool) (n m : ℕ) → (a || nat_le n m) ≡ false → m < n
    below true n m e = cc
    below false n m e = grind (arith, nat_tests)

    by : (r : Rule) → is_given r ≡ true → is_wrong (seen_by caller store []) r general ≡ false → slice_index general 4 < length (seen_by caller store []).fixed.subjects
    by GetRead h kept = cc
    by GetAppend h kept = cc
    by GetExecute h kept = cc
    by GetWrite h kept = cc
    by Release h kept = cc
    by Give h kept = below (is_outside 1 15 (slice_index general 3)) (length (seen_by caller store []).fixed.subjects) (slice_index general 4) kept
    by Rescind h kept = below (is_outside 1 15 (slice_index general 3)) (length (seen_by caller store []).fixed.subjects) (slice_index general 4) kept
    by Create h kept = cc
    by DeleteGroup h kept = cc
    by RaiseLevel h kept = cc

-- what is deleted isn't root
pub not-root : (caller : Caller) (store : Stored) (general : List ℕ) (path : Path) → path_in general ≡ path →
    ((words : List ℕ) → call_refusal (seen_by caller store words) caller.subject (ByRule DeleteGroup) general ≡ None) → path ≢ []
not-root caller store general path at none is =
    let below = (checks-passed caller store [] general DeleteGroup (none [])).1.1.0 in
    let root : is_root (path_in general) ≡ true = ap is_root (at ∙ is) in
    cc

module _ (caller : Caller) (store : Stored) (words : List ℕ) (s : ℕ) (request : Request) (path : Path) (at : request.path ≡ path) where
  abbrev after_rule : Rule → State
  after_rule rule = changed (with_lines store (seen_by caller store words)) s rule request

  -- the subject no longer holds the object by these modes
  pub stands-let_go : (modes : Modes) → modes ≡ request.modes → StandsFor (without_held s path modes store) words (after_rule Release)
  unfolding changed
  stands-let_go modes is = subst (λ p. StandsFor (without_held s p modes store) words (after_rule Release)) at (subst (λ m. StandsFor (without_held s request.path m store) words (after_rule Release)) (sym is)
      (stands-released store words (with_lines store (seen_by caller store words)) (stands-seen caller store words) s request.path request.modes))

  -- the row grants more
  pub stands-granted : (subject : ℕ) (modes : Modes) → subject ≡ request.subject → modes ≡ request.modes → StandsFor (with_given subject path modes store) words (after_rule Give)
  unfolding changed
  stands-granted subject modes same is = subst (λ p. StandsFor (with_given subject p modes store) words (after_rule Give)) at (subst (λ m. StandsFor (with_given subject request.path m store) words (after_rule Give)) (sym is) (subst (λ n. StandsFor (with_given n request.path request.modes store) words (after_rule Give)) (sym same)
      (stands-given store words (with_lines store (seen_by caller store words)) (stands-seen caller store words) request.subject request.path request.modes)))

  -- and less
  pub stands-withdrawn : (subject : ℕ) (modes : Modes) → subject ≡ request.subject → modes ≡ request.modes → StandsFor (with_rescinded subject path modes store) words (after_rule Rescind)
  unfolding changed
  stands-withdrawn subject modes same is = subst (λ p. StandsFor (with_rescinded subject p modes store) words (after_rule Rescind)) at (subst (λ m. StandsFor (with_rescinded subject request.path m store) words (after_rule Rescind)) (sym is) (subst (λ n. StandsFor (with_rescinded n request.path request.modes store) words (after_rule Rescind)) (sym same)
      (stands-rescinded store words (with_lines store (seen_by caller store words)) (stands-seen caller store words) request.subject request.path request.modes)))

  -- the object and its inferiors go
  pub stands-gone : StandsFor (without_group path store) words (after_rule DeleteGroup)
  unfolding changed
  stands-gone = subst (λ p. StandsFor (without_group p store) words (after_rule DeleteGroup)) at (stands-deleted store words (with_lines store (seen_by caller store words)) (stands-seen caller store words) request.path)
