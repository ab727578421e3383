-- The checks over the facts of a state fail as those of the state do, as far as they are made.
use Rattle.std.proofs.Common.{◌≡◌, ◌∙◌, ℕ, Bool, true, false, ◌&&◌, ◌||◌, List, [], ◌∷◌, Option, Some, None, refl, sym, ap}
use Rattle.std.specs.Prelude.{not, is_some, is_none, unwrap_or, option_map, find as first}
use Rattle.bk_level.specs.Levels.{dominates, lowest, level_at}
use Rattle.bk_path.specs.Paths.{Path}
use Rattle.bk_object.specs.Modes.{Read, Write, is_within, no_modes}
use Rattle.bk_object.specs.Kinds.{kind_modes, is_directory}
use Rattle.bk_object.specs.Rows.{in_row}
use Rattle.bk_object.specs.declared.Kind.TheVariants.{Directory}
use Rattle.bk_object.specs.declared.Facts.{Facts}
use Rattle.bk_quota.specs.Charges.{passes}
use Rattle.bk_state.specs.State.{State, facts_at, holds, current_level, greatest_level, level_of}
use Rattle.bk_state.specs.Allowed.{is_simple, is_star, by_mode}
use Rattle.bk_state.specs.Request.{Request}
use Rattle.bk_state.specs.KernelCall as model
use Rattle.bk_state.specs.KernelCall.{KernelCall}
use Rattle.bk_state.specs.Calls.{rule_call, rule_checks, refusal}
use Rattle.bk_state.specs.declared.cause.CallCause.{CallCause}
use Rattle.bk_state.specs.declared.cause.CallCause.TheVariants.{NotInRow, AboveGreatest, WrongCurrent, StarProperty, NoParentWrite, IsRoot, NotNamed, WrongKind, NoObject}
use Rattle.bk_state.specs.declared.Rule.{Rule}
use Rattle.bk_state.specs.declared.Rule.TheVariants.{GetRead, GetAppend, GetExecute, GetWrite, Release, Give, Rescind, Create, DeleteGroup, RaiseLevel}
use Rattle.bk_rules.specs.Decisions as Decisions
use Rattle.bk_rules.specs.Decisions.{asking_for, fails, refusal_by, facts_of}

-- each check fails as the other's, as long as none before it failed
abbrev Agree : (f g : CallCause → Bool) → List CallCause → Type 0
Agree f g [] = Unit {0}
Agree f g (c ∷ cs) = (f c ≡ g c) × (g c ≡ false → Agree f g cs)

first-agree : (f g : CallCause → Bool) (cs : List CallCause) → Agree f g cs → first f cs ≡ first g cs
first-agree f g [] same = refl
first-agree f g (c ∷ cs) same = by (g c) refl (λ e. first-agree f g cs (same.1 e))
  where
    by : (b : Bool) → g c ≡ b → (b ≡ false → first f cs ≡ first g cs) → first f (c ∷ cs) ≡ first g (c ∷ cs)
    by true is rest = rw (same.0, is) refl
    by false is rest = rw (same.0, is) (rest refl)

some_or_none : {A : Type 0} (o : Option A) → not (is_some o) ≡ is_none o
some_or_none None = refl
some_or_none (Some x) = refl

-- a test of what an object's facts say, where there is an object
tested : {A : Type 0} (of : Facts → A) (other : A) (test : A → Bool) (o : Option Facts) → is_none o ≡ false → not (test (unwrap_or (option_map of o) other)) ≡ not (passes (λ facts. test (of facts)) o)
tested of other test None there = cc
tested of other test (Some facts) there = refl

module _ (v : State) (s : ℕ) (rule : Rule) (call : KernelCall) (request : Request) (same : call.modes (asking_for request.modes) ≡ call.modes request) (lies : (r : Request) → call.raises r ≡ None) where
  abbrev by_facts : CallCause → Bool
  by_facts = fails (facts_of v s rule request) call

  abbrev by_state : CallCause → Bool
  by_state = model.fails v s call request

  no_object : by_facts NoObject ≡ by_state NoObject
  no_object = some_or_none (facts_at v request.path)

  wrong_kind : by_state NoObject ≡ false → by_facts WrongKind ≡ by_state WrongKind
  wrong_kind there =
      tested (λ facts. facts.kind) Directory (λ kind. call.is_for kind && is_within (call.modes (asking_for request.modes)) (kind_modes kind)) (facts_at v request.path) there
      ∙ ap (λ modes. not (passes (λ (facts : Facts). call.is_for facts.kind && is_within modes (kind_modes facts.kind)) (facts_at v request.path))) same

  not_in_row : by_state NoObject ≡ false → by_facts NotInRow ≡ by_state NotInRow
  not_in_row there =
      tested (λ facts. in_row facts.row s) no_modes (λ row. is_within (call.modes (asking_for request.modes)) row) (facts_at v request.path) there
      ∙ ap (λ modes. not (passes (λ (facts : Facts). is_within modes (in_row facts.row s)) (facts_at v request.path))) same

  above_greatest : by_state NoObject ≡ false → by_facts AboveGreatest ≡ by_state AboveGreatest
  above_greatest there =
      ap (Decisions.is_above_greatest (facts_of v s rule request) call) (lies (asking_for no_modes)) ∙ tested (level_of v) lowest (λ level. by_mode (λ mode. is_simple mode (greatest_level v s) level) call.mode) (facts_at v request.path) there
      ∙ ap (model.is_above_greatest v s call request) (sym (lies request))

  wrong_current : by_state NoObject ≡ false → by_facts WrongCurrent ≡ by_state WrongCurrent
  wrong_current there =
      ap (Decisions.is_wrong_current (facts_of v s rule request) call) (lies (asking_for no_modes)) ∙ tested (level_of v) lowest (λ level. by_mode (λ mode. is_star mode (current_level v s) level) call.mode) (facts_at v request.path) there
      ∙ ap (model.is_wrong_current v s call request) (sym (lies request))

  get_with_greatest : Agree by_facts by_state (NotNamed ∷ NoObject ∷ WrongKind ∷ NotInRow ∷ AboveGreatest ∷ WrongCurrent ∷ [])
  get_with_greatest = (refl, λ named. (no_object, λ there. (wrong_kind there, λ fits. (not_in_row there, λ granted. (above_greatest there, λ under. (wrong_current there, λ last. tt))))))

  get_append : Agree by_facts by_state (NotNamed ∷ NoObject ∷ WrongKind ∷ NotInRow ∷ WrongCurrent ∷ [])
  get_append = (refl, λ named. (no_object, λ there. (wrong_kind there, λ fits. (not_in_row there, λ granted. (wrong_current there, λ last. tt)))))

  change_row : Agree by_facts by_state (NotNamed ∷ NoObject ∷ WrongKind ∷ IsRoot ∷ NoParentWrite ∷ [])
  change_row = (refl, λ named. (no_object, λ there. (wrong_kind there, λ fits. (refl, λ child. (refl, λ written. tt)))))

  delete_group : Agree by_facts by_state (NotNamed ∷ NoObject ∷ IsRoot ∷ NoParentWrite ∷ [])
  delete_group = (refl, λ named. (no_object, λ there. (refl, λ child. (refl, λ written. tt))))

-- a raise: each check is made over the same words
raise : (v : State) (s : ℕ) (request : Request) →
    Agree (fails (facts_of v s RaiseLevel request) (rule_call RaiseLevel)) (model.fails v s (rule_call RaiseLevel) request) (rule_checks RaiseLevel)
raise v s request = (refl, λ under. (refl, λ above. (twice (model.fails v s (rule_call RaiseLevel) request StarProperty), λ last. tt)))
  where
    twice : (b : Bool) → not (not b) ≡ b
    twice true = refl
    twice false = refl

-- who names a child has a parent that is there
parent_there : (test : Facts → Bool) (held : Bool) (o : Option Facts) → not (passes test o && held) ≡ false → is_none o ≡ false
parent_there test held None named = cc
parent_there test held (Some facts) named = refl

-- the request of which the path is another
abbrev at : Request → Path → Request
at request path = record request { path = path }

create : (v : State) (s : ℕ) (request : Request) (path : Path) →
    Agree (fails (facts_of v s Create (at request path)) (rule_call Create)) (model.fails v s (rule_call Create) (at request path)) (rule_checks Create)
create v s request [] = (refl, λ named. (refl, λ child. cc))
create v s request (entry ∷ path) = (
  refl,
  λ named. (
    refl,
    λ child. (
      refl,
      λ written. (
        tested (level_of v) lowest (λ above. dominates (level_at v.fixed.levels request.level) above) (facts_at v path) (parent_there (λ facts. is_directory facts.kind) (holds v s path Read || holds v s path Write) (facts_at v path) named),
        λ rises. (refl, λ free. (refl, λ room. tt)),
      ),
    ),
  ),
)

by_agree : (v : State) (s : ℕ) (rule : Rule) (request : Request) → Agree (fails (facts_of v s rule request) (rule_call rule)) (model.fails v s (rule_call rule) request) (rule_checks rule) →
    refusal_by (facts_of v s rule request) rule ≡ first (model.fails v s (rule_call rule) request) (rule_checks rule)
by_agree v s rule request same = first-agree (fails (facts_of v s rule request) (rule_call rule)) (model.fails v s (rule_call rule) request) (rule_checks rule) same

pub answers_agree : (v : State) (s : ℕ) (rule : Rule) (request : Request) → refusal_by (facts_of v s rule request) rule ≡ refusal v s rule request
unfolding refusal
answers_agree v s GetRead request = by_agree v s GetRead request (get_with_greatest v s GetRead (rule_call GetRead) request refl (λ r. refl))
answers_agree v s GetAppend request = by_agree v s GetAppend request (get_append v s GetAppend (rule_call GetAppend) request refl (λ r. refl))
answers_agree v s GetExecute request = by_agree v s GetExecute request (get_with_greatest v s GetExecute (rule_call GetExecute) request refl (λ r. refl))
answers_agree v s GetWrite request = by_agree v s GetWrite request (get_with_greatest v s GetWrite (rule_call GetWrite) request refl (λ r. refl))
answers_agree v s Release request = refl
answers_agree v s Give request = by_agree v s Give request (change_row v s Give (rule_call Give) request refl (λ r. refl))
answers_agree v s Rescind request = by_agree v s Rescind request (change_row v s Rescind (rule_call Rescind) request refl (λ r. refl))
answers_agree v s Create request = by_agree v s Create request (create v s request request.path)
answers_agree v s DeleteGroup request = by_agree v s DeleteGroup request (delete_group v s DeleteGroup (rule_call DeleteGroup) request refl (λ r. refl))
answers_agree v s RaiseLevel request = by_agree v s RaiseLevel request (raise v s request)
