use Rattle.std.proofs.Common.{◌≡◌, false, ◌∙◌, sym, ap, refl}
use Rattle.bk_rules.specs.Decisions.{refusal_by}
use Rattle.bk_rules.proofs.AnswersAgree.{answers_agree}
use Rattle.bk_state.specs.Calls.{refusal}
use Rattle.bk_state.specs.Request.{request_in}
use Rattle.bk_state.specs.declared.rule.Rule.{Rule}
use Rattle.bk_state.specs.declared.rule.Rule.TheVariants.{GetRead, GetAppend, GetExecute, GetWrite, Release, Give, Rescind, Create, DeleteGroup, RaiseLevel}
use Rattle.bk_calls.specs.Made.{seen_by}
use Rattle.bk_calls.proofs.RuleChecks.{is_create, there-enough}
use Rattle.bk_calls.proofs.allowing.decided.Goals as goal

pub returns-in-Create : goal.returns-in-Create
returns-in-Create c = λ words.
    let v = seen_by c.args.caller.now c.args.store.now words in
    let request = request_in c.args.process.now.registers.general in
    c.refusal.ensures.first ∙ ap (refusal_by c.facts_of_new.result) c.in-Create.is ∙ c.facts_of_new.ensures words
    ∙ answers_agree v c.args.caller.now.subject Create request
    ∙ ap (λ r. refusal v c.args.caller.now.subject r request) (sym c.in-Create.is)

no_create : (rule : Rule) → (rule ≡ Create → ⊥) → is_create rule ≡ false
no_create GetRead h = refl
no_create GetAppend h = refl
no_create GetExecute h = refl
no_create GetWrite h = refl
no_create Release h = refl
no_create Give h = refl
no_create Rescind h = refl
no_create Create h = absurd (h refl)
no_create DeleteGroup h = refl
no_create RaiseLevel h = refl

pub returns-in_default : goal.returns-in_default
returns-in_default c = λ words.
    let v = seen_by c.args.caller.now c.args.store.now words in
    let request = request_in c.args.process.now.registers.general in
    c.refusal-in_default.ensures.first ∙ ap (λ facts. refusal_by facts c.args.rule) (c.facts_there.ensures words c.args.rule request c.requires.path (sym c.modes_of.ensures))
    ∙ there-enough v c.args.caller.now.subject c.args.rule request c.requires.of_object (no_create c.args.rule c.in_default.not-Create)
    ∙ answers_agree v c.args.caller.now.subject c.args.rule request
