use Rattle.std.proofs.Common.{◌≡◌, Option, ◌∙◌, sym, ap, subst}
use Rattle.std.specs.Prelude.{option_map, unwrap_or}
use Rattle.bk_level.specs.Levels.{level_at, lowest}
use Rattle.bk_object.specs.declared.Facts.{Facts}
use Rattle.bk_path.specs.Paths.{parent}
use Rattle.bk_rules.specs.Decisions.{refusal_by, facts_of, level_or_lowest}
use Rattle.bk_state.specs.State.{facts_at}
use Rattle.bk_state.specs.Request.{request_in}
use Rattle.bk_state.specs.declared.rule.Rule.TheVariants.{Create}
use Rattle.bk_store.specs.Stored.{facts_in, HasDirectory}
use Rattle.bk_calls.specs.Decided.{facts_there}
use Rattle.bk_calls.specs.Made.{seen_by}
use Rattle.bk_calls.proofs.Seen.{facts-seen, named-below}
use Rattle.bk_calls.proofs.RuleChecks.{only-fits}
use Rattle.bk_calls.proofs.new_object.facts_of_new.Goals as goal

pub returns : goal.returns
returns c = λ words.
    let store = c.args.store.now in
    let caller = c.args.caller.now in
    let v = seen_by caller store words in
    let request = request_in c.args.process.now.registers.general in
    let there : c.facts_there-facts.result ≡ facts_there v caller.subject Create request = c.facts_there-facts.ensures words Create request c.requires.path (sym c.modes_of.ensures) in
    let above : c.above-above.result ≡ parent request.path = c.above-above.ensures ∙ ap parent (sym c.requires.path) in
    let parent_facts : c.facts.result ≡ facts_at v (parent request.path) = c.facts.ensures ∙ ap (facts_in store) above ∙ sym (facts-seen caller store words (parent request.path)) in
    let level : c.level_of-facts.result ≡ level_or_lowest v (facts_at v (parent request.path)) = c.level_of-facts.ensures ∙ ap (λ (o : Option Facts). unwrap_or (option_map (λ facts. level_at store.levels facts.level) o) lowest) parent_facts in
    (λ i. refusal_by (record (there i) { parent_level = level i; new_level = c.level_at-facts.ensures i; fits = c.has_room.result }) Create)
    ∙ only-fits (facts_of v caller.subject Create request) c.has_room.result (λ named below.
    c.has_room.ensures (subst (λ p. HasDirectory store p) (sym above) (named-below caller store words caller.subject request.path named below)) caller words (sym above))
