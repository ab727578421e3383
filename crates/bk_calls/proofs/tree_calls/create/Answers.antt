use Rattle.std.proofs.Common.{◌≡◌, ◌<◌, ◌≤◌, ◌∙◌, false, [], length, refl, sym, ap, subst, arith, is_some}
use Rattle.std.specs.Prelude.{OnOk}
use Rattle.std.specs.FinMap.{get}
use Rattle.bk_object.specs.declared.Facts.{Facts}
use Rattle.bk_path.specs.Paths.{parent}
use Rattle.bk_tree.specs.Kept.{IsFit}
use Rattle.bk_state.specs.Request.{new_facts, path_in, request_in}
use Rattle.bk_state.specs.declared.rule.Rule.TheVariants.{Create}
use Rattle.bk_store.specs.Stored.{Fits, HasDirectory, IsCreated, level_number}
use Rattle.bk_calls.proofs.NewObjects.{created-ok, new-below, new-fits, new-free, new-level, new-parent, new-room, stands-new}
use Rattle.bk_calls.proofs.RuleChanges.{rule-made}
use Rattle.bk_calls.specs.declared.reply.Reply.{Reply}
use Rattle.bk_calls.proofs.tree_calls.create.Goals as goal

pub allowed-requires-clause-argument : goal.allowed-requires-clause-argument
allowed-requires-clause-argument c = λ words. sym (c.is_wrong_object-is_wrong.ensures c.args.caller.now words)

pub new_facts-facts-requires : goal.new_facts-facts-requires
new_facts-facts-requires c =
    let level = new-level c.args.caller.now c.args.store.now [] c.args.process.now.registers.general (c.in-Ok.ensures.1 []) in
    let few : length c.args.store.now.levels ≤ 64 = c.law_levels.ensures in
    omega (arith, level, few)

pub create-requires-clause-below_root : goal.create-requires-clause-below_root
create-requires-clause-below_root c = λ is. new-below c.args.caller.now c.args.store.now [] c.args.process.now.registers.general (c.in-Ok.ensures.1 []) (c.in-Ok.ensures.0 ∙ is)

pub create-requires-clause-parent : goal.create-requires-clause-parent
create-requires-clause-parent c = subst (λ p. HasDirectory c.args.store.now (parent p)) c.in-Ok.ensures.0 (new-parent c.args.caller.now c.args.store.now [] c.args.process.now.registers.general (c.in-Ok.ensures.1 []))

pub create-requires-clause-fit : goal.create-requires-clause-fit
create-requires-clause-fit c =
    let number : c.level_number.result ≡ level_number c.args.store.now (parent c.in-Ok.path) = c.level_number.ensures ∙ ap (level_number c.args.store.now) c.above.ensures in
    subst (λ (f : Facts). IsFit f (level_number c.args.store.now (parent c.in-Ok.path))) (sym c.new_facts-facts.ensures)
    (subst (λ n. IsFit (new_facts (request_in c.args.process.now.registers.general) c.level_number.result) n) number
    (new-fits c.args.caller.now c.args.store.now [] c.args.process.now.registers.general (c.in-Ok.ensures.1 []) c.level_number.result))

pub create-requires-clause-level : goal.create-requires-clause-level
create-requires-clause-level c = subst (λ (f : Facts). f.level < length c.args.store.now.levels) (sym c.new_facts-facts.ensures) (new-level c.args.caller.now c.args.store.now [] c.args.process.now.registers.general (c.in-Ok.ensures.1 []))

pub unwrap-requires : goal.unwrap-requires
unwrap-requires c =
    let store = c.args.store.now in
    let general = c.args.process.now.registers.general in
    let at = c.in-Ok.ensures.0 in
    let number : c.level_number.result ≡ level_number store (parent (path_in general)) = c.level_number.ensures ∙ ap (level_number store) (c.above.ensures ∙ ap parent (sym at)) in
    created-ok c.create.result
    (λ taken. let there = c.create.ensures.taken.0 taken in let free = subst (λ p. is_some (get store.objects p) ≡ false) at (new-free c.args.caller.now store [] general (c.in-Ok.ensures.1 [])) in cc)
    (λ over. (c.create.ensures.quota.0 over).1 (subst (λ p. Fits store p c.new_facts-facts.result) at (subst (λ (f : Facts). Fits store (path_in general) f) (sym c.new_facts-facts.ensures)
    (new-room c.args.caller.now store [] general (c.in-Ok.ensures.1 []) c.level_number.result number))))

pub returns-in-Ok-clause-made : goal.returns-in-Ok-clause-made
returns-in-Ok-clause-made c =
    let store = c.args.store.now in
    let general = c.args.process.now.registers.general in
    let number : c.level_number.result ≡ level_number store (parent c.in-Ok.path) = c.level_number.ensures ∙ ap (level_number store) c.above.ensures in
    let created : IsCreated store c.create.new.self c.args.core.now.words c.create.new.core.words c.in-Ok.path c.new_facts-facts.result =
    subst (λ r. OnOk r (IsCreated store c.create.new.self c.args.core.now.words c.create.new.core.words c.in-Ok.path c.new_facts-facts.result)) c.unwrap.ensures c.create.ensures.ok in
    rule-made c.args.caller.now store c.create.new.self c.args.core.now.words c.create.new.core.words c.args.process.now c.agree.new.process c.agree.result Create refl c.in-Ok.ensures.1
    (stands-new c.args.caller.now store c.create.new.self c.args.core.now.words c.create.new.core.words general c.in-Ok.path c.new_facts-facts.result c.level_number.result c.in-Ok.ensures.0 number c.new_facts-facts.ensures created)
    c.create.ensures.kernel c.agree.ensures.process c.agree.ensures.reply

pub returns-in-Ok-clause-extents : goal.returns-in-Ok-clause-extents
returns-in-Ok-clause-extents c = λ other. absurd (other (ap (λ (r : Reply). r.answer) c.agree.ensures.reply))
