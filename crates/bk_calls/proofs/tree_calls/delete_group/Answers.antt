use Rattle.std.proofs.Common.{sym, ap, subst, refl}
use Rattle.bk_state.specs.Request.{request_in}
use Rattle.bk_state.specs.declared.rule.Rule.TheVariants.{DeleteGroup}
use Rattle.bk_state.specs.Calls.{changed}
use Rattle.bk_store.specs.Stands.{StandsFor}
use Rattle.bk_store.specs.Stored.{Stored}
use Rattle.bk_calls.specs.Made.{seen_by}
use Rattle.bk_calls.proofs.Seen.{with_lines}
use Rattle.bk_calls.proofs.RuleChanges.{not-root, object-there, rule-made, stands-gone}
use Rattle.bk_calls.specs.declared.reply.Reply.{Reply}
use Rattle.bk_calls.proofs.tree_calls.delete_group.Goals as goal

pub delete_group-requires-clause-below_root : goal.delete_group-requires-clause-below_root
delete_group-requires-clause-below_root c = not-root c.args.caller.now c.args.store.now c.args.process.now.registers.general c.in-Ok.path c.in-Ok.ensures.0 c.in-Ok.ensures.1

pub delete_group-requires-clause-there : goal.delete_group-requires-clause-there
delete_group-requires-clause-there c = object-there c.args.caller.now c.args.store.now c.args.process.now.registers.general DeleteGroup c.in-Ok.path c.in-Ok.ensures.0 refl c.in-Ok.ensures.1

pub returns-in-Ok-clause-made : goal.returns-in-Ok-clause-made
returns-in-Ok-clause-made c = λ words.
    let store = c.args.store.now in
    let caller = c.args.caller.now in
    let request = request_in c.args.process.now.registers.general in
    rule-made caller store c.delete_group.new.self words words c.args.process.now c.agree.new.process c.agree.result DeleteGroup refl c.in-Ok.ensures.1
    (subst (λ (x : Stored). StandsFor x words (changed (with_lines store (seen_by caller store words)) caller.subject DeleteGroup request)) (sym c.delete_group.ensures)
    (stands-gone caller store words caller.subject request c.in-Ok.path c.in-Ok.ensures.0))
    refl c.agree.ensures.process c.agree.ensures.reply

pub returns-in-Ok-clause-extents : goal.returns-in-Ok-clause-extents
returns-in-Ok-clause-extents c = λ other. absurd (other (ap (λ (r : Reply). r.answer) c.agree.ensures.reply))
