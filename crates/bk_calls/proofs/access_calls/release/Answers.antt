use Rattle.std.proofs.Common.{sym, subst, refl}
use Rattle.bk_state.specs.Request.{request_in}
use Rattle.bk_state.specs.declared.rule.Rule.TheVariants.{Release}
use Rattle.bk_state.specs.Calls.{changed}
use Rattle.bk_store.specs.Stands.{StandsFor}
use Rattle.bk_store.specs.Stored.{Stored}
use Rattle.bk_calls.specs.Made.{seen_by}
use Rattle.bk_calls.proofs.Seen.{with_lines}
use Rattle.bk_calls.proofs.RuleChanges.{rule-made, stands-let_go}
use Rattle.bk_calls.specs.Shown.{SameExtents}
use Rattle.bk_calls.proofs.access_calls.release.Goals as goal

pub returns-in-Ok-clause-made : goal.returns-in-Ok-clause-made
returns-in-Ok-clause-made c = λ words.
    let store = c.args.store.now in
    let caller = c.args.caller.now in
    let request = request_in c.args.process.now.registers.general in
    rule-made caller store c.release.new.self words words c.args.process.now c.agree.new.process c.agree.result Release refl c.in-Ok.ensures.1
    (subst (λ (x : Stored). StandsFor x words (changed (with_lines store (seen_by caller store words)) caller.subject Release request)) (sym c.release.ensures)
    (stands-let_go caller store words caller.subject request c.in-Ok.path c.in-Ok.ensures.0 c.modes_of.result c.modes_of.ensures))
    refl c.agree.ensures.process c.agree.ensures.reply

pub returns-in-Ok-clause-extents : goal.returns-in-Ok-clause-extents
returns-in-Ok-clause-extents c = subst (λ (x : Stored). SameExtents c.args.store.now x) (sym c.release.ensures) (λ path. refl)
