use Rattle.std.proofs.Common.{sym, subst, refl, arith}
use Rattle.std.specs.Prelude.{slice_index}
use Rattle.bk_state.specs.Request.{request_in}
use Rattle.bk_state.specs.declared.rule.Rule.TheVariants.{Rescind}
use Rattle.bk_state.specs.Calls.{changed}
use Rattle.bk_store.specs.Stands.{StandsFor}
use Rattle.bk_store.specs.Stored.{Stored}
use Rattle.bk_calls.specs.Made.{seen_by}
use Rattle.bk_calls.proofs.Seen.{with_lines}
use Rattle.bk_calls.proofs.RuleChanges.{object-there, subject-there, rule-made, stands-withdrawn}
use Rattle.bk_object.specs.Rows.{rescinded}
use Rattle.bk_store.specs.Stored.{with_row, without_held}
use Rattle.bk_calls.proofs.Extents.{moved-extents}
use Rattle.bk_calls.proofs.row_calls.rescind.Goals as goal

pub allowed-requires-clause-argument : goal.allowed-requires-clause-argument
allowed-requires-clause-argument c = λ words. sym (c.is_wrong_grant-is_wrong.ensures c.args.store.now words)

pub overflow_cast-process : goal.overflow_cast-process
overflow_cast-process c = let there = subject-there c.args.caller.now c.args.store.now c.args.process.now.registers.general Rescind refl c.in-Ok.ensures.1 in omega (arith, there)

pub rescind-requires-clause-subject : goal.rescind-requires-clause-subject
rescind-requires-clause-subject c = let there = subject-there c.args.caller.now c.args.store.now c.args.process.now.registers.general Rescind refl c.in-Ok.ensures.1 in omega (arith, there)

pub rescind-requires-clause-there : goal.rescind-requires-clause-there
rescind-requires-clause-there c = object-there c.args.caller.now c.args.store.now c.args.process.now.registers.general Rescind c.in-Ok.path c.in-Ok.ensures.0 refl c.in-Ok.ensures.1

pub returns-in-Ok-clause-made : goal.returns-in-Ok-clause-made
returns-in-Ok-clause-made c = λ words.
    let store = c.args.store.now in
    let caller = c.args.caller.now in
    let request = request_in c.args.process.now.registers.general in
    rule-made caller store c.rescind.new.self words words c.args.process.now c.agree.new.process c.agree.result Rescind refl c.in-Ok.ensures.1
    (subst (λ (x : Stored). StandsFor x words (changed (with_lines store (seen_by caller store words)) caller.subject Rescind request)) (sym c.rescind.ensures)
    (stands-withdrawn caller store words caller.subject request c.in-Ok.path c.in-Ok.ensures.0 (slice_index c.args.process.now.registers.general 4) c.modes_of.result refl c.modes_of.ensures))
    refl c.agree.ensures.process c.agree.ensures.reply

pub returns-in-Ok-clause-extents : goal.returns-in-Ok-clause-extents
returns-in-Ok-clause-extents c =
    let subject = slice_index c.args.process.now.registers.general 4 in
    moved-extents (without_held subject c.in-Ok.path c.modes_of.result c.args.store.now) c.rescind.new.self c.in-Ok.path (with_row (rescinded subject c.modes_of.result)) c.rescind.ensures (λ e. refl)
