use Rattle.std.proofs.Common.{◌≡◌, ◌&&◌, ◌∙◌, ◌*◌, ◌/◌, ap, refl, true, false, slice_index, [], arith}
use Rattle.std.specs.Prelude.{nat_lt}
use Rattle.std.proofs.lemmas.Bool.Decides.{nat_tests}
use Rattle.bk_state.specs.declared.cause.CallCause.TheVariants.{TooLong}
use Rattle.bk_object.specs.Kinds.{is_segment}
use Rattle.bk_state.specs.Answers.{outcome, reply}
use Rattle.bk_state.specs.Request.{path_in}
use Rattle.bk_state.specs.declared.call.Call.TheVariants.{Other}
use Rattle.bk_state.specs.declared.call.Service.TheVariants.{Deposit}
use Rattle.bk_calls.specs.declared.reply.Reply.{Reply}
use Rattle.bk_calls.proofs.Deposited.{deposit-moved, length-seen}
use Rattle.bk_calls.proofs.Reaching.{hit, skip}
use Rattle.bk_calls.proofs.Served.{passes-facts}
use Rattle.bk_calls.proofs.Serving.{agreed-made, decided, fails, found, refused-made, refused-reach}
use Rattle.bk_calls.proofs.segment_calls.deposit.Goals as goal

pub write_word-requires-clause-inside : goal.write_word-requires-clause-inside
write_word-requires-clause-inside c =
    let general = c.args.process.now.registers.general in
    let here = found c.args.caller.now c.args.store.now [] Deposit general c.reach.result c.in-Ok.reached (c.reach.ensures.reached Deposit (record { wrong = λ v. refl; modes = refl; sort = λ kind. refl; needs = refl })) c.in-Ok.is in
    let inside : nat_lt (slice_index general 3) (64 * c.in-Ok.reached.facts.blocks) ≡ true = grind (arith, nat_tests, c.if-offset-from.true, c.from.ensures) in
    passes-facts c.args.store.now c.in-Ok.reached.path c.in-Ok.reached.facts (λ facts. is_segment facts.kind && nat_lt (slice_index general 3) (64 * facts.blocks)) here.facts ∙ (λ i. here.kind i && inside i)

pub returns-in-Err : goal.returns-in-Err
returns-in-Err c = refused-reach c.args.caller.now c.args.store.now c.args.core.now.words c.args.process.now c.refuse.new.process c.refuse.result Deposit c.reach.result c.in-Err.cause refl (c.reach.ensures.reached Deposit (record { wrong = λ v. refl; modes = refl; sort = λ kind. refl; needs = refl })) c.in-Err.is c.refuse.ensures.process c.refuse.ensures.reply

pub returns-then-offset-from : goal.returns-then-offset-from
unfolding outcome reply
returns-then-offset-from c =
    let general = c.args.process.now.registers.general in
    let words = c.args.core.now.words in
    let here = found c.args.caller.now c.args.store.now words Deposit general c.reach.result c.in-Ok.reached (c.reach.ensures.reached Deposit (record { wrong = λ v. refl; modes = refl; sort = λ kind. refl; needs = refl })) c.in-Ok.is in
    let inside : nat_lt (slice_index general 3) (64 * c.in-Ok.reached.facts.blocks) ≡ true = grind (arith, nat_tests, c.if-offset-from.true, c.from.ensures) in
    let after = deposit-moved c.args.caller.now c.args.store.now words c.write_word.new.core.words (path_in general) c.in-Ok.reached.path here.path (slice_index general 3 / 2) (slice_index general 4) c.write_word.ensures.words in
    agreed-made c.args.caller.now c.args.store.now words c.args.process.now c.agree.new.process c.agree.result (Other Deposit) c.args.store.now c.write_word.new.core.words
    (decided c.args.caller.now c.args.store.now words Deposit general c.reach.result c.in-Ok.reached refl (c.reach.ensures.reached Deposit (record { wrong = λ v. refl; modes = refl; sort = λ kind. refl; needs = refl })) c.in-Ok.is
    ∙ skip (fails c.args.caller.now c.args.store.now words Deposit general) TooLong [] (length-seen c.args.caller.now c.args.store.now words (path_in general) c.in-Ok.reached.path c.in-Ok.reached.facts (slice_index general 3) true here.path here.facts inside))
    (record {
      objects = after.objects;
      access = after.access;
      levels = refl;
      lines = refl;
      process = c.agree.ensures.process;
      answer = ap (λ (r : Reply). r.answer) c.agree.ensures.reply;
      sent = ap (λ (r : Reply). r.sent) c.agree.ensures.reply;
      level = ap (λ (r : Reply). r.level) c.agree.ensures.reply;
      kernel = c.write_word.ensures.kernel;
    })

pub returns-else-offset-from : goal.returns-else-offset-from
returns-else-offset-from c =
    let general = c.args.process.now.registers.general in
    let words = c.args.core.now.words in
    let here = found c.args.caller.now c.args.store.now words Deposit general c.reach.result c.in-Ok.reached (c.reach.ensures.reached Deposit (record { wrong = λ v. refl; modes = refl; sort = λ kind. refl; needs = refl })) c.in-Ok.is in
    let beyond : nat_lt (slice_index general 3) (64 * c.in-Ok.reached.facts.blocks) ≡ false = grind (arith, nat_tests, c.if-offset-from.false, c.from.ensures) in
    refused-made c.args.caller.now c.args.store.now words c.args.process.now c.refuse-else-offset-from.new.process c.refuse-else-offset-from.result (Other Deposit) TooLong
    (decided c.args.caller.now c.args.store.now words Deposit general c.reach.result c.in-Ok.reached refl (c.reach.ensures.reached Deposit (record { wrong = λ v. refl; modes = refl; sort = λ kind. refl; needs = refl })) c.in-Ok.is
    ∙ hit (fails c.args.caller.now c.args.store.now words Deposit general) TooLong [] (length-seen c.args.caller.now c.args.store.now words (path_in general) c.in-Ok.reached.path c.in-Ok.reached.facts (slice_index general 3) false here.path here.facts beyond))
    c.refuse-else-offset-from.ensures.process c.refuse-else-offset-from.ensures.reply
