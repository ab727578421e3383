use Rattle.std.proofs.Common.{◌∙◌, ap, sym, refl, [], ◌∷◌}
use Rattle.std.specs.Prelude.{not}
use Rattle.bk_object.specs.Kinds.{is_any_line}
use Rattle.bk_state.specs.State.{Object, find}
use Rattle.bk_state.specs.declared.cause.CallCause.TheVariants.{Empty}
use Rattle.bk_state.specs.Answers.{outcome, reply, with_values}
use Rattle.bk_state.specs.Contents.{has_byte, with_contents, without_byte}
use Rattle.bk_state.specs.QueueCalls.{byte_values, of_contents}
use Rattle.bk_state.specs.Request.{path_in}
use Rattle.bk_state.specs.declared.call.Call.TheVariants.{Other}
use Rattle.bk_state.specs.declared.call.Service.TheVariants.{LineIn}
use Rattle.bk_quota.specs.Charges.{passes}
use Rattle.bk_store.specs.Stored.{Stored, objects_of, with_input, with_queue, without_first}
use Rattle.bk_calls.specs.Made.{seen_by}
use Rattle.bk_calls.specs.declared.reply.Reply.{Reply}
use Rattle.bk_calls.proofs.TypedBytes.{byte-agrees, byte_told, line-stays, no_byte, some_byte}
use Rattle.bk_calls.proofs.Reaching.{hit, skip}
use Rattle.bk_calls.proofs.Served.{moved, passes-facts}
use Rattle.bk_calls.proofs.Serving.{agreed-made, decided, fails, found, refused-after, refused-reach}
use Rattle.bk_calls.proofs.Extents.{moved-extents}
use Rattle.bk_calls.proofs.queue_calls.line_in.Goals as goal

pub take_byte-requires : goal.take_byte-requires
take_byte-requires c =
    let here = found c.args.caller.now c.args.store.now [] LineIn c.args.process.now.registers.general c.reach.result c.in-Ok.reached (c.reach.ensures.reached LineIn (record { wrong = λ v. refl; modes = refl; sort = λ kind. refl; needs = refl })) c.in-Ok.is in
    passes-facts c.args.store.now c.in-Ok.reached.path c.in-Ok.reached.facts (λ facts. is_any_line facts.kind) here.facts ∙ here.kind

pub returns-in-Err-clause-made : goal.returns-in-Err-clause-made
returns-in-Err-clause-made c = λ words. refused-reach c.args.caller.now c.args.store.now words c.args.process.now c.refuse.new.process c.refuse.result LineIn c.reach.result c.in-Err.cause refl (c.reach.ensures.reached LineIn (record { wrong = λ v. refl; modes = refl; sort = λ kind. refl; needs = refl })) c.in-Err.is c.refuse.ensures.process c.refuse.ensures.reply

pub returns-in-Some-clause-made : goal.returns-in-Some-clause-made
unfolding outcome reply
returns-in-Some-clause-made c = λ words.
    let general = c.args.process.now.registers.general in
    let path = c.in-Ok.reached.path in
    let here = found c.args.caller.now c.args.store.now words LineIn general c.reach.result c.in-Ok.reached (c.reach.ensures.reached LineIn (record { wrong = λ v. refl; modes = refl; sort = λ kind. refl; needs = refl })) c.in-Ok.is in
    let after = moved c.args.caller.now c.args.store.now c.take_byte.new.self words (path_in general) path here.path (with_queue (with_input without_first)) (with_contents without_byte)
    (λ e. λ i. record { facts = e.facts; contents = byte-agrees words e.queue e.extent i }) c.take_byte.ensures.rest in
    let waits = some_byte c.args.caller.now c.args.store.now words path c.in-Ok.reached.facts c.law_contents.ensures.kinds here.facts here.kind c.take_byte.result c.in-Some.byte c.in-Some.is c.take_byte.ensures.byte in
    let told = byte_told c.args.caller.now c.args.store.now words path c.in-Ok.reached.facts c.law_contents.ensures.kinds here.facts here.kind c.take_byte.result c.in-Some.byte c.in-Some.is c.take_byte.ensures.byte in
    agreed-made c.args.caller.now c.args.store.now words c.args.process.now c.agree.new.process c.agree.result (Other LineIn) c.take_byte.new.self words
    (decided c.args.caller.now c.args.store.now words LineIn general c.reach.result c.in-Ok.reached refl (c.reach.ensures.reached LineIn (record { wrong = λ v. refl; modes = refl; sort = λ kind. refl; needs = refl })) c.in-Ok.is
    ∙ skip (fails c.args.caller.now c.args.store.now words LineIn general) Empty [] (ap (λ p. not (passes (λ (o : Object). has_byte o.contents) (find (seen_by c.args.caller.now c.args.store.now words) p))) here.path ∙ ap not waits))
    (record {
      objects = after.objects;
      access = after.access;
      levels = after.levels;
      lines = after.lines;
      process = c.agree.ensures.process ∙ ap (λ n. with_values (0 ∷ 0 ∷ n ∷ []) c.args.process.now) c.from.ensures ∙ ap (λ values. with_values values c.args.process.now) (sym (ap (λ p. of_contents byte_values (find (seen_by c.args.caller.now c.args.store.now words) p)) here.path ∙ told));
      answer = ap (λ (r : Reply). r.answer) c.agree.ensures.reply;
      sent = ap (λ (r : Reply). r.sent) c.agree.ensures.reply;
      level = ap (λ (r : Reply). r.level) c.agree.ensures.reply;
      kernel = refl;
    })

pub returns-in-None-clause-made : goal.returns-in-None-clause-made
returns-in-None-clause-made c = λ words.
    let general = c.args.process.now.registers.general in
    let path = c.in-Ok.reached.path in
    let here = found c.args.caller.now c.args.store.now words LineIn general c.reach.result c.in-Ok.reached (c.reach.ensures.reached LineIn (record { wrong = λ v. refl; modes = refl; sort = λ kind. refl; needs = refl })) c.in-Ok.is in
    let none = no_byte c.args.caller.now c.args.store.now words path c.in-Ok.reached.facts c.law_contents.ensures.kinds here.facts here.kind c.take_byte.result c.in-None.is c.take_byte.ensures.byte in
    let stays = c.take_byte.ensures.rest ∙ line-stays c.args.caller.now c.args.store.now words path c.in-Ok.reached.facts c.law_contents.ensures.kinds here.facts here.kind c.take_byte.result c.in-None.is c.take_byte.ensures.byte in
    refused-after c.args.caller.now c.args.store.now words c.args.process.now c.refuse-in-None.new.process c.refuse-in-None.result (Other LineIn) c.take_byte.new.self Empty
    (ap (λ (v : Stored). objects_of v words) stays) (ap (λ (v : Stored). v.access) stays) (ap (λ (v : Stored). v.levels) stays) (ap (λ (v : Stored). v.lines) stays)
    (decided c.args.caller.now c.args.store.now words LineIn general c.reach.result c.in-Ok.reached refl (c.reach.ensures.reached LineIn (record { wrong = λ v. refl; modes = refl; sort = λ kind. refl; needs = refl })) c.in-Ok.is
    ∙ hit (fails c.args.caller.now c.args.store.now words LineIn general) Empty [] (ap (λ p. not (passes (λ (o : Object). has_byte o.contents) (find (seen_by c.args.caller.now c.args.store.now words) p))) here.path ∙ ap not none))
    c.refuse-in-None.ensures.process c.refuse-in-None.ensures.reply

pub returns-in-Some-clause-extents : goal.returns-in-Some-clause-extents
returns-in-Some-clause-extents c = moved-extents c.args.store.now c.take_byte.new.self c.in-Ok.reached.path (with_queue (with_input without_first)) c.take_byte.ensures.rest (λ e. refl)

pub returns-in-None-clause-extents : goal.returns-in-None-clause-extents
returns-in-None-clause-extents c = moved-extents c.args.store.now c.take_byte.new.self c.in-Ok.reached.path (with_queue (with_input without_first)) c.take_byte.ensures.rest (λ e. refl)
