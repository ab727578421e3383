use Rattle.std.proofs.Common.{◌∙◌, ap, sym, refl, []}
use Rattle.std.specs.Prelude.{not}
use Rattle.bk_object.specs.Kinds.{is_mailbox}
use Rattle.bk_state.specs.State.{Object, find}
use Rattle.bk_state.specs.declared.cause.CallCause.TheVariants.{Empty}
use Rattle.bk_state.specs.Answers.{outcome, reply, with_values}
use Rattle.bk_state.specs.Contents.{has_message, with_contents, without_message}
use Rattle.bk_state.specs.QueueCalls.{message_values, of_contents}
use Rattle.bk_state.specs.Request.{path_in}
use Rattle.bk_state.specs.declared.call.Call.TheVariants.{Other}
use Rattle.bk_state.specs.declared.call.Service.TheVariants.{Receive}
use Rattle.bk_quota.specs.Charges.{passes}
use Rattle.bk_store.specs.Stored.{Stored, objects_of, received, with_mail, with_queue}
use Rattle.bk_calls.specs.Made.{seen_by}
use Rattle.bk_calls.specs.declared.reply.Reply.{Reply}
use Rattle.bk_calls.proofs.Mailboxes.{mail-stays, message_told, no_message, some_message, taken-agrees}
use Rattle.bk_calls.proofs.Reaching.{hit, skip}
use Rattle.bk_calls.proofs.Served.{moved, passes-facts}
use Rattle.bk_calls.proofs.Serving.{agreed-made, decided, fails, found, refused-after, refused-reach}
use Rattle.bk_calls.proofs.Extents.{moved-extents}
use Rattle.bk_calls.proofs.queue_calls.receive.Goals as goal

pub take_message-requires : goal.take_message-requires
take_message-requires c =
    let here = found c.args.caller.now c.args.store.now [] Receive c.args.process.now.registers.general c.reach.result c.in-Ok.reached (c.reach.ensures.reached Receive (record { wrong = λ v. refl; modes = refl; sort = λ kind. refl; needs = refl })) c.in-Ok.is in
    passes-facts c.args.store.now c.in-Ok.reached.path c.in-Ok.reached.facts (λ facts. is_mailbox facts.kind) here.facts ∙ here.kind

pub returns-in-Err-clause-made : goal.returns-in-Err-clause-made
returns-in-Err-clause-made c = λ words. refused-reach c.args.caller.now c.args.store.now words c.args.process.now c.refuse.new.process c.refuse.result Receive c.reach.result c.in-Err.cause refl (c.reach.ensures.reached Receive (record { wrong = λ v. refl; modes = refl; sort = λ kind. refl; needs = refl })) c.in-Err.is c.refuse.ensures.process c.refuse.ensures.reply

pub returns-in-Some-clause-made : goal.returns-in-Some-clause-made
unfolding outcome reply
returns-in-Some-clause-made c = λ words.
    let general = c.args.process.now.registers.general in
    let path = c.in-Ok.reached.path in
    let here = found c.args.caller.now c.args.store.now words Receive general c.reach.result c.in-Ok.reached (c.reach.ensures.reached Receive (record { wrong = λ v. refl; modes = refl; sort = λ kind. refl; needs = refl })) c.in-Ok.is in
    let after = moved c.args.caller.now c.args.store.now c.take_message.new.self words (path_in general) path here.path (with_queue (with_mail received)) (with_contents without_message)
    (λ e. λ i. record { facts = e.facts; contents = taken-agrees words e.queue e.extent i }) c.take_message.ensures.rest in
    let waits = some_message c.args.caller.now c.args.store.now words path c.in-Ok.reached.facts c.law_contents.ensures.kinds here.facts here.kind c.take_message.result c.in-Some.message c.in-Some.is c.take_message.ensures.message in
    let told = message_told c.args.caller.now c.args.store.now words path c.in-Ok.reached.facts c.law_contents.ensures.kinds here.facts here.kind c.take_message.result c.in-Some.message c.in-Some.is c.take_message.ensures.message in
    agreed-made c.args.caller.now c.args.store.now words c.args.process.now c.agree.new.process c.agree.result (Other Receive) c.take_message.new.self words
    (decided c.args.caller.now c.args.store.now words Receive general c.reach.result c.in-Ok.reached refl (c.reach.ensures.reached Receive (record { wrong = λ v. refl; modes = refl; sort = λ kind. refl; needs = refl })) c.in-Ok.is
    ∙ skip (fails c.args.caller.now c.args.store.now words Receive general) Empty [] (ap (λ p. not (passes (λ (o : Object). has_message o.contents) (find (seen_by c.args.caller.now c.args.store.now words) p))) here.path ∙ ap not waits))
    (record {
      objects = after.objects;
      access = after.access;
      levels = after.levels;
      lines = after.lines;
      process = c.agree.ensures.process ∙ ap (λ values. with_values values c.args.process.now) (sym (ap (λ p. of_contents message_values (find (seen_by c.args.caller.now c.args.store.now words) p)) here.path ∙ told));
      answer = ap (λ (r : Reply). r.answer) c.agree.ensures.reply;
      sent = ap (λ (r : Reply). r.sent) c.agree.ensures.reply;
      level = ap (λ (r : Reply). r.level) c.agree.ensures.reply;
      kernel = refl;
    })

pub returns-in-None-clause-made : goal.returns-in-None-clause-made
returns-in-None-clause-made c = λ words.
    let general = c.args.process.now.registers.general in
    let path = c.in-Ok.reached.path in
    let here = found c.args.caller.now c.args.store.now words Receive general c.reach.result c.in-Ok.reached (c.reach.ensures.reached Receive (record { wrong = λ v. refl; modes = refl; sort = λ kind. refl; needs = refl })) c.in-Ok.is in
    let none = no_message c.args.caller.now c.args.store.now words path c.in-Ok.reached.facts c.law_contents.ensures.kinds here.facts here.kind c.take_message.result c.in-None.is c.take_message.ensures.message in
    let stays = c.take_message.ensures.rest ∙ mail-stays c.args.caller.now c.args.store.now words path c.in-Ok.reached.facts c.law_contents.ensures.kinds here.facts here.kind c.take_message.result c.in-None.is c.take_message.ensures.message in
    refused-after c.args.caller.now c.args.store.now words c.args.process.now c.refuse-in-None.new.process c.refuse-in-None.result (Other Receive) c.take_message.new.self Empty
    (ap (λ (v : Stored). objects_of v words) stays) (ap (λ (v : Stored). v.access) stays) (ap (λ (v : Stored). v.levels) stays) (ap (λ (v : Stored). v.lines) stays)
    (decided c.args.caller.now c.args.store.now words Receive general c.reach.result c.in-Ok.reached refl (c.reach.ensures.reached Receive (record { wrong = λ v. refl; modes = refl; sort = λ kind. refl; needs = refl })) c.in-Ok.is
    ∙ hit (fails c.args.caller.now c.args.store.now words Receive general) Empty [] (ap (λ p. not (passes (λ (o : Object). has_message o.contents) (find (seen_by c.args.caller.now c.args.store.now words) p))) here.path ∙ ap not none))
    c.refuse-in-None.ensures.process c.refuse-in-None.ensures.reply

pub returns-in-Some-clause-extents : goal.returns-in-Some-clause-extents
returns-in-Some-clause-extents c = moved-extents c.args.store.now c.take_message.new.self c.in-Ok.reached.path (with_queue (with_mail received)) c.take_message.ensures.rest (λ e. refl)

pub returns-in-None-clause-extents : goal.returns-in-None-clause-extents
returns-in-None-clause-extents c = moved-extents c.args.store.now c.take_message.new.self c.in-Ok.reached.path (with_queue (with_mail received)) c.take_message.ensures.rest (λ e. refl)
