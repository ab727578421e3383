use Rattle.std.proofs.Common.{◌∙◌, ap, refl, slice_index, [], ◌∷◌}
use Rattle.bk_object.specs.Kinds.{is_mailbox}
use Rattle.bk_state.specs.Answers.{outcome, reply}
use Rattle.bk_state.specs.Contents.{put, with_contents}
use Rattle.bk_state.specs.Request.{path_in}
use Rattle.bk_state.specs.declared.call.Call.TheVariants.{Other}
use Rattle.bk_state.specs.declared.call.Service.TheVariants.{Send}
use Rattle.bk_store.specs.Stored.{sent, with_mail, with_queue}
use Rattle.bk_calls.specs.declared.reply.Reply.{Reply}
use Rattle.bk_calls.proofs.Mailboxes.{put-agrees}
use Rattle.bk_calls.proofs.Served.{moved, passes-facts}
use Rattle.bk_calls.proofs.Serving.{agreed-made, decided, found, refused-reach}
use Rattle.bk_calls.proofs.Extents.{moved-extents}
use Rattle.bk_calls.proofs.queue_calls.send.Goals as goal

pub put_message-requires : goal.put_message-requires
put_message-requires c =
    let here = found c.args.caller.now c.args.store.now [] Send c.args.process.now.registers.general c.reach.result c.in-Ok.reached (c.reach.ensures.reached Send (record { wrong = λ v. refl; modes = refl; sort = λ kind. refl; needs = refl })) c.in-Ok.is in
    passes-facts c.args.store.now c.in-Ok.reached.path c.in-Ok.reached.facts (λ facts. is_mailbox facts.kind) here.facts ∙ here.kind

pub returns-in-Err-clause-made : goal.returns-in-Err-clause-made
returns-in-Err-clause-made c = λ words. refused-reach c.args.caller.now c.args.store.now words c.args.process.now c.refuse.new.process c.refuse.result Send c.reach.result c.in-Err.cause refl (c.reach.ensures.reached Send (record { wrong = λ v. refl; modes = refl; sort = λ kind. refl; needs = refl })) c.in-Err.is c.refuse.ensures.process c.refuse.ensures.reply

pub returns-in-Ok-clause-made : goal.returns-in-Ok-clause-made
unfolding outcome reply
returns-in-Ok-clause-made c = λ words.
    let general = c.args.process.now.registers.general in
    let message = slice_index general 0 ∷ slice_index general 3 ∷ slice_index general 4 ∷ slice_index general 5 ∷ [] in
    let here = found c.args.caller.now c.args.store.now words Send general c.reach.result c.in-Ok.reached (c.reach.ensures.reached Send (record { wrong = λ v. refl; modes = refl; sort = λ kind. refl; needs = refl })) c.in-Ok.is in
    let after = moved c.args.caller.now c.args.store.now c.put_message.new.self words (path_in general) c.in-Ok.reached.path here.path (with_queue (with_mail (sent message))) (with_contents (put message))
    (λ e. λ i. record { facts = e.facts; contents = put-agrees message words e.queue e.extent i }) c.put_message.ensures.rest in
    agreed-made c.args.caller.now c.args.store.now words c.args.process.now c.agree.new.process c.agree.result (Other Send) c.put_message.new.self words
    (decided c.args.caller.now c.args.store.now words Send general c.reach.result c.in-Ok.reached refl (c.reach.ensures.reached Send (record { wrong = λ v. refl; modes = refl; sort = λ kind. refl; needs = refl })) c.in-Ok.is)
    (record {
      objects = after.objects;
      access = after.access;
      levels = after.levels;
      lines = after.lines;
      process = c.agree.ensures.process;
      answer = ap (λ (r : Reply). r.answer) c.agree.ensures.reply;
      sent = ap (λ (r : Reply). r.sent) c.agree.ensures.reply;
      level = ap (λ (r : Reply). r.level) c.agree.ensures.reply;
      kernel = refl;
    })

pub returns-in-Ok-clause-extents : goal.returns-in-Ok-clause-extents
returns-in-Ok-clause-extents c =
    let general = c.args.process.now.registers.general in
    let message = slice_index general 0 ∷ slice_index general 3 ∷ slice_index general 4 ∷ slice_index general 5 ∷ [] in
    moved-extents c.args.store.now c.put_message.new.self c.in-Ok.reached.path (with_queue (with_mail (sent message))) c.put_message.ensures.rest (λ e. refl)
