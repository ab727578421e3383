use Rattle.std.proofs.Common.{◌∙◌, ◌%◌, ap, sym, refl, slice_index}
use Rattle.std.specs.Prelude.{option_map}
use Rattle.bk_state.specs.State.{find}
use Rattle.bk_state.specs.Answers.{outcome, reply}
use Rattle.bk_state.specs.QueueCalls.{byte_on}
use Rattle.bk_state.specs.declared.call.Call.TheVariants.{Other}
use Rattle.bk_state.specs.declared.call.Service.TheVariants.{LineOut}
use Rattle.bk_calls.specs.Made.{line_byte, seen_by}
use Rattle.bk_calls.specs.declared.reply.Reply.{Reply}
use Rattle.bk_calls.proofs.TypedBytes.{sent-seen}
use Rattle.bk_calls.proofs.Serving.{agreed-made, decided, found, refused-reach}
use Rattle.bk_calls.proofs.queue_calls.line_out.Goals as goal

pub returns-in-Err : goal.returns-in-Err
returns-in-Err c = λ words. refused-reach c.args.caller.now c.args.store.now words c.args.process.now c.refuse.new.process c.refuse.result LineOut c.reach.result c.in-Err.cause refl (c.reach.ensures.reached LineOut (record { wrong = λ v. refl; modes = refl; sort = λ kind. refl; needs = refl })) c.in-Err.is c.refuse.ensures.process c.refuse.ensures.reply

pub returns-in-Ok : goal.returns-in-Ok
unfolding outcome reply
returns-in-Ok c = λ words.
    let general = c.args.process.now.registers.general in
    let here = found c.args.caller.now c.args.store.now words LineOut general c.reach.result c.in-Ok.reached (c.reach.ensures.reached LineOut (record { wrong = λ v. refl; modes = refl; sort = λ kind. refl; needs = refl })) c.in-Ok.is in
    agreed-made c.args.caller.now c.args.store.now words c.args.process.now c.agree-reply.new.process (record c.agree-reply.result { sent = c.sent_on.result }) (Other LineOut) c.args.store.now words
    (decided c.args.caller.now c.args.store.now words LineOut general c.reach.result c.in-Ok.reached refl (c.reach.ensures.reached LineOut (record { wrong = λ v. refl; modes = refl; sort = λ kind. refl; needs = refl })) c.in-Ok.is)
    (record {
      objects = refl;
      access = refl;
      levels = refl;
      lines = refl;
      process = c.agree-reply.ensures.process;
      answer = ap (λ (r : Reply). r.answer) c.agree-reply.ensures.reply;
      sent = c.sent_on.ensures ∙ sym (ap (λ p. option_map line_byte (byte_on (slice_index general 3 % 256) (find (seen_by c.args.caller.now c.args.store.now words) p))) here.path ∙ sent-seen c.args.caller.now c.args.store.now words c.in-Ok.reached.path c.in-Ok.reached.facts here.facts (slice_index general 3 % 256));
      level = ap (λ (r : Reply). r.level) c.agree-reply.ensures.reply;
      kernel = refl;
    })
