use Rattle.std.proofs.Common.{◌∙◌, ap, sym, refl, slice_index, [], ◌∷◌}
use Rattle.std.specs.Prelude.{is_none}
use Rattle.bk_state.specs.declared.cause.CallCause.TheVariants.{Empty}
use Rattle.bk_state.specs.Answers.{outcome, reply, with_values}
use Rattle.bk_state.specs.TellingCalls.{entry_values}
use Rattle.bk_state.specs.Request.{path_in}
use Rattle.bk_state.specs.declared.call.Call.TheVariants.{Other}
use Rattle.bk_state.specs.declared.call.Service.TheVariants.{Entry}
use Rattle.bk_calls.specs.Made.{seen_by}
use Rattle.bk_calls.specs.declared.reply.Reply.{Reply}
use Rattle.bk_calls.proofs.Reaching.{hit, skip}
use Rattle.bk_calls.proofs.Told.{its_path, no_child, one_child}
use Rattle.bk_calls.proofs.Serving.{agreed-made, decided, fails, found, refused-made, refused-reach}
use Rattle.bk_calls.proofs.telling_calls.entry.Goals as goal

pub returns-in-Err : goal.returns-in-Err
returns-in-Err c = λ words. refused-reach c.args.caller.now c.args.store.now words c.args.process.now c.refuse.new.process c.refuse.result Entry c.reach.result c.in-Err.cause refl (c.reach.ensures.reached Entry (record { wrong = λ v. refl; modes = refl; sort = λ kind. refl; needs = refl })) c.in-Err.is c.refuse.ensures.process c.refuse.ensures.reply

pub returns-in-Some : goal.returns-in-Some
unfolding outcome reply
returns-in-Some c = λ words.
    let general = c.args.process.now.registers.general in
    let path = c.in-Ok.reached.path in
    let here = found c.args.caller.now c.args.store.now words Entry general c.reach.result c.in-Ok.reached (c.reach.ensures.reached Entry (record { wrong = λ v. refl; modes = refl; sort = λ kind. refl; needs = refl })) c.in-Ok.is in
    let there = one_child c.args.caller.now c.args.store.now words (path_in general) path (slice_index general 3) c.find_child.result c.in-Some.child here.path c.find_child.ensures c.in-Some.is in
    let child = its_path c.args.caller.now c.args.store.now words path (slice_index general 3) c.find_child.result c.in-Some.child c.find_child.ensures c.in-Some.is in
    agreed-made c.args.caller.now c.args.store.now words c.args.process.now c.agree.new.process c.agree.result (Other Entry) c.args.store.now words
    (decided c.args.caller.now c.args.store.now words Entry general c.reach.result c.in-Ok.reached refl (c.reach.ensures.reached Entry (record { wrong = λ v. refl; modes = refl; sort = λ kind. refl; needs = refl })) c.in-Ok.is
    ∙ skip (fails c.args.caller.now c.args.store.now words Entry general) Empty [] (ap is_none there))
    (record {
      objects = refl;
      access = refl;
      levels = refl;
      lines = refl;
      process = c.agree.ensures.process ∙ ap (λ values. with_values values c.args.process.now) (c.values_of-values.ensures c.args.caller.now words
          ∙ (λ i. entry_values (seen_by c.args.caller.now c.args.store.now words) c.args.caller.now.subject ((child ∙ ap (λ p. slice_index general 3 ∷ p) (sym here.path)) i) (sym there i)));
      answer = ap (λ (r : Reply). r.answer) c.agree.ensures.reply;
      sent = ap (λ (r : Reply). r.sent) c.agree.ensures.reply;
      level = ap (λ (r : Reply). r.level) c.agree.ensures.reply;
      kernel = refl;
    })

pub returns-in-None : goal.returns-in-None
returns-in-None c = λ words.
    let general = c.args.process.now.registers.general in
    let path = c.in-Ok.reached.path in
    let here = found c.args.caller.now c.args.store.now words Entry general c.reach.result c.in-Ok.reached (c.reach.ensures.reached Entry (record { wrong = λ v. refl; modes = refl; sort = λ kind. refl; needs = refl })) c.in-Ok.is in
    let none = no_child c.args.caller.now c.args.store.now words (path_in general) path (slice_index general 3) c.find_child.result here.path c.find_child.ensures c.in-None.is in
    refused-made c.args.caller.now c.args.store.now words c.args.process.now c.refuse-in-None.new.process c.refuse-in-None.result (Other Entry) Empty
    (decided c.args.caller.now c.args.store.now words Entry general c.reach.result c.in-Ok.reached refl (c.reach.ensures.reached Entry (record { wrong = λ v. refl; modes = refl; sort = λ kind. refl; needs = refl })) c.in-Ok.is
    ∙ hit (fails c.args.caller.now c.args.store.now words Entry general) Empty [] none)
    c.refuse-in-None.ensures.process c.refuse-in-None.ensures.reply
