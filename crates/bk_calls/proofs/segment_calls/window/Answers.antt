use Rattle.std.proofs.Common.{◌∙◌, ap, refl, slice_set, slice_index, Some, sym, [], ◌∷◌}
use Rattle.bk_path.specs.Paths.{Path}
use Rattle.bk_state.specs.Answers.{outcome, reply, with_values}
use Rattle.bk_state.specs.declared.call.Call.TheVariants.{Other}
use Rattle.bk_state.specs.declared.call.Service.TheVariants.{Window}
use Rattle.bk_calls.specs.declared.reply.Reply.{Reply}
use Rattle.bk_calls.proofs.Serving.{agreed-made, decided, found, refused-reach}
use Rattle.bk_calls.proofs.segment_calls.window.Goals as goal

pub returns-in-Err : goal.returns-in-Err
returns-in-Err c = λ words. refused-reach c.args.caller.now c.args.store.now words c.args.process.now c.refuse.new.process c.refuse.result Window c.reach.result c.in-Err.cause refl (c.reach.ensures.reached Window (record { wrong = λ v. sym c.is_no_window.ensures; modes = refl; sort = λ kind. refl; needs = refl })) c.in-Err.is c.refuse.ensures.process c.refuse.ensures.reply

pub returns-in-Ok : goal.returns-in-Ok
unfolding outcome reply
returns-in-Ok c = λ words.
    let general = c.args.process.now.registers.general in
    let here = found c.args.caller.now c.args.store.now words Window general c.reach.result c.in-Ok.reached (c.reach.ensures.reached Window (record { wrong = λ v. sym c.is_no_window.ensures; modes = refl; sort = λ kind. refl; needs = refl })) c.in-Ok.is in
    agreed-made c.args.caller.now c.args.store.now words c.args.process.now c.agree.new.process c.agree.result (Other Window) c.args.store.now words
    (decided c.args.caller.now c.args.store.now words Window general c.reach.result c.in-Ok.reached refl (c.reach.ensures.reached Window (record { wrong = λ v. sym c.is_no_window.ensures; modes = refl; sort = λ kind. refl; needs = refl })) c.in-Ok.is)
    (record {
      objects = refl;
      access = refl;
      levels = refl;
      lines = refl;
      process = c.agree.ensures.process ∙ ap (with_values (0 ∷ 0 ∷ [])) (c.set_window.ensures ∙ ap (λ (p : Path). record c.args.process.now { windows = slice_set c.args.process.now.windows (slice_index general 3) (Some p) }) (sym here.path));
      answer = ap (λ (r : Reply). r.answer) c.agree.ensures.reply;
      sent = ap (λ (r : Reply). r.sent) c.agree.ensures.reply;
      level = ap (λ (r : Reply). r.level) c.agree.ensures.reply;
      kernel = refl;
    })
