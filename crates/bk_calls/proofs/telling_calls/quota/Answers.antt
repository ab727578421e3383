use Rattle.std.proofs.Common.{◌∙◌, ap, refl, [], ◌∷◌}
use Rattle.bk_object.specs.Kinds.{is_directory}
use Rattle.bk_quota.specs.Usage.{Usage}
use Rattle.bk_state.specs.Answers.{outcome, reply, with_values}
use Rattle.bk_state.specs.Request.{path_in}
use Rattle.bk_state.specs.declared.call.Call.TheVariants.{Other}
use Rattle.bk_state.specs.declared.call.Service.TheVariants.{Quota}
use Rattle.bk_calls.specs.declared.reply.Reply.{Reply}
use Rattle.bk_calls.proofs.Served.{passes-facts}
use Rattle.bk_calls.proofs.Told.{cell-seen}
use Rattle.bk_calls.proofs.Serving.{agreed-made, decided, found, refused-reach}
use Rattle.bk_calls.proofs.telling_calls.quota.Goals as goal

pub cell-cell-requires : goal.cell-cell-requires
cell-cell-requires c =
    let here = found c.args.caller.now c.args.store.now [] Quota c.args.process.now.registers.general c.reach.result c.in-Ok.reached (c.reach.ensures.reached Quota (record { wrong = λ v. refl; modes = refl; sort = λ kind. refl; needs = refl })) c.in-Ok.is in
    passes-facts c.args.store.now c.in-Ok.reached.path c.in-Ok.reached.facts (λ facts. is_directory facts.kind) here.facts ∙ here.kind

pub returns-in-Err : goal.returns-in-Err
returns-in-Err c = λ words. refused-reach c.args.caller.now c.args.store.now words c.args.process.now c.refuse.new.process c.refuse.result Quota c.reach.result c.in-Err.cause refl (c.reach.ensures.reached Quota (record { wrong = λ v. refl; modes = refl; sort = λ kind. refl; needs = refl })) c.in-Err.is c.refuse.ensures.process c.refuse.ensures.reply

pub returns-in-Ok : goal.returns-in-Ok
unfolding outcome reply
returns-in-Ok c = λ words.
    let general = c.args.process.now.registers.general in
    let here = found c.args.caller.now c.args.store.now words Quota general c.reach.result c.in-Ok.reached (c.reach.ensures.reached Quota (record { wrong = λ v. refl; modes = refl; sort = λ kind. refl; needs = refl })) c.in-Ok.is in
    let cell = cell-seen c.args.caller.now c.args.store.now words (path_in general) c.in-Ok.reached.path c.cell-cell.result here.path c.cell-cell.ensures in
    agreed-made c.args.caller.now c.args.store.now words c.args.process.now c.agree.new.process c.agree.result (Other Quota) c.args.store.now words
    (decided c.args.caller.now c.args.store.now words Quota general c.reach.result c.in-Ok.reached refl (c.reach.ensures.reached Quota (record { wrong = λ v. refl; modes = refl; sort = λ kind. refl; needs = refl })) c.in-Ok.is)
    (record {
      objects = refl;
      access = refl;
      levels = refl;
      lines = refl;
      process = c.agree.ensures.process ∙ (λ i. with_values (0 ∷ 0 ∷ c.limit.ensures i ∷ c.used.ensures i ∷ []) c.args.process.now) ∙ ap (λ (u : Usage). with_values (0 ∷ 0 ∷ u.limit ∷ u.used ∷ []) c.args.process.now) cell;
      answer = ap (λ (r : Reply). r.answer) c.agree.ensures.reply;
      sent = ap (λ (r : Reply). r.sent) c.agree.ensures.reply;
      level = ap (λ (r : Reply). r.level) c.agree.ensures.reply;
      kernel = refl;
    })
