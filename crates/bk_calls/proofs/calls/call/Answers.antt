use Rattle.std.proofs.Common.{◌≡◌, Option, Some, None, false, ap, refl, sym, subst}
use Rattle.bk_process.specs.declared.process.Process.{Process}
use Rattle.bk_state.specs.declared.call.Call.{Call}
use Rattle.bk_state.specs.declared.call.Call.TheVariants.{ByRule, Other}
use Rattle.bk_state.specs.Answers.{called, called_by}
use Rattle.bk_state.specs.Calls.{call_of}
use Rattle.bk_calls.specs.declared.reply.Reply.{Reply}
use Rattle.bk_calls.specs.Made.{seen_by, IsMade}
use Rattle.bk_calls.specs.Shown.{answered_changes_pages}
use Rattle.bk_calls.proofs.PagesKept.{pages-kept}
use Rattle.bk_calls.proofs.calls.call.Goals as goal

pub returns-in-Some-ByRule-clause-made : goal.returns-in-Some-ByRule-clause-made
unfolding called
returns-in-Some-ByRule-clause-made c =
    let seen = seen_by c.args.caller.now c.args.store.now c.args.core.now.words in
    let call : Some (ByRule c.in-Some-ByRule.rule) ≡ call_of c.args.number = cc in
    subst (λ o. IsMade c.args.store.now c.decide_rule.new.store c.args.core.now.words c.decide_rule.new.core.words c.decide_rule.new.process c.decide_rule.result (called_by seen c.args.caller.now.subject c.args.process.now o)) call c.decide_rule.ensures.made

pub returns-in-Some-Other-clause-made : goal.returns-in-Some-Other-clause-made
unfolding called
returns-in-Some-Other-clause-made c =
    let seen = seen_by c.args.caller.now c.args.store.now c.args.core.now.words in
    let call : Some (Other c.in-Some-Other.service) ≡ call_of c.args.number = cc in
    subst (λ o. IsMade c.args.store.now c.serve.new.store c.args.core.now.words c.serve.new.core.words c.serve.new.process c.serve.result (called_by seen c.args.caller.now.subject c.args.process.now o)) call c.serve.ensures.made

pub returns-in-None-clause-made : goal.returns-in-None-clause-made
unfolding called
returns-in-None-clause-made c =
    let seen = seen_by c.args.caller.now c.args.store.now c.args.core.now.words in
    let call : None ≡ call_of c.args.number = cc in
    subst (λ (o : Option Call). IsMade c.args.store.now c.args.store.now c.args.core.now.words c.args.core.now.words c.refuse.new.process c.refuse.result (called_by seen c.args.caller.now.subject c.args.process.now o)) call (record {
      objects = refl;
      access = refl;
      levels = refl;
      lines = refl;
      process = c.refuse.ensures.process;
      answer = ap (λ (r : Reply). r.answer) c.refuse.ensures.reply;
      sent = ap (λ (r : Reply). r.sent) c.refuse.ensures.reply;
      level = ap (λ (r : Reply). r.level) c.refuse.ensures.reply;
      kernel = refl;
    })

pub returns-in-Some-ByRule-clause-pages : goal.returns-in-Some-ByRule-clause-pages
returns-in-Some-ByRule-clause-pages c = λ none.
    let rule = c.in-Some-ByRule.rule in
    let call : Some (ByRule rule) ≡ call_of c.args.number = cc in
    let same = subst (λ (o : Option Call). answered_changes_pages o c.decide_rule.result.answer ≡ false) (sym call) none in
    pages-kept c.args.caller.now c.args.store.now c.decide_rule.new.store c.args.core.now.words c.decide_rule.new.core.words c.args.process.now c.decide_rule.new.process c.decide_rule.result (ByRule rule)
    c.decide_rule.ensures.made same (c.decide_rule.ensures.extents same)

pub returns-in-Some-Other-clause-pages : goal.returns-in-Some-Other-clause-pages
returns-in-Some-Other-clause-pages c = λ none.
    let service = c.in-Some-Other.service in
    let call : Some (Other service) ≡ call_of c.args.number = cc in
    let same = subst (λ (o : Option Call). answered_changes_pages o c.serve.result.answer ≡ false) (sym call) none in
    pages-kept c.args.caller.now c.args.store.now c.serve.new.store c.args.core.now.words c.serve.new.core.words c.args.process.now c.serve.new.process c.serve.result (Other service)
    c.serve.ensures.made same c.serve.ensures.extents

pub returns-in-None-clause-pages : goal.returns-in-None-clause-pages
returns-in-None-clause-pages c = λ none. record { extents = λ path. refl; access = refl; windows = ap (λ (p : Process). p.windows) c.refuse.ensures.process }
