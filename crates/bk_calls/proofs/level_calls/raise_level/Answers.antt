use Rattle.std.proofs.Common.{◌≡◌, ◌<◌, ◌∙◌, ℕ, Bool, true, false, not, List, length, Option, Some, refl, sym, ap, slice_index, arith}
use Rattle.std.specs.Prelude.{nat_le}
use Rattle.std.proofs.lemmas.Bool.Decides.{nat_tests}
use Rattle.bk_rules.specs.Decisions.{refusal_by}
use Rattle.bk_rules.specs.declared.facts.RuleFacts.{RuleFacts}
use Rattle.bk_rules.proofs.AnswersAgree.{answers_agree}
use Rattle.bk_state.specs.Answers.{outcome, reply}
use Rattle.bk_state.specs.Calls.{call_refusal, refusal}
use Rattle.bk_state.specs.Request.{request_in}
use Rattle.bk_state.specs.State.{State}
use Rattle.bk_state.specs.declared.call.Call.TheVariants.{ByRule}
use Rattle.bk_state.specs.declared.cause.CallCause.{CallCause}
use Rattle.bk_state.specs.declared.cause.CallCause.TheVariants.{BadArgument}
use Rattle.bk_state.specs.declared.rule.Rule.TheVariants.{RaiseLevel}
use Rattle.bk_calls.specs.Decided.{facts_of_raise}
use Rattle.bk_calls.specs.Made.{seen_by}
use Rattle.bk_calls.specs.declared.reply.Reply.{Reply}
use Rattle.bk_calls.proofs.RuleChecks.{raise-enough, refusal-after, refusal_after}
use Rattle.bk_calls.proofs.Serving.{agreed-made, refused-made}
use Rattle.bk_calls.proofs.level_calls.raise_level.Goals as goal

-- the list of levels has the number
listed : (levels n : ℕ) (b : Bool) → b ≡ not (nat_le levels n) → b ≡ true → n < levels
listed levels n b is h = let there : not (nat_le levels n) ≡ true = sym is ∙ h in grind (arith, nat_tests, there)

-- the call is refused by the number, or as the rule decides on the facts
by_number : (v : State) (s : ℕ) (general : List ℕ) (b : Bool) → b ≡ not (nat_le (length v.fixed.levels) (slice_index general 3)) → b ≡ false → call_refusal v s (ByRule RaiseLevel) general ≡ Some BadArgument
by_number v s general b is h = refusal-after v s general RaiseLevel ∙ ap (λ wrong. refusal_after false wrong (refusal v s RaiseLevel (request_in general))) (other _ (sym is ∙ h))
  where
    other : (x : Bool) → not x ≡ false → x ≡ true
    other true e = refl
    other false e = cc

by_facts : (v : State) (s : ℕ) (general : List ℕ) (b : Bool) (facts : RuleFacts) (found : Option CallCause) → b ≡ not (nat_le (length v.fixed.levels) (slice_index general 3)) → b ≡ true →
    facts ≡ facts_of_raise v s (slice_index general 3) → found ≡ refusal_by facts RaiseLevel → call_refusal v s (ByRule RaiseLevel) general ≡ found
by_facts v s general b facts found is h same decided =
    refusal-after v s general RaiseLevel ∙ ap (λ wrong. refusal_after false wrong (refusal v s RaiseLevel (request_in general))) (other _ (sym is ∙ h))
    ∙ sym (answers_agree v s RaiseLevel (request_in general)) ∙ sym (raise-enough v s (request_in general)) ∙ ap (λ f. refusal_by f RaiseLevel) (sym same) ∙ sym decided
  where
    other : (x : Bool) → not x ≡ true → x ≡ false
    other true e = cc
    other false e = refl

pub facts_of_raise-requires-clause-level : goal.facts_of_raise-requires-clause-level
facts_of_raise-requires-clause-level c = listed (length c.args.store.now.levels) (slice_index c.args.process.now.registers.general 3) c.has_level.result c.has_level.ensures c.if-not-has_level.false

pub overflow_cast-level : goal.overflow_cast-level
overflow_cast-level c =
    let there = listed (length c.args.store.now.levels) (slice_index c.args.process.now.registers.general 3) c.has_level.result c.has_level.ensures c.if-not-has_level.false in
    omega (arith, there, c.law_levels.ensures)

pub returns-then-not-has_level : goal.returns-then-not-has_level
returns-then-not-has_level c = λ words.
    let v = seen_by c.args.caller.now c.args.store.now words in
    refused-made c.args.caller.now c.args.store.now words c.args.process.now c.refuse.new.process c.refuse.result (ByRule RaiseLevel) BadArgument
    (by_number v c.args.caller.now.subject c.args.process.now.registers.general c.has_level.result c.has_level.ensures c.if-not-has_level.true) c.refuse.ensures.process c.refuse.ensures.reply

pub returns-in-Some : goal.returns-in-Some
returns-in-Some c = λ words.
    let v = seen_by c.args.caller.now c.args.store.now words in
    refused-made c.args.caller.now c.args.store.now words c.args.process.now c.refuse-in-Some.new.process c.refuse-in-Some.result (ByRule RaiseLevel) c.in-Some.cause
    (by_facts v c.args.caller.now.subject c.args.process.now.registers.general c.has_level.result _ c.refusal.result c.has_level.ensures c.if-not-has_level.false (c.facts_of_raise.ensures words) c.refusal.ensures.first ∙ c.in-Some.is)
    c.refuse-in-Some.ensures.process c.refuse-in-Some.ensures.reply

pub returns-in-None : goal.returns-in-None
unfolding outcome reply
returns-in-None c = λ words.
    let v = seen_by c.args.caller.now c.args.store.now words in
    agreed-made c.args.caller.now c.args.store.now words c.args.process.now c.agree-reply.new.process (record c.agree-reply.result { level = Some (slice_index c.args.process.now.registers.general 3) }) (ByRule RaiseLevel) c.args.store.now words
    (by_facts v c.args.caller.now.subject c.args.process.now.registers.general c.has_level.result _ c.refusal.result c.has_level.ensures c.if-not-has_level.false (c.facts_of_raise.ensures words) c.refusal.ensures.first ∙ c.in-None.is)
    (record {
      objects = refl;
      access = refl;
      levels = refl;
      lines = refl;
      process = c.agree-reply.ensures.process;
      answer = ap (λ (r : Reply). r.answer) c.agree-reply.ensures.reply;
      sent = ap (λ (r : Reply). r.sent) c.agree-reply.ensures.reply;
      level = refl;
      kernel = refl;
    })
