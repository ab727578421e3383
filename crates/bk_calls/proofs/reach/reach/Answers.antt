use Rattle.std.proofs.Common.{◌∙◌, sym}
use Rattle.bk_calls.proofs.Reaching.{pathless, outside, unnamed, not_there, other_kind, not_held, none_fails}
use Rattle.bk_calls.proofs.reach.reach.Goals as goal

pub returns-in_default-clause-reached : goal.returns-in_default-clause-reached
returns-in_default-clause-reached c = λ service suits words.
    pathless c.args.caller.now c.args.store.now words service c.args.process.now.registers.general (sym c.in_default.is ∙ c.path_of.ensures.value)

pub returns-then-asked-clause-reached : goal.returns-then-asked-clause-reached
returns-then-asked-clause-reached c = λ service suits words.
    outside c.args.caller.now c.args.store.now words c.args.asked service c.args.process.now.registers.general suits c.in-Some.path c.in-Some.ensures.value c.in-Some.ensures.path c.if-asked.true

pub returns-then-not-is_named-clause-reached : goal.returns-then-not-is_named-clause-reached
returns-then-not-is_named-clause-reached c = λ service suits words.
    unnamed c.args.caller.now c.args.store.now words c.args.asked service c.args.process.now.registers.general suits c.in-Some.path c.in-Some.ensures.value c.in-Some.ensures.path
    c.if-asked.false c.is_named.result (c.is_named.ensures c.args.caller.now words) c.if-not-is_named.true

pub returns-in_default-facts-clause-reached : goal.returns-in_default-facts-clause-reached
returns-in_default-facts-clause-reached c = λ service suits words.
    not_there c.args.caller.now c.args.store.now words c.args.asked service c.args.process.now.registers.general suits c.in-Some.path c.in-Some.ensures.value c.in-Some.ensures.path
    c.if-asked.false c.is_named.result (c.is_named.ensures c.args.caller.now words) c.if-not-is_named.false
    (sym c.in_default-facts.is ∙ c.facts.ensures)

pub returns-then-not-has-clause-reached : goal.returns-then-not-has-clause-reached
returns-then-not-has-clause-reached c = λ service suits words.
    other_kind c.args.caller.now c.args.store.now words c.args.asked service c.args.process.now.registers.general suits c.in-Some.path c.in-Some.ensures.value c.in-Some.ensures.path
    c.if-asked.false c.is_named.result (c.is_named.ensures c.args.caller.now words) c.if-not-is_named.false
    c.in-Some-facts.facts (sym c.in-Some-facts.ensures) c.has.result c.has.ensures c.if-not-has.true

pub returns-then-not-are_met-clause-reached : goal.returns-then-not-are_met-clause-reached
returns-then-not-are_met-clause-reached c = λ service suits words.
    not_held c.args.caller.now c.args.store.now words c.args.asked service c.args.process.now.registers.general suits c.in-Some.path c.in-Some.ensures.value c.in-Some.ensures.path
    c.if-asked.false c.is_named.result (c.is_named.ensures c.args.caller.now words) c.if-not-is_named.false
    c.in-Some-facts.facts (sym c.in-Some-facts.ensures) c.has.result c.has.ensures c.if-not-has.false c.are_met.result c.are_met.ensures c.if-not-are_met.true

pub returns-clause-reached : goal.returns-clause-reached
returns-clause-reached c = λ service suits. (
  record {
    path = c.in-Some.ensures.path;
    facts = sym c.in-Some-facts.ensures;
    kind = suits.sort c.in-Some-facts.facts.kind ∙ sym c.has.ensures ∙ c.if-not-has.false;
  },
  λ words.
      none_fails c.args.caller.now c.args.store.now words c.args.asked service c.args.process.now.registers.general suits c.in-Some.path c.in-Some.ensures.value c.in-Some.ensures.path
      c.if-asked.false c.is_named.result (c.is_named.ensures c.args.caller.now words) c.if-not-is_named.false
      c.in-Some-facts.facts (sym c.in-Some-facts.ensures) c.has.result c.has.ensures c.if-not-has.false c.are_met.result c.are_met.ensures c.if-not-are_met.false,
)
