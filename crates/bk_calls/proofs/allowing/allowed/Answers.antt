use Rattle.std.proofs.Common.{◌∙◌, sym, ap, []}
use Rattle.bk_calls.specs.Made.{seen_by}
use Rattle.bk_calls.proofs.RuleChecks.{is_wrong, level-there, no-path, bad-argument, by-rule}
use Rattle.bk_calls.proofs.allowing.allowed.Goals as goal

pub returns-in_default : goal.returns-in_default
returns-in_default c = λ words.
    no-path (seen_by c.args.caller.now c.args.store.now words) c.args.caller.now.subject c.args.process.now.registers.general c.args.rule c.requires.path (sym c.in_default.is ∙ c.path_of.ensures.value)

pub returns-then-is_wrong : goal.returns-then-is_wrong
returns-then-is_wrong c = λ words.
    bad-argument (seen_by c.args.caller.now c.args.store.now words) c.args.caller.now.subject c.args.process.now.registers.general c.args.rule c.in-Some.path c.in-Some.ensures.value
    (c.requires.argument words ∙ c.if-is_wrong.true)

pub returns-in-None : goal.returns-in-None
returns-in-None c = (
  c.in-Some.ensures.path,
  λ words.
      by-rule (seen_by c.args.caller.now c.args.store.now words) c.args.caller.now.subject c.args.process.now.registers.general c.args.rule c.in-Some.path c.in-Some.ensures.value
      (c.requires.argument words ∙ c.if-is_wrong.false)
      ∙ sym (c.decided.ensures words) ∙ c.in-None.is,
)

pub returns-in-Some-decided : goal.returns-in-Some-decided
returns-in-Some-decided c = λ words.
    by-rule (seen_by c.args.caller.now c.args.store.now words) c.args.caller.now.subject c.args.process.now.registers.general c.args.rule c.in-Some.path c.in-Some.ensures.value
    (c.requires.argument words ∙ c.if-is_wrong.false)
    ∙ sym (c.decided.ensures words) ∙ c.in-Some-decided.is

pub decided-requires-clause-level : goal.decided-requires-clause-level
decided-requires-clause-level c = λ create. level-there (seen_by c.args.caller.now c.args.store.now []) c.args.process.now.registers.general
    (sym (ap (λ r. is_wrong (seen_by c.args.caller.now c.args.store.now []) r c.args.process.now.registers.general) create) ∙ c.requires.argument [] ∙ c.if-is_wrong.false)
