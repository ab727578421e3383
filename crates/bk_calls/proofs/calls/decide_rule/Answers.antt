use Rattle.std.proofs.Common.{ap, refl, subst, sym}
use Rattle.bk_state.specs.declared.call.Call.TheVariants.{ByRule}
use Rattle.bk_calls.specs.Made.{made_by, IsMade}
use Rattle.bk_calls.specs.Shown.{rule_changes_pages}
use Rattle.bk_calls.proofs.PagesKept.{unless-yes}
use Rattle.bk_calls.proofs.calls.decide_rule.Goals as goal

pub returns-in-GetRead-clause-made : goal.returns-in-GetRead-clause-made
returns-in-GetRead-clause-made c = c.get.ensures.made c.args.core.now.words

pub returns-in-Release-clause-made : goal.returns-in-Release-clause-made
returns-in-Release-clause-made c = subst (λ r. IsMade c.args.store.now c.release.new.store c.args.core.now.words c.args.core.now.words c.release.new.process c.release.result (made_by c.args.caller.now c.args.store.now c.args.core.now.words c.args.process.now (ByRule r))) (sym c.in-Release.is) (c.release.ensures.made c.args.core.now.words)

pub returns-in-Give-clause-made : goal.returns-in-Give-clause-made
returns-in-Give-clause-made c = subst (λ r. IsMade c.args.store.now c.give.new.store c.args.core.now.words c.args.core.now.words c.give.new.process c.give.result (made_by c.args.caller.now c.args.store.now c.args.core.now.words c.args.process.now (ByRule r))) (sym c.in-Give.is) (c.give.ensures.made c.args.core.now.words)

pub returns-in-Rescind-clause-made : goal.returns-in-Rescind-clause-made
returns-in-Rescind-clause-made c = subst (λ r. IsMade c.args.store.now c.rescind.new.store c.args.core.now.words c.args.core.now.words c.rescind.new.process c.rescind.result (made_by c.args.caller.now c.args.store.now c.args.core.now.words c.args.process.now (ByRule r))) (sym c.in-Rescind.is) (c.rescind.ensures.made c.args.core.now.words)

pub returns-in-DeleteGroup-clause-made : goal.returns-in-DeleteGroup-clause-made
returns-in-DeleteGroup-clause-made c = subst (λ r. IsMade c.args.store.now c.delete_group.new.store c.args.core.now.words c.args.core.now.words c.delete_group.new.process c.delete_group.result (made_by c.args.caller.now c.args.store.now c.args.core.now.words c.args.process.now (ByRule r))) (sym c.in-DeleteGroup.is) (c.delete_group.ensures.made c.args.core.now.words)

pub returns-in-RaiseLevel-clause-made : goal.returns-in-RaiseLevel-clause-made
returns-in-RaiseLevel-clause-made c = subst (λ r. IsMade c.args.store.now c.args.store.now c.args.core.now.words c.args.core.now.words c.raise_level.new.process c.raise_level.result (made_by c.args.caller.now c.args.store.now c.args.core.now.words c.args.process.now (ByRule r))) (sym c.in-RaiseLevel.is) (c.raise_level.ensures c.args.core.now.words)

pub returns-in-GetRead-clause-extents : goal.returns-in-GetRead-clause-extents
returns-in-GetRead-clause-extents c = λ none. c.get.ensures.extents

pub returns-in-Release-clause-extents : goal.returns-in-Release-clause-extents
returns-in-Release-clause-extents c = λ none. c.release.ensures.extents

pub returns-in-Give-clause-extents : goal.returns-in-Give-clause-extents
returns-in-Give-clause-extents c = λ none. c.give.ensures.extents

pub returns-in-Rescind-clause-extents : goal.returns-in-Rescind-clause-extents
returns-in-Rescind-clause-extents c = λ none. c.rescind.ensures.extents

pub returns-in-Create-clause-extents : goal.returns-in-Create-clause-extents
returns-in-Create-clause-extents c = λ none. c.create.ensures.extents (unless-yes c.args.rule c.create.result.answer (ap rule_changes_pages c.in-Create.is) none)

pub returns-in-DeleteGroup-clause-extents : goal.returns-in-DeleteGroup-clause-extents
returns-in-DeleteGroup-clause-extents c = λ none. c.delete_group.ensures.extents (unless-yes c.args.rule c.delete_group.result.answer (ap rule_changes_pages c.in-DeleteGroup.is) none)

pub returns-in-RaiseLevel-clause-extents : goal.returns-in-RaiseLevel-clause-extents
returns-in-RaiseLevel-clause-extents c = λ none path. refl
