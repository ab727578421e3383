use Rattle.std.proofs.Common.{subst, sym}
use Rattle.bk_state.specs.declared.call.Call.TheVariants.{Other}
use Rattle.bk_calls.specs.Made.{made_by, IsMade}
use Rattle.bk_calls.proofs.calls.serve.Goals as goal

pub returns-in-Send-clause-made : goal.returns-in-Send-clause-made
returns-in-Send-clause-made c = subst (λ r. IsMade c.args.store.now c.send.new.store c.args.core.now.words c.args.core.now.words c.send.new.process c.send.result (made_by c.args.caller.now c.args.store.now c.args.core.now.words c.args.process.now (Other r))) (sym c.in-Send.is) (c.send.ensures.made c.args.core.now.words)

pub returns-in-Receive-clause-made : goal.returns-in-Receive-clause-made
returns-in-Receive-clause-made c = subst (λ r. IsMade c.args.store.now c.receive.new.store c.args.core.now.words c.args.core.now.words c.receive.new.process c.receive.result (made_by c.args.caller.now c.args.store.now c.args.core.now.words c.args.process.now (Other r))) (sym c.in-Receive.is) (c.receive.ensures.made c.args.core.now.words)

pub returns-in-LineIn-clause-made : goal.returns-in-LineIn-clause-made
returns-in-LineIn-clause-made c = subst (λ r. IsMade c.args.store.now c.line_in.new.store c.args.core.now.words c.args.core.now.words c.line_in.new.process c.line_in.result (made_by c.args.caller.now c.args.store.now c.args.core.now.words c.args.process.now (Other r))) (sym c.in-LineIn.is) (c.line_in.ensures.made c.args.core.now.words)
