use Rattle.bk_state.specs.Answers.{Called, called}
use Rattle.bk_kernel.proofs.Lines.{all_answered}
use Rattle.bk_kernel.proofs.Placed.{process-there}
use Rattle.bk_kernel.proofs.tables.Tables.settle.Goals as goal

pub returns-clause-answered : goal.returns-clause-answered
returns-clause-answered c =
    let (p, there) = process-there c.args.self.now.state c.args.self.now.loaded c.general-found.ensures.there in
    let made : Called = called c.args.self.now.state c.args.self.now.loaded p c.args.number in
    all_answered c.call_item-item.result c.byte_item-sent.result (c.call_item-item.ensures.answered made.cause (c.call-reply.ensures.answer p there)) c.byte_item-sent.ensures.answered
