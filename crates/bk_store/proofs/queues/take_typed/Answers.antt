use Rattle.std.proofs.Common.{[], ◌∙◌, ap}
use Rattle.bk_store.specs.Stored.{first_of, without_first}
use Rattle.bk_store.specs.Joined.{bytes_of}
use Rattle.bk_store.proofs.Lists.{element, put_back}
use Rattle.bk_store.proofs.queues.take_typed.Goals as goal

pub returns-clause-byte : goal.returns-clause-byte
returns-clause-byte c = c.take_from.ensures.byte ∙ ap first_of (element bytes_of c.args.inputs.now.items c.args.line c.index_mut.result.now [] c.requires c.index_mut.ensures.value)

pub returns-clause-rest : goal.returns-clause-rest
returns-clause-rest c = put_back bytes_of c.args.inputs.now.items c.args.line c.index_mut.result.now c.take_from.new.input [] without_first c.requires c.index_mut.ensures.value c.take_from.ensures.rest
