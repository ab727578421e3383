use Rattle.std.proofs.Common.{◌∙◌, ap}
use Rattle.bk_store.specs.Stored.{oldest, received}
use Rattle.bk_store.specs.Joined.{no_mail, waiting_of}
use Rattle.bk_store.proofs.Lists.{element, put_back}
use Rattle.bk_store.proofs.queues.take_at.Goals as goal

pub returns-clause-message : goal.returns-clause-message
returns-clause-message c = c.take.ensures.message ∙ ap oldest (element waiting_of c.args.mailboxes.now.items c.args.slot.n c.index_mut.result.now no_mail c.requires c.index_mut.ensures.value)

pub returns-clause-rest : goal.returns-clause-rest
returns-clause-rest c = put_back waiting_of c.args.mailboxes.now.items c.args.slot.n c.index_mut.result.now c.take.new.mailbox no_mail received c.requires c.index_mut.ensures.value c.take.ensures.rest
