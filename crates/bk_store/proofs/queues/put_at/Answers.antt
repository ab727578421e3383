use Rattle.std.proofs.Common.{◌∙◌, ap}
use Rattle.bk_store.specs.Stored.{has_place, sent}
use Rattle.bk_store.specs.Joined.{no_mail, waiting_of}
use Rattle.bk_store.proofs.Lists.{element, put_back}
use Rattle.bk_store.proofs.queues.put_at.Goals as goal

pub returns-clause-kept : goal.returns-clause-kept
returns-clause-kept c = c.put.ensures.kept ∙ ap has_place (element waiting_of c.args.mailboxes.now.items c.args.slot.n c.index_mut.result.now no_mail c.requires c.index_mut.ensures.value)

pub returns-clause-rest : goal.returns-clause-rest
returns-clause-rest c = put_back waiting_of c.args.mailboxes.now.items c.args.slot.n c.index_mut.result.now c.put.new.mailbox no_mail (sent c.args.words) c.requires c.index_mut.ensures.value c.put.ensures.rest
