use Rattle.std.proofs.Common.{◌∙◌, ap, map, set}
use Rattle.std.proofs.lemmas.List.{map-set}
use Rattle.bk_store.specs.Joined.{waiting_of}
use Rattle.bk_store.proofs.queues.clear_mailbox.Goals as goal

pub returns : goal.returns
returns c =
    map-set waiting_of c.args.mailboxes.now.items c.args.slot.n c.new.result
    ∙ ap (set (map waiting_of c.args.mailboxes.now.items) c.args.slot.n) (λ i. record { messages = c.new.ensures.empty.0 i; lost = c.new.ensures.empty.1 i })
