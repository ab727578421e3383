use Rattle.std.proofs.Common.{◌≡◌, map}
use Rattle.std.specs.Prelude.{replicate}
use Rattle.bk_store.specs.Joined.{no_mail, waiting_of}
use Rattle.bk_store.proofs.queues.empty_mailboxes.Given as goal

abbrev pub invariant-loop-done : goal.invariant-loop-done
invariant-loop-done l = map waiting_of l.mailboxes.items ≡ replicate l.done no_mail
