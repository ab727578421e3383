use Rattle.std.proofs.Common.{◌∙◌, ap, sym}
use Rattle.std.specs.Ordering.{nat_cmp}
use Rattle.std.specs.FinMap.{find}
use Rattle.std.specs.Prelude.{slice_get}
use Rattle.bk_tree.specs.Order.{keyed, slot_if}
use Rattle.bk_tree.proofs.OrderLemmas.{found-rank, rising_from}
use Rattle.bk_tree.proofs.order.slot_at.Goals as goal

pub returns-clause-slot : goal.returns-clause-slot
returns-clause-slot c =
    let order = c.args.order.now.items in
    c.slot_if.ensures ∙ ap (slot_if c.key-key.result) (c.entry_at.ensures ∙ ap (slice_get order) c.rank.ensures.value)
    ∙ sym (found-rank c.key-key.result 0 order (rising_from 0 order c.requires)) ∙ ap (λ k. find nat_cmp k (keyed order)) c.key-key.ensures.value
