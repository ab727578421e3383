use Rattle.std.proofs.Common.{◌∙◌, ap, arith}
use Rattle.bk_tree.specs.Order.{rank}
use Rattle.bk_tree.proofs.OrderLemmas.{leaving, rising_from}
use Rattle.bk_tree.proofs.order.leave.Goals as goal

pub remove-requires : goal.remove-requires
remove-requires c =
    let (slot, there) = c.requires.there in
    let within = (leaving 0 _ slot c.args.order.now.items (rising_from 0 c.args.order.now.items c.requires.rising) there).within in
    let at = c.rank-at.ensures.value ∙ ap (λ k. rank k c.args.order.now.items) c.key.ensures.value in
    omega (arith, within, at, c.args.order.now.ok.0)
