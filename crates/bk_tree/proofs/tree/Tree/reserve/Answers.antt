use Rattle.std.proofs.Common.{◌∙◌, ap, arith, rules, replicate, set, Some}
use Rattle.std.specs.List.{insert}
use Rattle.bk_tree.specs.Places.{tree_of}
use Rattle.bk_path.specs.Keys.{key_of}
use Rattle.bk_tree.specs.Order.{rank}
use Rattle.bk_tree.proofs.Changed.{begun-places}
use Rattle.bk_tree.proofs.Kept.{begun_whole}
use Rattle.bk_tree.proofs.tree.Tree.reserve.Goals as goal

pub returns : goal.returns
returns c =
    let low = c.requires.quota.0 in
    let same = c.requires.slots in
    let places = c.in_ok-places.ensures.items_if_clones_equal (λ y h. search rules) in
    ap tree_of (c.put.ensures ∙ (λ i. set (places i) 0 (Some (record { path = c.root.ensures i; facts = c.args.root })))) ∙ begun-places c.args.slots c.args.root (omega (arith, low, same))

pub invariant_of-result : goal.invariant_of-result
invariant_of-result c =
    let low = c.requires.quota.0 in
    let high = c.requires.quota.1 in
    let same = c.requires.slots in
    let places = c.in_ok-places.ensures.items_if_clones_equal (λ y h. search rules) in
    let empty = c.in_ok-order.ensures.items in
    let root = c.root-2.ensures in
    begun_whole c.args.root c.args.slots low high c.requires.directory same
    c.put.new.places.items (c.put.ensures ∙ (λ i. set (places i) 0 (Some (record { path = c.root.ensures i; facts = c.args.root }))))
    c.in_ok-cells.cells.items (c.in_ok-cells.ensures.items_if_clones_equal (λ y h. search rules) ∙ ap (replicate c.args.slots) c.new.ensures)
    c.enter.new.order.items (c.enter.ensures.items ∙ (λ i. insert (empty i) (rank (key_of (root i)) (empty i)) (record { key = key_of (root i); slot = 0 })))
    c.in_ok-free.free.items c.in_ok-free.ensures.items _ _ (omega (arith, c.enter.ensures.capacity, c.in_ok-order.ensures.capacity)) c.in_ok-free.ensures.capacity
