use Rattle.std.proofs.Common.{◌≡◌, ◌∙◌, sym, ap, subst, arith, Some}
use Rattle.std.specs.Prelude.{IsSome}
use Rattle.std.specs.FinMap.{get}
use Rattle.std.proofs.lemmas.Option.{slice_get_within}
use Rattle.bk_path.specs.Paths.{parent}
use Rattle.bk_quota.specs.Charges.{charge_of, governing_in, level_in}
use Rattle.bk_tree.specs.declared.place.Placed.{Placed}
use Rattle.bk_tree.specs.Objects.{facts_of, CanGo}
use Rattle.bk_tree.specs.Kept.{cell_in}
use Rattle.bk_tree.specs.Places.{tree_of}
use Rattle.bk_tree.proofs.Changed.{leaf-map}
use Rattle.bk_tree.proofs.Found.{stands}
use Rattle.bk_tree.proofs.Kept.{finding, paying}
use Rattle.bk_tree.proofs.Gone.{covered, leaf_here, leaf_listed, parent_some, room_push, whole_less}
use Rattle.bk_tree.proofs.tree.Tree.remove_leaf.Goals as goal

pub object_at-object-requires : goal.object_at-object-requires
object_at-object-requires c =
    let leaf = c.requires in
    (record { path = leaf.path; facts = leaf.facts }, stands c.self.inside.places.items leaf.path c.args.slot.n leaf.facts (ap (λ m. get m leaf.path) c.self.view_is ∙ leaf.there))

pub payer-payer-requires-clause-finds : goal.payer-payer-requires-clause-finds
payer-payer-requires-clause-finds c = finding c.self.inside.places.items c.self.inside.cells.items c.self.inside.order.items c.self.inside.free.items _ _ c.self.invariant

pub payer-payer-requires-clause-there : goal.payer-payer-requires-clause-there
payer-payer-requires-clause-there c = subst (λ q. IsSome (get (tree_of c.self.inside.places.items) q)) (sym c.above-above.ensures) (parent_some c.self.inside.places.items c.self.inside.cells.items c.self.inside.order.items c.self.inside.free.items _ _ c.self.invariant c.args.slot.n (leaf_here c.self.inside.places.items c.self.inside.cells.items c.self.inside.order.items c.self.inside.free.items _ _ c.self.invariant c.args.slot.n (subst (λ m. CanGo m c.args.slot.n) (sym c.self.view_is) c.requires) c.object_at-object.result c.object_at-object.ensures))

pub level_at-level-requires-clause-finds : goal.level_at-level-requires-clause-finds
level_at-level-requires-clause-finds c = finding c.self.inside.places.items c.self.inside.cells.items c.self.inside.order.items c.self.inside.free.items _ _ c.self.invariant

pub give_back_at-requires : goal.give_back_at-requires
give_back_at-requires c = (
  (cell_in (tree_of c.self.inside.places.items) (governing_in facts_of (tree_of c.self.inside.places.items) (parent c.object_at-object.result.path))),
  (paying c.self.inside.places.items c.self.inside.cells.items c.self.inside.order.items c.self.inside.free.items _ _ c.self.invariant (parent c.object_at-object.result.path) c.payer-payer.result.n (subst (λ q. (a : Placed) × (get (tree_of c.self.inside.places.items) (governing_in facts_of (tree_of c.self.inside.places.items) q) ≡ Some a) × (a.slot ≡ c.payer-payer.result.n)) c.above-above.ensures c.payer-payer.ensures)),
  covered c.self.inside.places.items c.self.inside.cells.items c.self.inside.order.items c.self.inside.free.items _ _ c.self.invariant c.args.slot.n (leaf_here c.self.inside.places.items c.self.inside.cells.items c.self.inside.order.items c.self.inside.free.items _ _ c.self.invariant c.args.slot.n (subst (λ m. CanGo m c.args.slot.n) (sym c.self.view_is) c.requires) c.object_at-object.result c.object_at-object.ensures) c.payer-payer.result.n c.charge_of-charge.result (subst (λ q. (a : Placed) × (get (tree_of c.self.inside.places.items) (governing_in facts_of (tree_of c.self.inside.places.items) q) ≡ Some a) × (a.slot ≡ c.payer-payer.result.n)) c.above-above.ensures c.payer-payer.ensures) (c.charge_of-charge.ensures ∙ ap (charge_of c.object_at-object.result.facts) (c.level_at-level.ensures ∙ ap (level_in facts_of (tree_of c.self.inside.places.items)) c.above-above.ensures)),
)

pub leave-requires-clause-there : goal.leave-requires-clause-there
leave-requires-clause-there c = (c.args.slot.n, leaf_listed c.self.inside.places.items c.self.inside.cells.items c.self.inside.order.items c.self.inside.free.items _ _ c.self.invariant c.args.slot.n (leaf_here c.self.inside.places.items c.self.inside.cells.items c.self.inside.order.items c.self.inside.free.items _ _ c.self.invariant c.args.slot.n (subst (λ m. CanGo m c.args.slot.n) (sym c.self.view_is) c.requires) c.object_at-object.result c.object_at-object.ensures))

pub put-requires : goal.put-requires
put-requires c = slice_get_within c.self.inside.places.items c.args.slot.n (Some c.object_at-object.result) c.object_at-object.ensures

pub invariant_of-self : goal.invariant_of-self
invariant_of-self c = whole_less c.self.inside.places.items c.self.inside.cells.items c.self.inside.order.items c.self.inside.free.items _ _ c.self.invariant c.args.slot.n (leaf_here c.self.inside.places.items c.self.inside.cells.items c.self.inside.order.items c.self.inside.free.items _ _ c.self.invariant c.args.slot.n (subst (λ m. CanGo m c.args.slot.n) (sym c.self.view_is) c.requires) c.object_at-object.result c.object_at-object.ensures) c.payer-payer.result.n c.charge_of-charge.result (subst (λ q. (a : Placed) × (get (tree_of c.self.inside.places.items) (governing_in facts_of (tree_of c.self.inside.places.items) q) ≡ Some a) × (a.slot ≡ c.payer-payer.result.n)) c.above-above.ensures c.payer-payer.ensures)
    (c.charge_of-charge.ensures ∙ ap (charge_of c.object_at-object.result.facts) (c.level_at-level.ensures ∙ ap (level_in facts_of (tree_of c.self.inside.places.items)) c.above-above.ensures)) c.give_back_at.new.cells.items (c.give_back_at.ensures (cell_in (tree_of c.self.inside.places.items) (governing_in facts_of (tree_of c.self.inside.places.items) (parent c.object_at-object.result.path))) (paying c.self.inside.places.items c.self.inside.cells.items c.self.inside.order.items c.self.inside.free.items _ _ c.self.invariant (parent c.object_at-object.result.path) c.payer-payer.result.n (subst (λ q. (a : Placed) × (get (tree_of c.self.inside.places.items) (governing_in facts_of (tree_of c.self.inside.places.items) q) ≡ Some a) × (a.slot ≡ c.payer-payer.result.n)) c.above-above.ensures c.payer-payer.ensures))) c.leave.new.order.items c.leave.ensures.items
    c.put.new.places.items c.put.ensures c.push_free.new.free.items c.push_free.ensures.items _ _ (omega (arith, c.leave.ensures.capacity)) (omega (arith, c.push_free.ensures.capacity))

pub returns : goal.returns
returns c = leaf-map c.self.inside.places.items c.put.new.places.items c.self.invariant.tree c.args.self.now c.self.view_is c.args.slot.n c.requires c.put.ensures

pub push_free-requires : goal.push_free-requires
push_free-requires c = room_push c.self.inside.places.items c.self.inside.cells.items c.self.inside.order.items c.self.inside.free.items _ _ c.self.invariant c.args.slot.n (leaf_here c.self.inside.places.items c.self.inside.cells.items c.self.inside.order.items c.self.inside.free.items _ _ c.self.invariant c.args.slot.n (subst (λ m. CanGo m c.args.slot.n) (sym c.self.view_is) c.requires) c.object_at-object.result c.object_at-object.ensures)
