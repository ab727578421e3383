use Rattle.std.proofs.Common.{◌∙◌, ap, Some, refl}
use Rattle.std.specs.Prelude.{set}
use Rattle.bk_tree.proofs.Found.{stands_there}
use Rattle.bk_tree.proofs.Changed.{within, row-map}
use Rattle.bk_tree.proofs.Kept.{whole_row}
use Rattle.bk_tree.proofs.tree.Tree.set_row.Goals as goal

pub object_at-object-requires : goal.object_at-object-requires
object_at-object-requires c = stands_there c.self.inside.places.items c.self.inside.places.items c.args.self.now c.args.slot.n refl c.self.view_is c.requires

pub put-requires : goal.put-requires
put-requires c = within c.self.inside.places.items c.self.inside.places.items _ c.self.invariant.tree c.args.self.now c.self.view_is c.args.slot.n c.object_at-object.result c.args.row refl c.object_at-object.ensures refl

pub invariant_of-self : goal.invariant_of-self
invariant_of-self c =
    whole_row c.self.inside.places.items c.self.inside.cells.items c.self.inside.order.items c.self.inside.free.items _ _ c.self.invariant c.self.inside.places.items c.put.new.places.items c.args.slot.n c.object_at-object.result c.args.row refl c.object_at-object.ensures
    (c.put.ensures ∙ ap (λ x. set c.self.inside.places.items c.args.slot.n (Some x)) c.with_row.ensures)

pub returns : goal.returns
returns c =
    row-map c.self.inside.places.items c.self.inside.places.items c.put.new.places.items c.self.invariant.tree c.args.self.now c.self.view_is c.args.slot.n c.object_at-object.result c.args.row refl c.object_at-object.ensures
    (c.put.ensures ∙ ap (λ x. set c.self.inside.places.items c.args.slot.n (Some x)) c.with_row.ensures)
