use Rattle.std.proofs.Common.{◌∙◌, sym, ap, subst, Option}
use Rattle.std.specs.Prelude.{option_map, IfSome, IsNone, ◌↔◌}
use Rattle.std.specs.FinMap as map
use Rattle.bk_object.specs.declared.Slot.{Slot}
use Rattle.bk_tree.specs.Objects.{slot_of, HasSlot}
use Rattle.bk_tree.proofs.Found.{slot_found, none_found}
use Rattle.bk_tree.proofs.Indexed.{same_slot}
use Rattle.bk_tree.proofs.Kept.{finding}
use Rattle.bk_tree.proofs.tree.Tree.find.Goals as goal

pub slot_for-requires-clause-finds : goal.slot_for-requires-clause-finds
slot_for-requires-clause-finds c = finding c.self.inside.places.items c.self.inside.cells.items c.self.inside.order.items c.self.inside.free.items _ _ c.self.invariant

pub returns-clause-value : goal.returns-clause-value
returns-clause-value c =
    same_slot c.slot_for.result _ (c.slot_for.ensures.slot ∙ (finding c.self.inside.places.items c.self.inside.cells.items c.self.inside.order.items c.self.inside.free.items _ _ c.self.invariant).found c.args.path c.slot_for.ensures.path)
    ∙ ap (λ m. option_map slot_of (map.get m c.args.path)) c.self.view_is

pub returns-clause-some : goal.returns-clause-some
returns-clause-some c = subst (λ (o : Option Slot). IfSome o (λ slot. HasSlot c.args.self.now slot.n)) (sym (returns-clause-value c)) (slot_found c.args.self.now c.args.path)

pub returns-clause-none : goal.returns-clause-none
returns-clause-none c = subst (λ (o : Option Slot). IsNone o ↔ IsNone (map.get c.args.self.now c.args.path)) (sym (returns-clause-value c)) (none_found (map.get c.args.self.now c.args.path))
