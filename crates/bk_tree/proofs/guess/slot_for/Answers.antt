use Rattle.std.proofs.Common.{◌≡◌, ◌∙◌, ap, sym, Option, Some, None}
use Rattle.std.specs.Prelude.{option_map, slice_get, unwrap_or}
use Rattle.std.specs.FinMap.{get}
use Rattle.bk_tree.specs.declared.place.Object.{Object}
use Rattle.bk_tree.specs.declared.place.Placed.{Placed}
use Rattle.bk_tree.specs.Places.{tree_of}
use Rattle.bk_tree.proofs.Found.{is_there}
use Rattle.bk_tree.proofs.guess.slot_for.Goals as goal

-- a place that holds an object is there
at_place : (o : Option (Option Object)) (x : Object) → unwrap_or o None ≡ Some x → o ≡ Some (Some x)
at_place None x h = cc
at_place (Some o) x h = ap Some h

pub returns-then-is_at-clause-slot : goal.returns-then-is_at-clause-slot
returns-then-is_at-clause-slot c =
    let (x, held, path) = c.is_at.ensures c.if-is_at.true in
    let there = is_there c.args.places.now.items c.requires.apart c.guess-slot.result.n x (at_place (slice_get c.args.places.now.items c.guess-slot.result.n) x held) in
    sym (c.requires.finds.found c.args.path c.key-key.ensures.path ∙ ap (option_map (λ (a : Placed). a.slot)) (ap (get (tree_of c.args.places.now.items)) (sym path) ∙ there))
