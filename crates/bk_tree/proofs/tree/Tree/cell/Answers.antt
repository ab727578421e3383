use Rattle.std.proofs.Common.{◌∙◌, sym, refl}
use Rattle.std.proofs.lemmas.Option.{same_Some}
use Rattle.bk_quota.specs.Charges.{governing_in}
use Rattle.bk_tree.specs.Kept.{cell_in}
use Rattle.bk_tree.specs.Objects.{facts_of}
use Rattle.bk_tree.specs.Places.{tree_of}
use Rattle.bk_tree.proofs.Found.{stands_there, some_there, path_there}
use Rattle.bk_tree.proofs.Kept.{finding, paying}
use Rattle.bk_tree.proofs.tree.Tree.cell.Goals as goal

pub object_at-path-requires : goal.object_at-path-requires
object_at-path-requires c = stands_there c.self.inside.places.items c.self.inside.places.items c.args.self.now c.args.directory.n refl c.self.view_is c.requires

pub payer-payer-requires-clause-finds : goal.payer-payer-requires-clause-finds
payer-payer-requires-clause-finds c = finding c.self.inside.places.items c.self.inside.cells.items c.self.inside.order.items c.self.inside.free.items _ _ c.self.invariant

pub payer-payer-requires-clause-there : goal.payer-payer-requires-clause-there
payer-payer-requires-clause-there c = some_there c.self.inside.places.items c.self.inside.places.items c.args.self.now c.args.directory.n c.object_at-path.result refl c.self.view_is c.object_at-path.ensures c.self.invariant.tree.apart c.self.inside.places.items refl

pub cell_at-requires : goal.cell_at-requires
cell_at-requires c = (cell_in (tree_of c.self.inside.places.items) (governing_in facts_of (tree_of c.self.inside.places.items) c.object_at-path.result.path), paying c.self.inside.places.items c.self.inside.cells.items c.self.inside.order.items c.self.inside.free.items _ _ c.self.invariant c.object_at-path.result.path c.payer-payer.result.n c.payer-payer.ensures)

pub returns : goal.returns
returns c = λ path facts h.
    let is = path_there c.self.inside.places.items c.self.inside.places.items c.args.self.now c.args.directory.n c.object_at-path.result refl c.self.view_is c.object_at-path.ensures path facts h in
    let at = paying c.self.inside.places.items c.self.inside.cells.items c.self.inside.order.items c.self.inside.free.items _ _ c.self.invariant c.object_at-path.result.path c.payer-payer.result.n c.payer-payer.ensures in
    same_Some c.cell_at.result (cell_in (tree_of c.self.inside.places.items) (governing_in facts_of (tree_of c.self.inside.places.items) c.object_at-path.result.path)) (sym c.cell_at.ensures ∙ at)
    ∙ (λ i. cell_in (c.self.view_is i) (governing_in facts_of (c.self.view_is i) (is i)))
