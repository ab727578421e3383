use Rattle.std.proofs.Common.{subst}
use Rattle.std.proofs.lemmas.Option.{IfSome_then}
use Rattle.bk_tree.specs.Objects.{HasNone, IsLeafOf}
use Rattle.bk_tree.specs.Places.{tree_of}
use Rattle.bk_tree.proofs.Leaves.{leaf_of, none_exactly, none_of, none_then}
use Rattle.bk_tree.proofs.tree.Tree.next_leaf.Goals as goal

pub returns-clause-some : goal.returns-clause-some
returns-clause-some c = IfSome_then c.last_inferior.result c.last_inferior.ensures.some (λ slot last.
    subst (λ m. IsLeafOf m c.args.of slot.n) c.self.view_is (leaf_of (tree_of c.self.inside.places.items) c.self.inside.order.items c.self.invariant.index c.args.of c.last_inferior.ensures.path slot.n last))

pub returns-clause-none : goal.returns-clause-none
returns-clause-none c = none_exactly c.args.self.now c.args.of c.last_inferior.result (returns-clause-some c) (none_then c.last_inferior.result c.last_inferior.ensures.none (λ none.
    subst (λ m. HasNone m c.args.of) c.self.view_is (none_of (tree_of c.self.inside.places.items) c.self.inside.order.items c.self.invariant.index c.args.of c.last_inferior.ensures.path none)))
