use Rattle.std.proofs.Common.{subst}
use Rattle.bk_tree.specs.Kept.{IsKept}
use Rattle.bk_tree.proofs.Changed.{root_at_first}
use Rattle.bk_tree.proofs.tree.Tree.law_kept.Goals as goal

pub returns-clause-root : goal.returns-clause-root
returns-clause-root c = root_at_first c.self.inside.places.items c.self.invariant.tree c.args.self.now c.self.view_is

pub returns-clause-kept : goal.returns-clause-kept
returns-clause-kept c = subst IsKept c.self.view_is c.self.invariant.tree.kept
