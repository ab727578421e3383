use Rattle.bk_tree.proofs.Fitting.{needs_fit, blocks_fit, objects_fit, quota_fits}
use Rattle.bk_tree.proofs.tree.Tree.law_room.Goals as goal

pub returns-clause-needs : goal.returns-clause-needs
returns-clause-needs c = needs_fit c.self.inside.places.items c.self.invariant.tree c.args.self.now c.self.view_is

pub returns-clause-blocks : goal.returns-clause-blocks
returns-clause-blocks c = blocks_fit c.self.inside.places.items c.self.invariant.tree c.args.self.now c.self.view_is

pub returns-clause-objects : goal.returns-clause-objects
returns-clause-objects c = objects_fit c.self.inside.places.items c.self.invariant.tree c.args.self.now c.self.view_is

pub returns-clause-quota : goal.returns-clause-quota
returns-clause-quota c = quota_fits c.self.inside.places.items c.self.invariant.tree c.args.self.now c.self.view_is
