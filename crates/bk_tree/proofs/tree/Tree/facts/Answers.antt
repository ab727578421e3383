use Rattle.std.proofs.Common.{refl}
use Rattle.bk_tree.proofs.Found.{stands_there, facts_there}
use Rattle.bk_tree.proofs.tree.Tree.facts.Goals as goal

pub object_at-requires : goal.object_at-requires
object_at-requires c = stands_there c.self.inside.places.items c.self.inside.places.items c.args.self.now c.args.slot.n refl c.self.view_is c.requires

pub returns : goal.returns
returns c = facts_there c.self.inside.places.items c.self.inside.places.items c.args.self.now c.args.slot.n c.object_at.result refl c.self.view_is c.object_at.ensures
