use Rattle.bk_tree.proofs.Changed.{slots_within, slots_apart}
use Rattle.bk_tree.proofs.tree.Tree.law_slots.Goals as goal

pub returns-clause-within : goal.returns-clause-within
returns-clause-within c = slots_within c.self.inside.places.items c.self.invariant.tree c.args.self.now c.self.view_is

pub returns-clause-apart : goal.returns-clause-apart
returns-clause-apart c = slots_apart c.self.inside.places.items c.self.invariant.tree c.args.self.now c.self.view_is
