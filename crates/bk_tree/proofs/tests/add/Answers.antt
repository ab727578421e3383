use Rattle.bk_tree.proofs.Tested.{found_there}
use Rattle.bk_tree.proofs.tests.add.Goals as goal

pub add_below-requires : goal.add_below-requires
add_below-requires c = found_there c.args.tree.now c.args.above c.in-Some.slot c.facts-held.result c.in-Some.ensures.value c.facts-held.ensures
