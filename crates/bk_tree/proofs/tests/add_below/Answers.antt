use Rattle.bk_tree.proofs.Tested.{directory_there}
use Rattle.bk_tree.proofs.tests.add_below.Goals as goal

pub create-requires-clause-parent : goal.create-requires-clause-parent
create-requires-clause-parent c = directory_there c.args.tree.now c.args.above c.in-Some.path c.args.held c.args.entry c.requires c.in-Directory.is c.in-Some.ensures.some
