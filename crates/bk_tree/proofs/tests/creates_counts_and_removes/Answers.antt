use Rattle.std.proofs.Common.{ap}
use Rattle.bk_object.specs.Kinds.{is_directory}
use Rattle.bk_object.specs.declared.Facts.{Facts}
use Rattle.bk_tree.proofs.Tested.{parent_there, parent_is}
use Rattle.bk_tree.proofs.tests.creates_counts_and_removes.Goals as goal

pub create-created-requires-clause-parent : goal.create-created-requires-clause-parent
create-created-requires-clause-parent g c =
    parent_there c.facts.result c.reserve.result c.expect-tree.result c.expect-path.result c.expect-tree.ensures c.reserve.ensures (ap (λ (f : Facts). is_directory f.kind) c.facts.ensures)
    (parent_is c.root.result c.child.result c.expect-path.result 5 c.root.ensures c.expect-path.ensures c.child.ensures.some)
