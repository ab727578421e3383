use Rattle.std.proofs.Common.{arith}
use Rattle.bk_path.proofs.PathLemmas.{small-set}
use Rattle.bk_path.proofs.path.Path.child.Goals as goal

pub from_entries-requires-clause-small : goal.from_entries-requires-clause-small
from_entries-requires-clause-small c = small-set c.entries-entries.result c.depth-depth.result c.args.entry (omega arith) c.entries-entries.ensures.small
