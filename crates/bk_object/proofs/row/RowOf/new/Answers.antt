use Rattle.std.proofs.Common.{◌*◌, arith}
use Rattle.bk_object.proofs.RowLemmas.{split_pairs-zeros}
use Rattle.bk_object.proofs.row.RowOf.new.Goals as goal

pub returns : goal.returns
returns g c = split_pairs-zeros g.row.N (2 * g.row.N) (omega arith)
