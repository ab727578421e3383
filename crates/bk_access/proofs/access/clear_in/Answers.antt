use Rattle.std.proofs.Common.{slice_set, ap}
use Rattle.bk_access.proofs.access.clear_in.Goals as goal

pub returns-clause-value : goal.returns-clause-value
returns-clause-value c = ap (λ row. slice_set c.args.rows.now.items c.args.slot.n row) c.new.ensures
