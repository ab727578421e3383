use Rattle.bk_level.proofs.LevelOrder.{dominates_both}
use Rattle.bk_level.proofs.level.Level.dominates.Goals as goal

pub returns-clause-fact : goal.returns-clause-fact
returns-clause-fact c = dominates_both c.args.self c.args.other c.has_at_least.result c.has_at_least.ensures
