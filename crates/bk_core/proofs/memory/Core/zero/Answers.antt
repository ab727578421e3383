use Rattle.std.proofs.Common.{arith}
use Rattle.std.proofs.lemmas.Grind.{common_steps}
use Rattle.bk_core.proofs.Blocks.{zeroing}
use Rattle.bk_core.proofs.memory.Core.zero.Goals as goal

pub returns-clause-zero : goal.returns-clause-zero
returns-clause-zero c = (zeroing c.args.self.now.words _ c.args.first c.args.count c.args.self.now.full c.requires.inside (grind (arith, common_steps))).zero

pub returns-clause-others : goal.returns-clause-others
returns-clause-others c = (zeroing c.args.self.now.words _ c.args.first c.args.count c.args.self.now.full c.requires.inside (grind (arith, common_steps))).others
