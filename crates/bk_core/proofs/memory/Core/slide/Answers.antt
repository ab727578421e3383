use Rattle.std.proofs.Common.{arith}
use Rattle.std.proofs.lemmas.Grind.{common_steps}
use Rattle.bk_core.proofs.Blocks.{sliding}
use Rattle.bk_core.proofs.memory.Core.slide.Goals as goal

pub returns-clause-there : goal.returns-clause-there
returns-clause-there c = (sliding c.args.self.now.words _ c.args.from c.args.to c.args.count c.args.self.now.full c.requires.down c.requires.inside (grind (arith, common_steps))).there

pub returns-clause-others : goal.returns-clause-others
returns-clause-others c = (sliding c.args.self.now.words _ c.args.from c.args.to c.args.count c.args.self.now.full c.requires.down c.requires.inside (grind (arith, common_steps))).others
