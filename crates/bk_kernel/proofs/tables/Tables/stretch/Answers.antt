use Rattle.std.proofs.Common.{sym, ◌∙◌}
use Rattle.bk_kernel.proofs.Stretched.{stretch-idle}
use Rattle.bk_kernel.proofs.tables.Tables.stretch.Goals as goal

pub returns-else-runs-clause-made : goal.returns-else-runs-clause-made
returns-else-runs-clause-made c = stretch-idle c.args.self.now c.args.at c.args.most c.requires.some (sym c.runs.ensures ∙ c.if-runs.false)
