use Rattle.std.proofs.Common.{◌∙◌}
use Rattle.bk_asm.proofs.Tables.{find_seen}
use Rattle.bk_asm.proofs.table.Table.name.Goals as goal

pub returns : goal.returns
returns c = c.copied.ensures ∙ c.get.ensures.value ∙ find_seen c.args.name.now c.args.self.now.names.entries
