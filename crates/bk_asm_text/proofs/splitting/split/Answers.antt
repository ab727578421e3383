use Rattle.bk_asm_text.proofs.Said.{one_a_line}
use Rattle.bk_asm_text.proofs.splitting.split.Goals as goal

pub returns-clause-lines : goal.returns-clause-lines
returns-clause-lines c = one_a_line c.split_lines.result c.args.text.now c.split_lines.ensures
