use Rattle.bk_asm.proofs.Laws.{is_assembly}
use Rattle.bk_asm.proofs.law.law_assembled.Goals as goal

pub returns : goal.returns
returns c = is_assembly
