use Rattle.bk_asm_text.proofs.First.{refused_first, first_refused}
use Rattle.bk_asm_text.proofs.splitting.law_first_fault.Goals as goal

pub returns-clause-refused : goal.returns-clause-refused
returns-clause-refused c = refused_first

pub returns-clause-only : goal.returns-clause-only
returns-clause-only c = first_refused
