use Rattle.std.proofs.Common.{ap}
use Rattle.bk_asm_text.specs.Flat.{all_said, plain_statements}
use Rattle.bk_asm_text.proofs.statements.Statements.new.Goals as goal

pub returns-clause-none : goal.returns-clause-none
unfolding plain_statements
returns-clause-none c = ap (λ heads. all_said heads c.new-2.result.items c.new-3.result.items) c.new.ensures.items
