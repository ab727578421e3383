use Rattle.bk_asm_text.specs.Flat.{all_said, plain_rest, plain_statements}
use Rattle.bk_asm_text.proofs.statements.Statements.all.Goals as goal

pub returns : goal.returns
unfolding plain_rest plain_statements
returns c = λ i. all_said (c.as_slice.ensures.value i) (c.as_slice-2.ensures.value i) (c.as_slice-3.ensures.value i)
