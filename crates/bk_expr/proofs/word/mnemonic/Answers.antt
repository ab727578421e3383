use Rattle.bk_expr.proofs.Runs.{mnemonic_of_less, mnemonic_of_more}
use Rattle.bk_expr.proofs.word.mnemonic.Goals as goal

pub returns-in_default : goal.returns-in_default
returns-in_default c = mnemonic_of_less c.args.run.now c.in_default.len_below

pub returns-in_default-2 : goal.returns-in_default-2
returns-in_default-2 c = mnemonic_of_more c.args.run.now c.in_default.len_at_least
