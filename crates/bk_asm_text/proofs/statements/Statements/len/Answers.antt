use Rattle.std.proofs.Common.{arith}
use Rattle.bk_asm_text.specs.Flat.{plain_statements}
use Rattle.bk_asm_text.proofs.Flat.{count}
use Rattle.bk_asm_text.proofs.statements.Statements.len.Goals as goal

pub returns : goal.returns
unfolding plain_statements
returns c =
    let all = c.args.self.now in
    omega (arith, c.len.ensures, all.heads.ok, count all.heads.items all.labels.items all.values.items)
