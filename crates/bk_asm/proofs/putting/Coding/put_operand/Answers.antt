use Rattle.bk_asm.specs.Seen.{given_by}
use Rattle.bk_asm.proofs.putting.Coding.put_operand.Goals as goal

pub returns-in-IndexZero : goal.returns-in-IndexZero
returns-in-IndexZero c = rw c.in-IndexZero.is (c.put_fixed.ensures (given_by c.args.site.now.scope) c.args.site.now.here)
