use Rattle.bk_asm.specs.Seen.{given_by}
use Rattle.bk_asm.proofs.putting.Coding.put_body.Goals as goal

pub returns-in-Rts : goal.returns-in-Rts
returns-in-Rts c = rw (c.in-Rts.is, ← c.from-in-Rts.ensures) (c.put_fixed.ensures (given_by c.args.site.now.scope) c.args.site.now.here)

pub returns-in-Alone : goal.returns-in-Alone
returns-in-Alone c = rw c.in-Alone.is (c.put_fixed-in-Alone.ensures (given_by c.args.site.now.scope) c.args.site.now.here)

pub returns-in-Number-default-false : goal.returns-in-Number-default-false
returns-in-Number-default-false c =
    rw (c.in-Number-default-false.is, ← c.in-Number-default-false.given-is, ← c.in-Number-default-false.base-is, c.in-Number-default-false.given-test) (c.put_fixed-in-Number-default-false.ensures (given_by c.args.site.now.scope) c.args.site.now.here)
