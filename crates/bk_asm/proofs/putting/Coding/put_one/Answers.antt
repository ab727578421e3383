use Rattle.std.proofs.Common.{◌≡◌}
use Rattle.bk_asm.specs.Pieces.{Fixed}
use Rattle.bk_asm.specs.Seen.{given_by, written_so}
use Rattle.bk_asm.specs.Written.{written}
use Rattle.bk_asm.proofs.putting.Coding.put_one.Goals as goal

pub returns : goal.returns
returns c =
    let values = given_by c.args.site.now.scope in
    let word : written_so c.put_fixed.new.self ≡ written values c.args.site.now.here (written_so c.args.self.now) (Fixed c.args.word) = c.in_ok-put_fixed.ensures values c.args.site.now.here in
    rw word at c.put_operand.ensures
