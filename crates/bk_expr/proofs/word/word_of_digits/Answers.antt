use Rattle.std.proofs.Common.{◌<◌, ◌+◌, ◌-◌, ◌*◌, get_or}
use Rattle.bk_expr.proofs.Runs.{too_large}
use Rattle.bk_expr.proofs.word.word_of_digits.Goals as goal

pub returns-then-value-gt65535 : goal.returns-then-value-gt65535
returns-then-value-gt65535 c =
    let large : 65535 < c.args.base * c.loop-digit.value + (get_or c.args.digits.now c.loop-digit.digit-index 0 - 48)
    = rw (← c.from.ensures, ← c.saturating_sub.ensures, ← c.from-in-loop-digit.ensures) c.if-value-gt65535.true in
    too_large c.args.base c.loop-digit.value c.loop-digit.digit-index c.args.digits.now c.requires c.loop-digit-test.true c.loop-digit.invariant.same large
