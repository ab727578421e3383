use Rattle.std.proofs.Common.{◌≤◌, ◌^◌, arith}
use Rattle.std.proofs.Math.Nat.{pow-le-pow_right}
use Rattle.bk_script.proofs.field.number.Goals as goal

pub overflow_mul-n : goal.overflow_mul-n
overflow_mul-n c =
    let i : c.loop-digit.digit-index ≤ 8 = omega (arith, c.loop-digit-test.true, c.loop-digit.invariant.short) in
    let p : 10 ^ c.loop-digit.digit-index ≤ 10 ^ 8 = pow-le-pow_right (omega arith) i in
    omega (arith, c.loop-digit.invariant.fits, p)

pub overflow_add-n : goal.overflow_add-n
overflow_add-n c =
    let i : c.loop-digit.digit-index ≤ 8 = omega (arith, c.loop-digit-test.true, c.loop-digit.invariant.short) in
    let p : 10 ^ c.loop-digit.digit-index ≤ 10 ^ 8 = pow-le-pow_right (omega arith) i in
    omega (arith, c.loop-digit.invariant.fits, p, c.from.ensures, c.type_inv.text c.loop-digit.digit-index)
