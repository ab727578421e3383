use Rattle.std.proofs.Common.{◌<◌, ◌≤◌, arith, append_assoc}
use Rattle.std.proofs.lemmas.Fmt.{decimal_digit}
use Rattle.itoa.proofs.Decimal.{decimal_two}
use Rattle.bk_report.proofs.printing.put_number.Goals as goal

pub returns-then-n-lt10-clause-items : goal.returns-then-n-lt10-clause-items
returns-then-n-lt10-clause-items c =
    let h : c.args.n < 10 = omega arith in
    rw (decimal_digit c.args.n h, append_assoc) c.put.ensures.items

pub returns-then-n-lt100-clause-items : goal.returns-then-n-lt100-clause-items
returns-then-n-lt100-clause-items c =
    let low : 10 ≤ c.args.n = omega arith in
    let high : c.args.n < 100 = omega arith in
    rw (decimal_two c.args.n low high, append_assoc) c.put-then-n-lt100.ensures.items
