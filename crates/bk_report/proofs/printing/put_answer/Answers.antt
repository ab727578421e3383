use Rattle.std.proofs.Common.{◌<◌, arith, append_assoc}
use Rattle.std.proofs.lemmas.Fmt.{decimal_digit}
use Rattle.bk_report.proofs.printing.put_answer.Goals as goal

pub returns-in-0-clause-items : goal.returns-in-0-clause-items
returns-in-0-clause-items c =
    let h : 0 < 10 = omega arith in
    rw (c.in-0.is, c.requires.yes c.in-0.is, decimal_digit 0 h, append_assoc, append_assoc, append_assoc) c.put.ensures.items
