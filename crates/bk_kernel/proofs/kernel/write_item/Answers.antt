use Rattle.bk_base.proofs.Written.{took_nil}
use Rattle.bk_kernel.proofs.Lines.{lines_none, lines_one}
use Rattle.bk_kernel.proofs.kernel.write_item.Goals as goal

pub returns-in-None-clause-written : goal.returns-in-None-clause-written
returns-in-None-clause-written g c = rw (c.in-None.is, lines_none) (took_nil _ _)

pub returns-in-Some-clause-written : goal.returns-in-Some-clause-written
returns-in-Some-clause-written g c = rw (c.in-Some.is, lines_one c.in-Some.item) c.write_line.ensures.written

pub returns-in-Some-clause-failed : goal.returns-in-Some-clause-failed
returns-in-Some-clause-failed g c = rw (c.in-Some.is, lines_one c.in-Some.item) c.write_line.ensures.failed
