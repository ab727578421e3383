use Rattle.std.proofs.Common.{◌∙◌}
use Rattle.bk_report.proofs.Found.{read_found, read_again, read_none}
use Rattle.bk_report.proofs.reading.read_item.Goals as goal

pub returns-clause-found : goal.returns-clause-found
returns-clause-found c = rw c.read_checked.ensures.exact (read_found c.args.bytes.now)

pub returns-clause-only : goal.returns-clause-only
returns-clause-only c = λ item rest h e. c.read_checked.ensures.exact ∙ read_again c.args.bytes.now item rest h e

pub returns-clause-none : goal.returns-clause-none
returns-clause-none c = read_none c.read_checked.result c.args.bytes.now c.read_checked.ensures.exact
