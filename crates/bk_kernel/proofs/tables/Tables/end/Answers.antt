use Rattle.std.proofs.Common.{◌∙◌, sym, ap}
use Rattle.bk_space.specs.Counts.{counted_on}
use Rattle.bk_system.specs.Turn.{ended}
use Rattle.bk_kernel.proofs.Going.{counted_none}
use Rattle.bk_kernel.proofs.Placed.{with_process-same}
use Rattle.bk_kernel.proofs.tables.Tables.end.Goals as goal

pub returns-in-Ran-clause-state : goal.returns-in-Ran-clause-state
returns-in-Ran-clause-state c = λ p there. sym (with_process-same c.args.self.now.state c.args.at.subject p there) ∙ ap (λ e. (ended c.args.self.now.state c.args.at p 0 e).state) (sym c.in-Ran.is)

pub returns-in-Ran-clause-references : goal.returns-in-Ran-clause-references
returns-in-Ran-clause-references c = λ p there.
    sym (counted_none c.args.self.now.machine.references)
    ∙ ap (λ e. counted_on c.args.self.now.machine.references (ended c.args.self.now.state c.args.at p 0 e).references) (sym c.in-Ran.is)

pub returns-in-Call-clause-references : goal.returns-in-Call-clause-references
returns-in-Call-clause-references c = λ p there.
    c.settle.ensures.nothing.references
    ∙ sym (counted_none c.args.self.now.machine.references)
    ∙ ap (λ e. counted_on c.args.self.now.machine.references (ended c.args.self.now.state c.args.at p 0 e).references) (sym c.in-Call.is)
