use Rattle.std.proofs.Common.{subst, sym}
use Rattle.bk_base.specs.Faults.{Refuses}
use Rattle.bk_conf.specs.Lines.{program_lines}
use Rattle.bk_conf.specs.Steps.{with_program}
use Rattle.bk_conf.specs.Views.{lines_left, said_of, with_following, HasBody}
use Rattle.bk_conf.proofs.Reached.{program_stopped}
use Rattle.bk_conf.proofs.said.Said.read_program.Goals as goal

pub returns-in-Err-clause-reached : goal.returns-in-Err-clause-reached
returns-in-Err-clause-reached c =
    let has : HasBody c.in-Some.text.now c.in-Some-body_of.body = c.in-Some-body_of.ensures.found in
    subst (λ after. Refuses c.in-Err.stop (with_following c.args.at (lines_left after)
    (with_program (said_of c.args.self.now) c.args.at c.args.name c.args.origin (program_lines (lines_left after))))) (sym c.in-Some.is)
    (program_stopped (said_of c.args.self.now) c.args.at c.args.name c.args.origin c.in-Some.text.now c.in-Some-body_of.body has c.in-Err.stop (c.in-Err.ensures has.lines has.text_is))
