use Rattle.bk_suite.proofs.Subjects.{turn_kept}
use Rattle.bk_suite.proofs.kernel.runs.Run.turn.Goals as goal

pub returns : goal.returns
returns c = turn_kept c.args.self.now.kernel.progress c.turn.new.self.progress c.args.self.now.subjects 0 c.turn.ensures.after c.requires
