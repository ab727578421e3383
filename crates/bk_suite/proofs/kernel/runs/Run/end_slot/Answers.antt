use Rattle.bk_suite.proofs.Subjects.{end_kept}
use Rattle.bk_suite.proofs.kernel.runs.Run.end_slot.Goals as goal

pub returns : goal.returns
returns c = end_kept c.args.self.now.kernel.progress c.end_slot.new.self.progress c.args.self.now.subjects c.end_slot.ensures.after c.requires
