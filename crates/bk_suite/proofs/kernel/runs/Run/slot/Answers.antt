use Rattle.bk_suite.proofs.Subjects.{slot_kept, slot_fresh}
use Rattle.bk_suite.proofs.kernel.runs.Run.slot.Goals as goal

pub returns-clause-subjects : goal.returns-clause-subjects
returns-clause-subjects c =
    slot_kept c.args.self.kernel.progress c.slot.new.self.progress c.args.self.subjects c.args.typed.now c.in_ok-slot.ensures.after c.requires.subjects

pub returns-clause-fresh : goal.returns-clause-fresh
returns-clause-fresh c = slot_fresh c.args.self.kernel.progress c.slot.new.self.progress c.args.typed.now c.in_ok-slot.ensures.after
