use Rattle.bk_suite.specs.Subjects.{HasSubjects}
use Rattle.bk_suite.proofs.kernel.lines.is_paused_until_its_slot_ends.Given as goal

abbrev pub invariant-turns : goal.invariant-turns
invariant-turns g l = HasSubjects l.run.kernel.progress.state l.run.subjects
