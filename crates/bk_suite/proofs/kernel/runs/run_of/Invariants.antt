use Rattle.std.proofs.Common.{◌≡◌}
use Rattle.bk_suite.specs.Subjects.{HasSubjects}
use Rattle.bk_suite.proofs.kernel.runs.run_of.Given as goal

abbrev pub invariant-loop-records : goal.invariant-loop-records
invariant-loop-records g l = HasSubjects l.run.kernel.progress.state l.run.subjects × (l.run.kernel.progress.since ≡ 0)
