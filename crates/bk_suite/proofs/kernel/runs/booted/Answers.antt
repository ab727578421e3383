use Rattle.std.proofs.Common.{refl}
use Rattle.bk_suite.proofs.Subjects.{begun_kept}
use Rattle.bk_suite.proofs.kernel.runs.booted.Goals as goal

pub returns-in-Ok-clause-subjects : goal.returns-in-Ok-clause-subjects
returns-in-Ok-clause-subjects g c =
    begun_kept c.in_ok-image-2.image c.in-Ok.kernel.progress c.as_slice-subjects.result.now _ c.in-Ok.ensures.begun c.in_ok-image-2.ensures.secure c.as_slice-subjects.ensures refl
