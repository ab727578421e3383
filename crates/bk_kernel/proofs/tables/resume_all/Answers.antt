use Rattle.bk_system.specs.Event.{with_resumed}
use Rattle.bk_kernel.proofs.InPlace.{mapped_next}
use Rattle.bk_kernel.proofs.tables.resume_all.Goals as goal

pub loop-process-preserved : goal.loop-process-preserved
loop-process-preserved c =
    mapped_next with_resumed c.args.processes.now c.loop-process.processes c.loop-process.process-index _ _
    c.loop-process.invariant c.loop-process-test.true c.resume.ensures
