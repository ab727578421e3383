use Rattle.std.proofs.Common.{◌≡◌, ◌++◌, map, take, drop}
use Rattle.bk_system.specs.Event.{with_resumed}
use Rattle.bk_kernel.proofs.tables.resume_all.Given as goal

abbrev pub invariant-loop-process : goal.invariant-loop-process
invariant-loop-process l = l.processes ≡ map with_resumed (take l.process-index l.fn.processes) ++ drop l.process-index l.fn.processes
