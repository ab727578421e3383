use Rattle.std.proofs.Common.{◌≡◌, [], map}
use Rattle.std.specs.Prelude.{replicate}
use Rattle.bk_store.specs.Joined.{bytes_of}
use Rattle.bk_store.proofs.queues.empty_inputs.Given as goal

abbrev pub invariant-loop-done : goal.invariant-loop-done
invariant-loop-done l = map bytes_of l.inputs.items ≡ replicate l.done []
