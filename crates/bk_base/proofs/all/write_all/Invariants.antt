use Rattle.std.proofs.Common.{◌≡◌, length, ◌-◌, ◌≤◌, take}
use Rattle.bk_base.specs.Written.{Took}
use Rattle.bk_base.proofs.all.write_all.Given as goal

abbrev pub invariant-loop-at : goal.invariant-loop-at
invariant-loop-at g l = record {
  within : l.at ≤ length l.bytes;
  taken : Took (g.O.Sink.taken l.fn.sink) (g.O.Sink.taken l.sink) (g.O.Sink.faults l.fn.sink) (g.O.Sink.faults l.sink) (take l.at l.bytes);
  untouched : l.at ≡ 0 → l.sink ≡ l.fn.sink;
}

abbrev pub decreases-loop-at : goal.decreases-loop-at
decreases-loop-at g l = length l.bytes - l.at
