use Rattle.std.proofs.Common.{◌≡◌, length}
use Rattle.bk_replay.specs.Gathered.{waiting_of}
use Rattle.bk_replay.proofs.gathered.Gathered.empty.Given as goal

abbrev pub invariant-loop-self : goal.invariant-loop-self
invariant-loop-self g l = record {
  same : l.self.out.ghost_name ≡ l.fn.self.out.ghost_name;
  faults : g.O.Sink.faults l.self.out.now ≡ g.O.Sink.faults l.fn.self.out.now;
  history : l.self.history.given ≡ l.fn.self.history.given;
  put : l.self.waiting.put ≡ l.fn.self.waiting.put;
}

abbrev pub decreases-loop-self : goal.decreases-loop-self
decreases-loop-self g l = length (waiting_of l.self.waiting)
