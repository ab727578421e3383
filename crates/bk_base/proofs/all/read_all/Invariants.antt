use Rattle.std.proofs.Common.{◌≡◌, ◌+◌, ◌++◌, vec_len}
use Rattle.std.specs.Io.KnownBytes.{Consumes}
use Rattle.bk_base.proofs.all.read_all.Given as goal

abbrev pub invariant-loop-room : goal.invariant-loop-room
invariant-loop-room g l = record {
  count : vec_len l.all + l.room ≡ l.max;
  bytes : Consumes (g.I.Source.state l.fn.src).left (g.I.Source.state l.src).left l.all.items;
  given : (g.I.Source.state l.src).given ≡ (g.I.Source.state l.fn.src).given ++ l.all.items;
  told : (g.I.Source.state l.src).faults ≡ (g.I.Source.state l.fn.src).faults;
}

abbrev pub decreases-loop-room : goal.decreases-loop-room
decreases-loop-room g l = l.room
