use Rattle.std.proofs.Common.{◌≡◌, ◌++◌}
use Rattle.std.specs.Prelude.{map}
use Rattle.bk_conf.specs.Ordered.{hold_in}
use Rattle.bk_conf.proofs.ordered.holds_in.Given as goal

abbrev pub invariant-loop-key : goal.invariant-loop-key
invariant-loop-key l = l.holds.items ++ map hold_in l.key-iterator ≡ map hold_in l.said.holds.entries
