use Rattle.std.proofs.Common.{◌≡◌}
use Rattle.bk_case.proofs.stepped.bus_of.Given as goal

-- no reference was made
abbrev pub invariant-loop-shape : goal.invariant-loop-shape
invariant-loop-shape l = l.bus.references ≡ 0
