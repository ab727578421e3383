use Rattle.std.proofs.Common.{◌≡◌, None}
use Rattle.bk_case.proofs.machined.machine_of.Given as goal

-- no reference was made, and the machine is outside kernel mode
abbrev pub invariant-loop-shape : goal.invariant-loop-shape
invariant-loop-shape l = (l.machine.references ≡ 0) × (l.machine.kernel ≡ None)
