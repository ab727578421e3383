use Rattle.std.proofs.Common.{◌-◌, ◌≤◌}
use Rattle.bk_store.proofs.Rises.{Passed}
use Rattle.bk_store.proofs.store.Store.may_rise.Given as goal

-- what is held of the objects at the slots so far may be held at the level
abbrev pub invariant-loop-slot : goal.invariant-loop-slot
invariant-loop-slot l = record {
  passed : Passed l.self-inside.levels l.self-inside.tree l.self-inside.access l.subject l.current l.from;
  within : l.from ≤ l.slots;
}

abbrev pub decreases-loop-slot : goal.decreases-loop-slot
decreases-loop-slot l = l.slots - l.from
