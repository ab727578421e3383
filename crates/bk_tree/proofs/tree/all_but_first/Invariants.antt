use Rattle.std.proofs.Common.{◌≡◌, ◌-◌, ◌≤◌, ◌++◌}
use Rattle.std.specs.Vec.{vec_capacity}
use Rattle.bk_tree.specs.Down.{down_to_1}
use Rattle.bk_tree.proofs.tree.all_but_first.Given as goal

-- what is there and what is still to come are the whole
abbrev pub invariant-loop-n : goal.invariant-loop-n
invariant-loop-n l = record {
  items : l.free.items ++ down_to_1 (l.slots - l.n) ≡ down_to_1 (l.slots - 1);
  capacity : l.slots ≤ vec_capacity l.free;
}
