use Rattle.std.proofs.Common.{◌≡◌, ℕ, ◌+◌, ◌<◌, ◌≤◌, Some, None}
use Rattle.std.specs.Prelude.{slice_get}
use Rattle.bk_frames.specs.Table.{IsHole}
use Rattle.bk_frames.proofs.table.lowest_hole.Given as goal

-- the last blocks so far are free, fewer than are wanted, and no run that is long enough begins below them
abbrev pub invariant-loop-block : goal.invariant-loop-block
invariant-loop-block l = record {
  short : l.run < l.blocks;
  low : l.run ≤ l.block;
  free : (b : ℕ) → l.block ≤ b + l.run → b < l.block → slice_get l.owners.items b ≡ Some None;
  none : (k : ℕ) → IsHole l.owners.items k l.blocks → l.block ≤ k + l.run;
}
