use Rattle.std.proofs.Common.{◌≡◌, ◌⊎◌, ℕ, ◌<◌, ◌≤◌, Some, length}
use Rattle.std.specs.Prelude.{slice_get}
use Rattle.bk_frames.proofs.table.mark.Given as goal

-- the blocks below have the owner, and all others the one that they had
abbrev pub invariant-loop-block : goal.invariant-loop-block
invariant-loop-block l = record {
  same_length : length l.owners.items ≡ length l.fn.owners.items;
  inside : (b : ℕ) → l.first ≤ b → b < l.block → slice_get l.owners.items b ≡ Some l.owner;
  outside : (b : ℕ) → (b < l.first) ⊎ (l.block ≤ b) → slice_get l.owners.items b ≡ slice_get l.fn.owners.items b;
}
