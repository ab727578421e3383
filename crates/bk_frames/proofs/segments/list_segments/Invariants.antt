use Rattle.std.proofs.Common.{◌+◌, ◌-◌, ◌≤◌, length}
use Rattle.std.specs.Vec.{vec_capacity}
use Rattle.bk_frames.specs.Ordered.{IsListed}
use Rattle.bk_frames.proofs.segments.list_segments.Given as goal

-- the segments that begin below the block are listed
abbrev pub invariant-loop-block : goal.invariant-loop-block
invariant-loop-block l = record {
  listed : IsListed l.first (l.first + l.block) l.places.items l.segments.items;
  within : l.block ≤ length l.owners.items;
  capacity : vec_capacity l.fn.segments ≤ vec_capacity l.segments;
}

abbrev pub decreases-loop-block : goal.decreases-loop-block
decreases-loop-block l = length l.owners.items - l.block
