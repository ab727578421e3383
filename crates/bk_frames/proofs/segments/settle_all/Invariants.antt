use Rattle.std.proofs.Common.{◌≡◌, ◌+◌, length, drop}
use Rattle.bk_frames.specs.Segments.{total}
use Rattle.bk_frames.specs.Ordered.{IsSettled}
use Rattle.bk_frames.proofs.segments.settle_all.Given as goal

-- the segments so far stand in the tables
abbrev pub invariant-loop-segment : goal.invariant-loop-segment
invariant-loop-segment l = record {
  settled : IsSettled l.first l.taken l.places.items l.owners.items l.segments.items (drop l.segment-index l.segments.items);
  places : length l.places.items ≡ length l.fn.places.items;
  owners : length l.owners.items ≡ length l.fn.owners.items;
  end : l.taken + total (drop l.segment-index l.segments.items) ≡ total l.segments.items;
}
