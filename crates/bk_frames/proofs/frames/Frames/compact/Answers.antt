use Rattle.std.proofs.Common.{arith, refl}
use Rattle.std.specs.Vec.{vec_capacity}
use Rattle.bk_frames.proofs.Entries.{distinct-compacted}
use Rattle.bk_frames.proofs.Packed.{packed-compacted}
use Rattle.bk_frames.proofs.Compacted.{compacting, now_stacked, now_within}
use Rattle.bk_frames.proofs.frames.Frames.compact.Goals as goal

pub settle_all-self-inside-requires-clause-stacked : goal.settle_all-self-inside-requires-clause-stacked
settle_all-self-inside-requires-clause-stacked c = rw c.close_gaps-self-inside.ensures.segments (now_stacked _ _ _ _ _ _ _ _ c.self.invariant _ c.list_segments.ensures.listed _ refl)

pub settle_all-self-inside-requires-clause-packed : goal.settle_all-self-inside-requires-clause-packed
settle_all-self-inside-requires-clause-packed c = rw c.close_gaps-self-inside.ensures.segments (packed-compacted c.self.inside.first c.list_segments.new.segments.items)

pub settle_all-self-inside-requires-clause-distinct : goal.settle_all-self-inside-requires-clause-distinct
settle_all-self-inside-requires-clause-distinct c = rw c.close_gaps-self-inside.ensures.segments (distinct-compacted c.self.inside.first c.list_segments.new.segments.items c.list_segments.ensures.listed.distinct)

pub settle_all-self-inside-requires-clause-slots : goal.settle_all-self-inside-requires-clause-slots
settle_all-self-inside-requires-clause-slots c = rw c.close_gaps-self-inside.ensures.segments (now_within _ _ _ _ _ _ _ _ c.self.invariant _ c.list_segments.ensures.listed)

pub invariant_of-self : goal.invariant_of-self
invariant_of-self c = (compacting _ _ _ _ _ _ _ _ c.self.invariant _ c.list_segments.ensures.listed _ c.self.view_is c.args.core.now.words c.close_gaps-self-inside.new.core.words c.args.core.now.full c.close_gaps-self-inside.new.segments.items c.close_gaps-self-inside.ensures.segments c.close_gaps-self-inside.ensures.words
    c.settle_all-self-inside.new.places.items c.settle_all-self-inside.new.owners.items c.settle_all-self-inside.result (vec_capacity c.close_gaps-self-inside.new.segments) c.settle_all-self-inside.ensures.table c.settle_all-self-inside.ensures.same c.settle_all-self-inside.ensures.full
    c.settle_all-self-inside.ensures.places c.settle_all-self-inside.ensures.owners c.settle_all-self-inside.ensures.end (omega (arith, c.list_segments.ensures.capacity, c.close_gaps-self-inside.ensures.capacity))).frames

pub returns-clause-extents : goal.returns-clause-extents
returns-clause-extents c = (compacting _ _ _ _ _ _ _ _ c.self.invariant _ c.list_segments.ensures.listed _ c.self.view_is c.args.core.now.words c.close_gaps-self-inside.new.core.words c.args.core.now.full c.close_gaps-self-inside.new.segments.items c.close_gaps-self-inside.ensures.segments c.close_gaps-self-inside.ensures.words
    c.settle_all-self-inside.new.places.items c.settle_all-self-inside.new.owners.items c.settle_all-self-inside.result (vec_capacity c.close_gaps-self-inside.new.segments) c.settle_all-self-inside.ensures.table c.settle_all-self-inside.ensures.same c.settle_all-self-inside.ensures.full
    c.settle_all-self-inside.ensures.places c.settle_all-self-inside.ensures.owners c.settle_all-self-inside.ensures.end (omega (arith, c.list_segments.ensures.capacity, c.close_gaps-self-inside.ensures.capacity))).extents

pub returns-clause-segments : goal.returns-clause-segments
returns-clause-segments c = (compacting _ _ _ _ _ _ _ _ c.self.invariant _ c.list_segments.ensures.listed _ c.self.view_is c.args.core.now.words c.close_gaps-self-inside.new.core.words c.args.core.now.full c.close_gaps-self-inside.new.segments.items c.close_gaps-self-inside.ensures.segments c.close_gaps-self-inside.ensures.words
    c.settle_all-self-inside.new.places.items c.settle_all-self-inside.new.owners.items c.settle_all-self-inside.result (vec_capacity c.close_gaps-self-inside.new.segments) c.settle_all-self-inside.ensures.table c.settle_all-self-inside.ensures.same c.settle_all-self-inside.ensures.full
    c.settle_all-self-inside.ensures.places c.settle_all-self-inside.ensures.owners c.settle_all-self-inside.ensures.end (omega (arith, c.list_segments.ensures.capacity, c.close_gaps-self-inside.ensures.capacity))).segments

pub returns-clause-sizes : goal.returns-clause-sizes
returns-clause-sizes c = (compacting _ _ _ _ _ _ _ _ c.self.invariant _ c.list_segments.ensures.listed _ c.self.view_is c.args.core.now.words c.close_gaps-self-inside.new.core.words c.args.core.now.full c.close_gaps-self-inside.new.segments.items c.close_gaps-self-inside.ensures.segments c.close_gaps-self-inside.ensures.words
    c.settle_all-self-inside.new.places.items c.settle_all-self-inside.new.owners.items c.settle_all-self-inside.result (vec_capacity c.close_gaps-self-inside.new.segments) c.settle_all-self-inside.ensures.table c.settle_all-self-inside.ensures.same c.settle_all-self-inside.ensures.full
    c.settle_all-self-inside.ensures.places c.settle_all-self-inside.ensures.owners c.settle_all-self-inside.ensures.end (omega (arith, c.list_segments.ensures.capacity, c.close_gaps-self-inside.ensures.capacity))).sizes

pub returns-clause-dense : goal.returns-clause-dense
returns-clause-dense c = (compacting _ _ _ _ _ _ _ _ c.self.invariant _ c.list_segments.ensures.listed _ c.self.view_is c.args.core.now.words c.close_gaps-self-inside.new.core.words c.args.core.now.full c.close_gaps-self-inside.new.segments.items c.close_gaps-self-inside.ensures.segments c.close_gaps-self-inside.ensures.words
    c.settle_all-self-inside.new.places.items c.settle_all-self-inside.new.owners.items c.settle_all-self-inside.result (vec_capacity c.close_gaps-self-inside.new.segments) c.settle_all-self-inside.ensures.table c.settle_all-self-inside.ensures.same c.settle_all-self-inside.ensures.full
    c.settle_all-self-inside.ensures.places c.settle_all-self-inside.ensures.owners c.settle_all-self-inside.ensures.end (omega (arith, c.list_segments.ensures.capacity, c.close_gaps-self-inside.ensures.capacity))).dense

pub returns-clause-outside : goal.returns-clause-outside
returns-clause-outside c = (compacting _ _ _ _ _ _ _ _ c.self.invariant _ c.list_segments.ensures.listed _ c.self.view_is c.args.core.now.words c.close_gaps-self-inside.new.core.words c.args.core.now.full c.close_gaps-self-inside.new.segments.items c.close_gaps-self-inside.ensures.segments c.close_gaps-self-inside.ensures.words
    c.settle_all-self-inside.new.places.items c.settle_all-self-inside.new.owners.items c.settle_all-self-inside.result (vec_capacity c.close_gaps-self-inside.new.segments) c.settle_all-self-inside.ensures.table c.settle_all-self-inside.ensures.same c.settle_all-self-inside.ensures.full
    c.settle_all-self-inside.ensures.places c.settle_all-self-inside.ensures.owners c.settle_all-self-inside.ensures.end (omega (arith, c.list_segments.ensures.capacity, c.close_gaps-self-inside.ensures.capacity))).outside

pub returns-clause-apart : goal.returns-clause-apart
returns-clause-apart c = (compacting _ _ _ _ _ _ _ _ c.self.invariant _ c.list_segments.ensures.listed _ c.self.view_is c.args.core.now.words c.close_gaps-self-inside.new.core.words c.args.core.now.full c.close_gaps-self-inside.new.segments.items c.close_gaps-self-inside.ensures.segments c.close_gaps-self-inside.ensures.words
    c.settle_all-self-inside.new.places.items c.settle_all-self-inside.new.owners.items c.settle_all-self-inside.result (vec_capacity c.close_gaps-self-inside.new.segments) c.settle_all-self-inside.ensures.table c.settle_all-self-inside.ensures.same c.settle_all-self-inside.ensures.full
    c.settle_all-self-inside.ensures.places c.settle_all-self-inside.ensures.owners c.settle_all-self-inside.ensures.end (omega (arith, c.list_segments.ensures.capacity, c.close_gaps-self-inside.ensures.capacity))).apart
