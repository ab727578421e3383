use Rattle.std.proofs.Common.{◌≡◌, ◌+◌, ◌<◌, ◌++◌, length, ◌∙◌, drop, take, slice_index_or, slice_set, subst, sym, ap, arith}
use Rattle.bk_frames.specs.Segments.{IsStacked, compacted, total, words_after, moved_to}
use Rattle.bk_frames.proofs.Stacked.{nothing, at_here, below_limit, step-stacked, step-segments, step-words, step-end}
use Rattle.bk_frames.proofs.segments.compact_all.Goals as goal

pub moved-requires-clause-down : goal.moved-requires-clause-down
moved-requires-clause-down c =
    let now = at_here c.loop-i.segments c.loop-i.i c.loop-i.at (omega arith) c.args.limit c.loop-i.invariant.stacked in
    omega (arith, now.0)

pub moved-requires-clause-inside : goal.moved-requires-clause-inside
moved-requires-clause-inside c =
    let now = at_here c.loop-i.segments c.loop-i.i c.loop-i.at (omega arith) c.args.limit c.loop-i.invariant.stacked in
    omega (arith, c.requires.inside, below_limit _ _ _ now.2)

pub overflow_add-at : goal.overflow_add-at
overflow_add-at c =
    let now = at_here c.loop-i.segments c.loop-i.i c.loop-i.at (omega arith) c.args.limit c.loop-i.invariant.stacked in
    omega (arith, c.requires.inside, now.0, below_limit _ _ _ now.2)

pub loop-i-preserved : goal.loop-i-preserved
loop-i-preserved c =
    let segs = c.loop-i.segments in
    let i = c.loop-i.i in
    let at = c.loop-i.at in
    let inside : i < length segs = omega arith in
    let here = slice_index_or segs i nothing in
    let is = sym c.moved.ensures.segment in
    record {
      stacked = subst (λ s. IsStacked (at + here.blocks) c.args.limit (drop (i + 1) (slice_set segs i s))) is (step-stacked segs i at inside c.args.limit c.loop-i.invariant.stacked);
      segments = subst (λ s. take (i + 1) (slice_set segs i s) ++ compacted (at + here.blocks) (drop (i + 1) (slice_set segs i s)) ≡ compacted c.args.first c.args.segments.now) is (step-segments segs i at inside _ c.loop-i.invariant.segments);
      words = subst (λ s. words_after (at + here.blocks) (drop (i + 1) (slice_set segs i s)) c.moved.new.core.words ≡ words_after c.args.first c.args.segments.now c.args.core.now.words) is
          (ap (words_after (at + here.blocks) (drop (i + 1) (slice_set segs i (moved_to at here)))) c.moved.ensures.words ∙ step-words segs i at inside c.loop-i.core.words _ c.loop-i.invariant.words);
      end = subst (λ s. at + here.blocks + total (drop (i + 1) (slice_set segs i s)) ≡ c.args.first + total c.args.segments.now) is (step-end segs i at inside _ c.loop-i.invariant.end);
    }
