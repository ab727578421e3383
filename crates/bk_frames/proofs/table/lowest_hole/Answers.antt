use Rattle.std.proofs.Common.{◌≡◌, ◌≢◌, ◌⊎◌, inl, inr, ℕ, ◌+◌, ◌<◌, ◌≤◌, List, Option, Some, None, slice_get, ap, ◌∙◌, arith}
use Rattle.std.proofs.lemmas.Bool.{cases_lt}
use Rattle.bk_frames.proofs.Tables.{same_or_not}
use Rattle.bk_frames.proofs.table.lowest_hole.Goals as goal
use Rattle.bk_frames.proofs.table.lowest_hole.Goals.{then-is_free+else-run-blocks, else-is_free}

-- a run of free blocks with one free block more
longer : (owners : List (Option ℕ)) (block run : ℕ) → ((b : ℕ) → block ≤ b + run → b < block → slice_get owners b ≡ Some None) → slice_get owners block ≡ Some None →
    (b : ℕ) → block + 1 ≤ b + (run + 1) → b < block + 1 → slice_get owners b ≡ Some None
longer owners block run free here b low high = by (same_or_not b block)
  where
    by : (b ≡ block) ⊎ (b ≢ block) → slice_get owners b ≡ Some None
    by (inl e) = ap (slice_get owners) e ∙ here
    by (inr n) = free b (omega (arith, low)) (omega (arith, high, n))

pub returns-then-run-blocks-clause-some : goal.returns-then-run-blocks-clause-some
returns-then-run-blocks-clause-some c =
    let here = c.is_free.ensures.free c.if-is_free.true in
    let all = longer c.args.owners.now.items c.loop-block.block c.loop-block.run c.loop-block.invariant.free here in
    let run : c.loop-block.run + 1 ≡ c.args.blocks = omega arith in (
      record { within = omega arith; free = λ b low high. all b (omega (arith, low, run)) (omega (arith, high, run)) },
      λ k hole. let none = c.loop-block.invariant.none k hole in omega (arith, none, run),
    )

pub loop-block-preserved : goal.loop-block-preserved
loop-block-preserved c = elim c.if-is_free.branch [
  | then-is_free+else-run-blocks w ↦
      let here = c.is_free.ensures.free w.if-is_free.true in
      let all = longer c.args.owners.now.items c.loop-block.block c.loop-block.run c.loop-block.invariant.free here in
      let run = w.run-is in
      let short = c.loop-block.invariant.short in
      let low = c.loop-block.invariant.low in
      let other = w.if-run-blocks.false in
      record {
        short = omega (arith, run, short, other);
        low = omega (arith, run, low);
        free = λ b above below. all b (omega (arith, above, run)) below;
        none = λ k hole. let none = c.loop-block.invariant.none k hole in omega (arith, none, run);
      }
  | else-is_free w ↦
      let taken = c.is_free.ensures.taken w.if-is_free.false in
      let run = w.run-is in
      let some = c.requires.some in
      let short = c.loop-block.invariant.short in
      record {
        short = omega (arith, run, some);
        low = omega (arith, run);
        free = λ b above below. absurd (omega (arith, above, below, run));
        none = λ k hole.
            let none = c.loop-block.invariant.none k hole in
            elim (cases_lt c.loop-block.block k) [
              | inl past ↦ omega (arith, past)
              | inr under ↦ absurd (taken (hole.free c.loop-block.block under (omega (arith, none, short))))
            ];
      }
]

pub returns-clause-none : goal.returns-clause-none
returns-clause-none c = λ k hole.
    let none = c.loop-block.invariant.none k hole in
    let within = hole.within in
    let short = c.loop-block.invariant.short in
    let end = c.loop-block-test.false in
    let from = c.loop-block.auto.block-end in
    omega (arith, none, within, short, end, from, c.requires.reach, c.len-block-end.ensures)
