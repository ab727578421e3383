use Rattle.std.proofs.Common.{◌≡◌, ◌+◌, ◌++◌, take, drop}
use Rattle.bk_frames.specs.Segments.{IsStacked, compacted, total, words_after}
use Rattle.bk_frames.proofs.segments.compact_all.Given as goal

-- what is left to do gives the whole
abbrev pub invariant-loop-i : goal.invariant-loop-i
invariant-loop-i l = record {
  stacked : IsStacked l.at l.limit (drop l.i l.segments);
  segments : take l.i l.segments ++ compacted l.at (drop l.i l.segments) ≡ compacted l.first l.fn.segments;
  words : words_after l.at (drop l.i l.segments) l.core.words ≡ words_after l.first l.fn.segments l.fn.core.words;
  end : l.at + total (drop l.i l.segments) ≡ l.first + total l.fn.segments;
}
