use Rattle.std.proofs.Common.{◌≡◌, replicate}
use lib.Seq.{paste}
use Rattle.bk_core.proofs.memory.zero_words.Given as goal

-- so many words are zero
abbrev pub invariant-loop-i : goal.invariant-loop-i
invariant-loop-i l = l.words ≡ paste l.fn.words l.first (replicate l.i 0) l.i
