use Rattle.std.proofs.Common.{◌≡◌, ◌++◌, drop}
use Rattle.bk_image.specs.Spelling.{words_bytes}
use Rattle.bk_image.proofs.put.put_words.Given as goal

abbrev pub invariant-loop-n : goal.invariant-loop-n
invariant-loop-n l = l.out.items ++ words_bytes (drop l.n-index l.words) ≡ l.fn.out.items ++ words_bytes l.words
