use Rattle.std.proofs.Common.{◌≡◌, ◌*◌, ◌++◌, drop, length}
use Rattle.bk_image.specs.Numbers.{words_of}
use Rattle.bk_image.proofs.object.words_of.Given as goal

abbrev pub invariant-loop-i : goal.invariant-loop-i
invariant-loop-i l = record { words : l.words.items ++ words_of (drop (2 * l.i) l.bytes) ≡ words_of l.bytes; len : length l.words.items ≡ l.i }
