use Rattle.std.proofs.Common.{◌≡◌, ◌+◌, ◌*◌, ◌++◌, drop}
use Rattle.arrayvec.specs.ArrayVec.{array_vec_len}
use Rattle.bk_report.specs.Text.{words_of}
use Rattle.bk_report.proofs.printing.put_words.Given as goal

abbrev pub invariant-loop-word : goal.invariant-loop-word
invariant-loop-word l = record {
  items : l.out.items ++ words_of (drop l.word-index l.words) ≡ l.initial.out.items ++ words_of l.words;
  len : array_vec_len l.out ≡ array_vec_len l.initial.out + 7 * l.word-index;
}
