use Rattle.std.proofs.Common.{◌≡◌, ◌++◌, ◌+◌, ◌*◌, take}
use Rattle.std.specs.Prelude.{codes}
use Rattle.arrayvec.specs.ArrayVec.{array_vec_len}
use Rattle.bk_report.specs.Text.{octal6, words_of}
use Rattle.bk_asm.proofs.lines.push_words.Given as goal

abbrev pub invariant-loop-word : goal.invariant-loop-word
invariant-loop-word l = record {
  text : l.line.items ≡ octal6 l.address ++ codes ":" ++ words_of (take l.word-index l.words);
  long : array_vec_len l.line ≡ 7 + 7 * l.word-index;
}
