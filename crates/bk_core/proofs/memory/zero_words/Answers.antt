use Rattle.std.proofs.Common.{◌+◌, ◌∙◌, ap, slice_set, arith}
use Rattle.std.proofs.lemmas.List.Edits.{fill_from_more}
use Rattle.bk_core.proofs.memory.zero_words.Goals as goal

pub loop-i-preserved : goal.loop-i-preserved
loop-i-preserved c = ap (λ ws. slice_set ws (c.args.first + c.loop-i.i) 0) c.loop-i.invariant ∙ fill_from_more c.args.words.now c.args.first c.loop-i.i 0 (omega arith)
