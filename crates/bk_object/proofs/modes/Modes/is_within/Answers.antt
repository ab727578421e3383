use Rattle.std.proofs.Common.{◌∙◌, ◌==◌, ap}
use Rattle.bk_object.proofs.ModeLemmas.{without-is_within}
use Rattle.bk_object.proofs.modes.Modes.is_within.Goals as goal

pub returns : goal.returns
returns c = ap (λ n. n == 0) (c.bits.ensures tt ∙ ap (λ set. set.0) c.difference_of.ensures.value) ∙ without-is_within c.args.self c.args.of
