use Rattle.std.proofs.Common.{◌∙◌, ap}
use Rattle.bk_level.specs.Levels.{has_only_below}
use Rattle.bk_level.proofs.MaskLemmas.{only_first-then, only_first-else}
use Rattle.bk_level.proofs.level.Level.has_only_first_word.Goals as goal

pub returns-then-self-eq0 : goal.returns-then-self-eq0
returns-then-self-eq0 c = only_first-then c.self.inside c.self.invariant c.if-self-eq0.true ∙ ap (has_only_below 16) c.self.view_is

pub returns-else-self-eq0 : goal.returns-else-self-eq0
returns-else-self-eq0 c = only_first-else c.self.inside c.self.invariant c.if-self-eq0.false ∙ ap (has_only_below 16) c.self.view_is
