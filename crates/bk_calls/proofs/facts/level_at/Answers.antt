use Rattle.std.proofs.Common.{ap₂, ◌∙◌}
use Rattle.std.specs.Prelude.{unwrap_or}
use Rattle.std.proofs.lemmas.Option.{unwrap_or-slice_get}
use Rattle.bk_level.specs.Levels.{lowest}
use Rattle.bk_calls.proofs.facts.level_at.Goals as goal

pub returns : goal.returns
returns c = c.unwrap_or.ensures ∙ ap₂ unwrap_or c.level.ensures c.lowest.ensures ∙ unwrap_or-slice_get c.args.store.now.levels c.args.n lowest
