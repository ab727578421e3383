use Rattle.std.proofs.Common.{◌∙◌, unwrap_or}
use Rattle.std.proofs.lemmas.Option.{unwrap_or-slice_get}
use Rattle.bk_level.specs.Levels.{lowest}
use Rattle.bk_level.proofs.table.LevelTable.at.Goals as goal

pub returns : goal.returns
returns c = c.unwrap_or.ensures ∙ (λ i. unwrap_or (c.get.ensures i) (c.lowest.ensures i)) ∙ unwrap_or-slice_get c.args.self.now c.args.n lowest
