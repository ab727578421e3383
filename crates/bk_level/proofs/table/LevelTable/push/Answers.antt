use Rattle.std.proofs.Common.{sym, ap, ◌∙◌, arith}
use Rattle.bk_level.specs.Levels.{has_level}
use Rattle.bk_level.proofs.TableLemmas.{IsTable-push}
use Rattle.bk_level.proofs.table.LevelTable.push.Goals as goal

pub invariant_of-self : goal.invariant_of-self
invariant_of-self c = IsTable-push c.self.inside.levels c.self.inside.len c.args.level c.self.invariant (let used = c.self.invariant.used in let free = c.if-self-eq-MOST_LEVELS.false in omega (arith, used, free)) (ap (λ xs. has_level xs c.args.level) c.self.view_is ∙ sym c.has.ensures ∙ c.if-has.false)
