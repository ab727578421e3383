use Rattle.std.proofs.Common.{◌≡◌, ◌++◌, List, ℕ, OnOk, ap, subst, ◌∙◌}
use Rattle.bk_image.specs.Spelling.{level_bytes}
use Rattle.bk_image.specs.Writing.{LevelFits}
use Rattle.bk_image.proofs.PutLemmas.{level_bytes-level_of, LevelFits-level_of}
use Rattle.bk_image.proofs.put.put_level.Goals as goal

pub returns-clause-text : goal.returns-clause-text
returns-clause-text c = subst (λ (t : List ℕ). OnOk c.put_class.result (c.put_class.new.out.items ≡ c.args.out.now.items ++ t)) (level_bytes-level_of c.args.version c.level.inside c.level.invariant ∙ ap (level_bytes c.args.version) c.level.view_is) c.put_class.ensures

pub returns-clause-fits : goal.returns-clause-fits
returns-clause-fits c = subst LevelFits c.level.view_is (LevelFits-level_of c.level.inside c.level.invariant)
