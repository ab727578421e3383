use Rattle.std.proofs.Common.{◌≡◌, true, [], ◌∷◌, ◌++◌, Result, Ok, Err, refl, subst, arith}
use Rattle.std.specs.Prelude.{OnOk}
use Rattle.bk_level.specs.declared.table.LevelNo.{LevelNo}
use Rattle.bk_level.specs.declared.table.LevelNo.TheVariants.{Doubled, Full}
use Rattle.bk_level.specs.Levels.{has_level}
use Rattle.bk_image.proofs.level.add_level.Goals as goal

pub returns : goal.returns
returns c = by c.push-added.result refl
  where
    by : (r : Result (Unit {0}) LevelNo) → c.push-added.result ≡ r → c.push-added.new.self ≡ c.args.levels.now ++ c.args.level ∷ []
    by (Ok x) is = subst (λ r. OnOk r (c.push-added.new.self ≡ c.args.levels.now ++ c.args.level ∷ [])) is c.push-added.ensures.ok
    by (Err Doubled) is =
        let twice : has_level c.args.levels.now c.args.level ≡ true = c.push-added.ensures.doubled.0 is in
        cc (twice, c.requires.new)
    by (Err Full) is =
        let (many, new) = c.push-added.ensures.full.0 is in
        absurd (omega (arith, many, c.requires.few))
