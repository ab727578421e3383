-- The table of levels, of which one more is taken.
use Rattle.std.proofs.Common.{◌≡◌, ℕ, zero, suc, ◌<◌, false, [], map, refl, arith}
use Rattle.bk_level.specs.Levels.{has_level}
use Rattle.bk_level.specs.Masks.{categories_of}
use Rattle.bk_gen.specs.Subjects.{level_of, numbers_below}

pub no_categories : categories_of 0 ≡ []
unfolding categories_of
no_categories = refl

-- a level is none of those before it
pub level_new : (n : ℕ) → n < 4 → has_level (map level_of (numbers_below n)) (level_of n) ≡ false
level_new zero small = refl
level_new (suc zero) small = refl
level_new (suc (suc zero)) small = refl
level_new (suc (suc (suc zero))) small = refl
level_new (suc (suc (suc (suc n)))) small = absurd (omega arith)
