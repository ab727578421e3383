-- Dominance by its test and by its fact.
use Rattle.std.proofs.Common.{◌≡◌, ℕ, Bool, true, sym, ◌∙◌, ◌==◌, nat_le, arith}
use Rattle.std.proofs.lemmas.Bool.Decides.{nat_tests}
use Rattle.std.proofs.lemmas.Cmp.{nat_eq_equiv}
use Rattle.std.proofs.lemmas.Map.Views.{Contains-from_any, list_any-from_Contains}
use Rattle.bk_level.specs.Levels.{Level, HasCategory, has_category, Dominates, dominates, is_same_level}
pub use Rattle.bk_level.specs.Sameness.{and_first, and_second, and_both, contains, all_from, all_at, dominates-itself, dominates-trans, is_same_level-itself}

same : (x y : ℕ) → (x == y) ≡ true → x ≡ y
same x y e = grind (arith, nat_tests, e)

-- the test has a category exactly where the level has it
pub has_category-from : (level : Level) (category : ℕ) → has_category level category ≡ true → HasCategory level category
has_category-from level category found = Contains-from_any same category level.categories found

pub HasCategory-test : (level : Level) (category : ℕ) → HasCategory level category → has_category level category ≡ true
HasCategory-test level category there = list_any-from_Contains nat_eq_equiv category level.categories there

-- the test of dominance and the fact
pub Dominates-from : (above below : Level) → dominates above below ≡ true → Dominates above below
Dominates-from above below is = record {
  class = let le = and_first (nat_le below.class above.class) _ is in grind (arith, nat_tests, le);
  categories = λ category there. has_category-from above category (all_at (has_category above) below.categories category (and_second (nat_le below.class above.class) _ is) (HasCategory-test below category there));
}

pub dominates-from : (above below : Level) → Dominates above below → dominates above below ≡ true
dominates-from above below is = and_both _ _ (let le = is.class in grind (arith, nat_tests, le)) (all_from (has_category above) below.categories (λ category found. HasCategory-test above category (is.categories category (has_category-from below category found))))

-- the test is true exactly where the fact holds
pub dominates_both : (above below : Level) (answer : Bool) → answer ≡ dominates above below → (answer ≡ true → Dominates above below) × (Dominates above below → answer ≡ true)
dominates_both above below answer is = (λ e. Dominates-from above below (sym is ∙ e), λ d. is ∙ dominates-from above below d)

-- the same level by its test, and by dominance both ways
pub both-from_same : (a b : Level) → is_same_level a b ≡ true → (dominates a b ≡ true) × (dominates b a ≡ true)
both-from_same a b same = (and_first (dominates a b) _ same, and_second (dominates a b) _ same)
