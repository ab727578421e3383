-- Levels: a class and a set of categories, and when one dominates another.
use Rattle.std.specs.Prelude.{ℕ, ◌≤◌, Bool, ◌&&◌, ◌==◌, nat_le, nat_lt, List, [], Contains, slice_index_or}
use Rattle.std.specs.List.{list_any, list_all}

-- a class, and a set of categories, given by a list in which neither order nor repetition matters
pub record Level : Type 0 where
  pub class : ℕ
  pub categories : List ℕ

-- the category is one of the level's
abbrev pub HasCategory : Level → ℕ → Type 0
HasCategory level category = Contains level.categories category

-- the first level's class is at least the second's, and it has each category of the second
pub record Dominates (above below : Level) : Type 0 where
  pub class : below.class ≤ above.class
  pub categories : (category : ℕ) → HasCategory below category → HasCategory above category

-- `HasCategory` as a test
abbrev pub has_category : Level → ℕ → Bool
has_category level category = list_any (λ c. category == c) level.categories

-- `Dominates` as a test
abbrev pub dominates : (above below : Level) → Bool
dominates above below = nat_le below.class above.class && list_all (has_category above) below.categories

-- each of the level's categories is below n
abbrev pub has_only_below : (n : ℕ) → Level → Bool
has_only_below n level = list_all (λ category. nat_lt category n) level.categories

-- the same level: each dominates the other, so they have the same class and the same set of categories
abbrev pub is_same_level : Level → Level → Bool
is_same_level a b = dominates a b && dominates b a

-- a level of the list is the same level
abbrev pub has_level : List Level → Level → Bool
has_level levels level = list_any (λ other. is_same_level other level) levels

-- how many levels a table has at most
abbrev pub most_levels : ℕ
most_levels = 64

-- the level with class 0 and no categories, which stands for a number that is past the end of a list
abbrev pub lowest : Level
lowest = record { class = 0; categories = [] }

-- the level with that number in a list of levels
abbrev pub level_at : List Level → ℕ → Level
level_at levels n = slice_index_or levels n lowest
