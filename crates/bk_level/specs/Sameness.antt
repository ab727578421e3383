-- To be the same level is an equivalence, which the type of levels cites for its `==`.
use Rattle.std.specs.Prelude.{◌≡◌, ℕ, Bool, true, false, ◌&&◌, ◌||◌, List, [], ◌∷◌, ◌==◌, nat_le, refl}
use Rattle.std.specs.List.{list_any, list_all}
use Rattle.std.specs.Cmp.{IsEquivalence, equiv}
use Rattle.std.proofs.Common.{sym, ap, ◌∙◌, arith}
use Rattle.std.proofs.lemmas.Bool.Decides.{nat_tests}
use Rattle.bk_level.specs.Levels.{Level, dominates, is_same_level}

pub and_first : (a b : Bool) → (a && b) ≡ true → a ≡ true
and_first a b both = grind (arith, both)

pub and_second : (a b : Bool) → (a && b) ≡ true → b ≡ true
and_second a b both = grind (arith, both)

pub and_both : (a b : Bool) → a ≡ true → b ≡ true → (a && b) ≡ true
and_both a b first second = grind (arith, first, second)

-- the list has the category
abbrev pub contains : ℕ → List ℕ → Bool
contains c xs = list_any (λ d. c == d) xs

pub all_from : (p : ℕ → Bool) (xs : List ℕ) → ((c : ℕ) → contains c xs ≡ true → p c ≡ true) → list_all p xs ≡ true
all_from p [] each = refl
all_from p (x ∷ xs) each = and_both (p x) (list_all p xs) (each x (grind (arith, nat_tests))) (all_from p xs (λ c here. each c (grind (arith, nat_tests, here))))

pub all_at : (p : ℕ → Bool) (xs : List ℕ) (c : ℕ) → list_all p xs ≡ true → contains c xs ≡ true → p c ≡ true
all_at p [] c all here = cc
all_at p (x ∷ xs) c all here = by (c == x) refl here (all_at p xs c (and_second (p x) (list_all p xs) all))
  where
    by : (b : Bool) → (c == x) ≡ b → (b || contains c xs) ≡ true → (contains c xs ≡ true → p c ≡ true) → p c ≡ true
    by true same found rest = let e : x ≡ c = grind (arith, nat_tests, same) in ap p (sym e) ∙ and_first (p x) (list_all p xs) all
    by false same found rest = rest found

pub dominates-itself : (a : Level) → dominates a a ≡ true
dominates-itself a = and_both _ _ (grind (arith, nat_tests)) (all_from _ a.categories (λ c here. here))

pub dominates-trans : (a b c : Level) → dominates a b ≡ true → dominates b c ≡ true → dominates a c ≡ true
dominates-trans a b c ab bc =
    let class_ab = and_first (nat_le b.class a.class) _ ab in
    let class_bc = and_first (nat_le c.class b.class) _ bc in
    let cats_ab = and_second (nat_le b.class a.class) _ ab in
    let cats_bc = and_second (nat_le c.class b.class) _ bc in
    and_both _ _ (grind (arith, nat_tests, class_ab, class_bc)) (all_from _ c.categories (λ d here. all_at _ b.categories d cats_ab (all_at _ c.categories d cats_bc here)))

pub is_same_level-itself : (a : Level) → is_same_level a a ≡ true
is_same_level-itself a = and_both (dominates a a) (dominates a a) (dominates-itself a) (dominates-itself a)

pub is_same_level-symm : (a b : Level) → is_same_level a b ≡ is_same_level b a
is_same_level-symm a b = turned (dominates a b) (dominates b a)
  where
    turned : (s t : Bool) → (s && t) ≡ (t && s)
    turned s t = grind arith

pub is_same_level-trans : (a b c : Level) → is_same_level a b ≡ true → is_same_level b c ≡ true → is_same_level a c ≡ true
is_same_level-trans a b c ab bc = and_both _ _
    (dominates-trans a b c (and_first (dominates a b) _ ab) (and_first (dominates b c) _ bc))
    (dominates-trans c b a (and_second (dominates b c) _ bc) (and_second (dominates a b) _ ab))

pub is_same_level-equiv : IsEquivalence is_same_level
is_same_level-equiv = equiv (record { symm = is_same_level-symm; trans = is_same_level-trans }) is_same_level-itself
