-- Lists, options and tests, as the proofs of what an accepted image is need them.
use Rattle.std.proofs.Common.{◌≡◌, ℕ, zero, suc, Bool, true, false, cond, not, ◌&&◌, ◌||◌, List, [], ◌∷◌, ◌++◌, map, filter, Option, Some, None, find as first}
use Rattle.std.proofs.Common.{get_or, refl, sym, ap, subst, ◌∙◌, ◌⊎◌, inl, inr, ◌<◌, ◌≤◌, ◌==◌, length, arith}
use Rattle.std.proofs.lemmas.List.Folds.{list_any-append}
use Rattle.std.specs.Prelude.{option_map, nat_lt, flat_map}
use Rattle.std.specs.List.{list_any, list_all}
use Rattle.std.proofs.lemmas.Bool.{or_cases, or_parts, or_right, and_from, and_parts}
use Rattle.std.proofs.lemmas.Bool.Decides.{nat_tests}
pub use Rattle.std.proofs.lemmas.Bool.{not-false as not_false, not-true as not_true}
use Rattle.bk_quota.specs.Charges.{passes}
use Rattle.bk_image.specs.Parts.{is_outside}

-- ---- tests

pub all_three : (a b c : Bool) → (a && b && c) ≡ true → (a ≡ true) × (b ≡ true) × (c ≡ true)
all_three true true true h = (refl, refl, refl)
all_three true true false h = cc
all_three true false c h = cc
all_three false b c h = cc

-- a test that is asked only where another holds
pub implied : (a b : Bool) → (not a || b) ≡ true → a ≡ true → b ≡ true
implied true b h asked = h
implied false b h asked = cc

pub passes_both : {A : Type 0} (f g : A → Bool) (a : Option A) → passes f a ≡ true → passes g a ≡ true → passes (λ x. f x && g x) a ≡ true
passes_both f g None one two = cc
passes_both f g (Some x) one two = and_from (f x) (g x) one two

-- what passes a test is there
pub passes_some : {A : Type 0} (f : A → Bool) (a : Option A) → passes f a ≡ true → (x : A) × (a ≡ Some x) × (f x ≡ true)
passes_some f None h = cc
passes_some f (Some x) h = (x, refl, h)

pub mapped_some : {A B : Type 0} (f : A → B) (a : Option A) (y : B) → option_map f a ≡ Some y → (x : A) × (a ≡ Some x) × (f x ≡ y)
mapped_some f None y h = cc
mapped_some f (Some x) y h = (x, refl, cc)

-- ---- tests of numbers

pub zero_of : (n : ℕ) → (n == 0) ≡ true → n ≡ 0
zero_of n h = grind (arith, nat_tests, h)

pub lt_of : (a b : ℕ) → nat_lt a b ≡ true → a < b
lt_of a b h = grind (arith, nat_tests, h)

pub le_of : (a b : ℕ) → nat_lt b a ≡ false → a ≤ b
le_of a b h = grind (arith, nat_tests, h)

pub within : (low high x : ℕ) → is_outside low high x ≡ false → (low ≤ x) × (x ≤ high)
within low high x h = (grind (arith, nat_tests, h), grind (arith, nat_tests, h))

-- ---- where a value stands in a list

-- the value stands in the list, between those of the front and those of the tail
pub record Stands {X : Type 0} (xs : List X) (x : X) : Type 0 where
  pub front : List X
  pub tail : List X
  pub whole : front ++ x ∷ tail ≡ xs

module _ {X : Type 0} where
  pub stands_first : (x : X) (xs : List X) → Stands (x ∷ xs) x
  stands_first x xs = record { front = []; tail = xs; whole = refl }

  pub stands_later : (y x : X) (xs : List X) → Stands xs x → Stands (y ∷ xs) x
  stands_later y x xs at = record { front = y ∷ at.front; tail = at.tail; whole = ap (λ zs. y ∷ zs) at.whole }

  pub any_stands : (test : X → Bool) (xs : List X) → list_any test xs ≡ true → (x : X) × Stands xs x × (test x ≡ true)
  any_stands test [] any = cc
  any_stands test (y ∷ ys) any = by (or_cases (test y) (list_any test ys) any) (any_stands test ys)
    where
      by : (test y ≡ true) ⊎ (list_any test ys ≡ true) → (list_any test ys ≡ true → (x : X) × Stands ys x × (test x ≡ true)) → (x : X) × Stands (y ∷ ys) x × (test x ≡ true)
      by (inl here) rest = (y, stands_first y ys, here)
      by (inr there) rest = let (x, at, is) = rest there in (x, stands_later y x ys at, is)

  any_in : (test : X → Bool) (front : List X) (x : X) (tail : List X) → test x ≡ true → list_any test (front ++ x ∷ tail) ≡ true
  any_in test [] x tail is = ap (λ b. b || list_any test tail) is
  any_in test (y ∷ front) x tail is = or_right (test y) _ (any_in test front x tail is)

  pub stands_any : (test : X → Bool) (xs : List X) (x : X) → Stands xs x → test x ≡ true → list_any test xs ≡ true
  stands_any test xs x at is = subst (λ zs. list_any test zs ≡ true) at.whole (any_in test at.front x at.tail is)

  -- the first of which a test holds is the one before which it holds of none
  pub first_at : (test : X → Bool) (front : List X) (x : X) (tail : List X) → list_any test front ≡ false → test x ≡ true → first test (front ++ x ∷ tail) ≡ Some x
  first_at test [] x tail none is = ap (λ b. cond b (Some x) (first test tail)) is
  first_at test (y ∷ front) x tail none is =
      let (here, rest) = or_parts (test y) (list_any test front) none in
      ap (λ b. cond b (Some y) (first test (front ++ x ∷ tail))) here ∙ first_at test front x tail rest is

  -- two values of a list are the same one, or one stands before the other
  pub stands_apart : (f g : List X) (x y : X) (t u : List X) → f ++ x ∷ t ≡ g ++ y ∷ u → (x ≡ y) ⊎ (Stands g x ⊎ Stands f y)
  stands_apart [] [] x y t u is = inl cc
  stands_apart [] (b ∷ g) x y t u is = inr (inl (record { front = []; tail = g; whole = same }))
    where
      same : x ∷ g ≡ b ∷ g
      same = cc
  stands_apart (a ∷ f) [] x y t u is = inr (inr (record { front = []; tail = f; whole = same }))
    where
      same : y ∷ f ≡ a ∷ f
      same = cc
  stands_apart (a ∷ f) (b ∷ g) x y t u is = by (stands_apart f g x y t u cc)
    where
      by : (x ≡ y) ⊎ (Stands g x ⊎ Stands f y) → (x ≡ y) ⊎ (Stands (b ∷ g) x ⊎ Stands (a ∷ f) y)
      by (inl e) = inl e
      by (inr (inl at)) = inr (inl (stands_later b x g at))
      by (inr (inr at)) = inr (inr (stands_later a y f at))

  pub all_each : (test : X → Bool) (xs : List X) (x : X) → Stands xs x → list_all test xs ≡ true → test x ≡ true
  all_each test xs x at all = inside at.front (subst (λ zs. list_all test zs ≡ true) (sym at.whole) all)
    where
      inside : (front : List X) → list_all test (front ++ x ∷ at.tail) ≡ true → test x ≡ true
      inside [] h = (and_parts (test x) _ h).0
      inside (y ∷ front) h = inside front (and_parts (test y) _ h).1

  pub all_from : (test : X → Bool) (xs : List X) → ((x : X) → Stands xs x → test x ≡ true) → list_all test xs ≡ true
  all_from test [] each = refl
  all_from test (x ∷ xs) each = and_from (test x) (list_all test xs) (each x (stands_first x xs)) (all_from test xs (λ y at. each y (stands_later x y xs at)))

-- what holds of all of a list holds of each place, and past the end the default is read
pub all_at : {X : Type 0} (test : X → Bool) (xs : List X) (i : ℕ) (d : X) → test d ≡ true → list_all test xs ≡ true → test (get_or xs i d) ≡ true
all_at test [] i d past all = past
all_at test (x ∷ xs) zero d past all = (and_parts (test x) _ all).0
all_at test (x ∷ xs) (suc i) d past all = all_at test xs i d past (and_parts (test x) _ all).1

-- a place of a list that was mapped is that of a value of the list
pub mapped_at : {X Y : Type 0} (f : X → Y) (xs : List X) (i : ℕ) (d : Y) → i < length xs → (x : X) × Stands xs x × (get_or (map f xs) i d ≡ f x)
mapped_at f [] i d lt = absurd (omega arith)
mapped_at f (x ∷ xs) zero d lt = (x, stands_first x xs, refl)
mapped_at f (x ∷ xs) (suc i) d lt = let (y, at, is) = mapped_at f xs i d (omega arith) in (y, stands_later x y xs at, is)

pub all_mapped : {X Y : Type 0} (test : Y → Bool) (f : X → Y) (xs : List X) → ((x : X) → Stands xs x → test (f x) ≡ true) → list_all test (map f xs) ≡ true
all_mapped test f [] each = refl
all_mapped test f (x ∷ xs) each = and_from (test (f x)) (list_all test (map f xs)) (each x (stands_first x xs)) (all_mapped test f xs (λ y at. each y (stands_later x y xs at)))

-- of which value of a list the list of a value has one that passes
pub any_joined : {X Y : Type 0} (test : Y → Bool) (f : X → List Y) (xs : List X) → list_any test (flat_map f xs) ≡ true → (x : X) × Stands xs x × (list_any test (f x) ≡ true)
any_joined test f [] any = cc
any_joined {X = X} test f (x ∷ xs) any = by (or_cases (list_any test (f x)) (list_any test (flat_map f xs)) (sym (list_any-append test (f x) (flat_map f xs)) ∙ any)) (any_joined test f xs)
  where
    by : (list_any test (f x) ≡ true) ⊎ (list_any test (flat_map f xs) ≡ true) → (list_any test (flat_map f xs) ≡ true → (y : X) × Stands xs y × (list_any test (f y) ≡ true)) → (y : X) × Stands (x ∷ xs) y × (list_any test (f y) ≡ true)
    by (inl here) rest = (x, stands_first x xs, here)
    by (inr there) rest = let (y, at, is) = rest there in (y, stands_later x y xs at, is)

pub any_kept : {X Y : Type 0} (test : Y → Bool) (f : X → Y) (keep : X → Bool) (xs : List X) → list_any test (map f (filter keep xs)) ≡ true → (x : X) × (keep x ≡ true) × (test (f x) ≡ true)
any_kept test f keep [] any = cc
any_kept {X = X} test f keep (x ∷ xs) any = by (keep x) refl any (any_kept test f keep xs)
  where
    by : (b : Bool) → keep x ≡ b → list_any test (map f (cond b (x ∷ filter keep xs) (filter keep xs))) ≡ true → (list_any test (map f (filter keep xs)) ≡ true → (y : X) × (keep y ≡ true) × (test (f y) ≡ true)) → (y : X) × (keep y ≡ true) × (test (f y) ≡ true)
    by true is any rest = elim (or_cases (test (f x)) (list_any test (map f (filter keep xs))) any) as (λ _. (y : X) × (keep y ≡ true) × (test (f y) ≡ true)) [
      | inl here ↦ (x, is, here)
      | inr there ↦ rest there
    ]
    by false is any rest = rest any
