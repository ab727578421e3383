-- What holds of all triples of a subject in a current access set, by the list of the set and by each access.
use Rattle.std.proofs.Common.{◌≡◌, ℕ, Bool, true, false, ◌||◌, not, List, [], ◌∷◌, refl, sym, ap, ◌∙◌, subst, ◌==◌, arith, is_eq}
use Rattle.std.proofs.lemmas.Bool.Decides.{nat_tests}
use Rattle.std.specs.Cmp.{tied_itself}
use Rattle.std.specs.Ordering.{eq_by_cmp}
use Rattle.std.specs.List.{list_all, list_any}
use Rattle.std.specs.FinSet as set
use Rattle.bk_level.proofs.LevelOrder.{and_first, and_second, and_both}
use Rattle.bk_path.specs.Paths.{Path}
use Rattle.bk_object.specs.Modes.{AccessMode}
use Rattle.bk_state.specs.State.{Triple, triple_cmp}
use Rattle.bk_state.proofs.Orders.{triple_total}
use Rattle.bk_state.proofs.Triples.{same_triple}

one_of_all : {A : Type 0} (p t : A → Bool) (xs : List A) → list_all p xs ≡ true → list_any t xs ≡ true → (x : A) × ((p x ≡ true) × (t x ≡ true))
one_of_all p t [] all one = cc
one_of_all {A = A} p t (x ∷ xs) all one = by (t x) refl one (λ rest. one_of_all p t xs (and_second (p x) (list_all p xs) all) rest)
  where
    by : (b : Bool) → t x ≡ b → (b || list_any t xs) ≡ true → (list_any t xs ≡ true → (x : A) × ((p x ≡ true) × (t x ≡ true))) → (x : A) × ((p x ≡ true) × (t x ≡ true))
    by true is h rest = (x, (and_first (p x) (list_all p xs) all, is))
    by false is h rest = rest h

or_left : (a b : Bool) → a ≡ true → (a || b) ≡ true
or_left true b h = refl
or_left false b h = cc

or_right : (a b : Bool) → b ≡ true → (a || b) ≡ true
or_right true b h = refl
or_right false b h = h

all_of_each : {A : Type 0} (p : A → Bool) (t : A → A → Bool) → ((x : A) → t x x ≡ true) → (xs : List A) → ((x : A) → list_any (t x) xs ≡ true → p x ≡ true) → list_all p xs ≡ true
all_of_each p t itself [] each = refl
all_of_each p t itself (x ∷ xs) each =
    and_both (p x) (list_all p xs) (each x (or_left (t x x) (list_any (t x) xs) (itself x)))
    (all_of_each p t itself xs (λ y one. each y (or_right (t y x) (list_any (t y) xs) one)))

module _ (access : set.FinSet triple_cmp) (s : ℕ) (test : Path → AccessMode → Bool) where
  -- the test holds of each object and mode by which the subject holds it
  abbrev pub of_own : Triple → Bool
  of_own t = not (t.0 == s) || test t.1 t.2

  -- where it holds of all, it holds of each
  pub each_of_own : list_all of_own (set.items access) ≡ true → (path : Path) (mode : AccessMode) → set.contains access (s, path, mode) ≡ true → test path mode ≡ true
  each_of_own all path mode held =
      let (t, (passed, tied)) = one_of_all of_own (eq_by_cmp triple_cmp (s, path, mode)) (set.items access) all (sym (set.contains-items access (s, path, mode)) ∙ held) in
      let parts = same_triple (s, path, mode) t tied in
      own (subst (λ k. (not (k == s) || test path mode) ≡ true) (sym parts.0)
      (subst (λ q. (not (t.0 == s) || test q mode) ≡ true) (sym parts.1)
      (subst (λ x. (not (t.0 == s) || test t.1 x) ≡ true) (sym parts.2) passed)))
    where
      itself : (s == s) ≡ true
      itself = grind (arith, nat_tests)

      own : (not (s == s) || test path mode) ≡ true → test path mode ≡ true
      own h = subst (λ b. (not b || test path mode) ≡ true) itself h

  -- and the other way round
  pub all_of_own : ((path : Path) (mode : AccessMode) → set.contains access (s, path, mode) ≡ true → test path mode ≡ true) → list_all of_own (set.items access) ≡ true
  all_of_own each = all_of_each of_own (eq_by_cmp triple_cmp) (λ t. ap is_eq (tied_itself triple_total t)) (set.items access)
      (λ t one. by t (t.0 == s) refl (set.contains-items access t ∙ one))
    where
      by : (t : Triple) (b : Bool) → (t.0 == s) ≡ b → set.contains access t ≡ true → (not b || test t.1 t.2) ≡ true
      by t true is held = let at : t.0 ≡ s = grind (arith, nat_tests, is) in each t.1 t.2 (ap (λ k. set.contains access (k, t.1, t.2)) (sym at) ∙ held)
      by t false is held = refl
