-- Which triples stand in the access set of a tree and an access table.
use Rattle.std.proofs.Common.{◌≡◌, ℕ, zero, suc, ◌<◌, Bool, true, false, cond, ◌&&◌, ◌||◌, ◌==◌, List, [], ◌∷◌, map, Option, Some, None, refl}
use Rattle.std.proofs.Common.{sym, ap, ◌∙◌, arith, is_some, is_eq, Equal}
use Rattle.std.specs.Prelude.{flat_map, filter, option_map}
use Rattle.std.specs.List.{list_any}
use Rattle.std.specs.Ordering.{eq_by_cmp, nat_cmp, ordering_then}
use Rattle.std.specs.Cmp.{tied_then, unsigned_tied}
use Rattle.std.specs.FinMap as finite
use Rattle.std.specs.FinSet as set
use Rattle.std.specs.FinMap.{IsAntisymmetric}
use Rattle.std.proofs.lemmas.Bool.Decides.{nat_tests}
use Rattle.std.proofs.Math.Bool.{and-false}
use Rattle.std.proofs.lemmas.List.Folds.{list_any-append}
use Rattle.bk_object.specs.Modes.{AccessMode, Read, Execute, Write, Append, has, mode_number}
use Rattle.bk_object.specs.declared.modes.Modes.{Modes}
use Rattle.bk_object.specs.Rows.{most_subjects}
use Rattle.bk_path.specs.Paths.{Path, path_cmp, is_same}
use Rattle.bk_path.specs.Orders.{ties-same}
use Rattle.bk_quota.specs.Charges.{passes}
use Rattle.bk_access.specs.Held.{Held, holds}
use Rattle.bk_state.specs.State.{Triple, triple_cmp}
use Rattle.bk_state.proofs.Orders.{triple_total}
use Rattle.bk_state.proofs.Triples.{same_triple}
use Rattle.bk_tree.specs.declared.place.Placed.{Placed}
use Rattle.bk_tree.specs.Objects.{Objects}
use Rattle.bk_store.specs.Stored.{all_modes, triples_of}
use Rattle.bk_store.specs.Joined.{is_held, below, all_triples, access_of}

-- when two triples tie
tie : (s t : ℕ) (p q : Path) (x y : AccessMode) → eq_by_cmp triple_cmp (s, p, x) (t, q, y) ≡ ((s == t) && (is_same p q && (mode_number x == mode_number y)))
tie s t p q x y =
    sym (tied_then (nat_cmp s t) (ordering_then (path_cmp p q) (nat_cmp (mode_number x) (mode_number y))))
    ∙ (λ i. unsigned_tied s t i && (sym (tied_then (path_cmp p q) (nat_cmp (mode_number x) (mode_number y))) ∙ (λ j. ties-same p q j && unsigned_tied (mode_number x) (mode_number y) j)) i)

-- triples that tie are one
pub triple_apart : IsAntisymmetric triple_cmp
triple_apart t u e = let one = same_triple t u (ap is_eq e) in λ i. (one.0 i, one.1 i, one.2 i)

pub alike : (f : Triple → Bool) (t u : Triple) → triple_cmp t u ≡ Equal → f u ≡ f t
alike f t u e = ap f (sym (triple_apart t u e))

any_same : {A : Type 0} (f g : A → Bool) (xs : List A) → ((a : A) → f a ≡ g a) → list_any f xs ≡ list_any g xs
any_same f g [] same = refl
any_same f g (x ∷ xs) same = λ i. same x i || any_same f g xs same i

any_map : {A B : Type 0} (f : B → Bool) (g : A → B) (xs : List A) → list_any f (map g xs) ≡ list_any (λ a. f (g a)) xs
any_map f g [] = refl
any_map f g (x ∷ xs) = ap (λ b. f (g x) || b) (any_map f g xs)

any_flat : {A B : Type 0} (f : B → Bool) (g : A → List B) (xs : List A) → list_any f (flat_map g xs) ≡ list_any (λ a. list_any f (g a)) xs
any_flat f g [] = refl
any_flat f g (x ∷ xs) = list_any-append f (g x) (flat_map g xs) ∙ ap (λ b. list_any f (g x) || b) (any_flat f g xs)

any_filter : {A : Type 0} (f g : A → Bool) (xs : List A) → list_any f (filter g xs) ≡ list_any (λ a. g a && f a) xs
any_filter f g [] = refl
any_filter f g (x ∷ xs) = by (g x) (any_filter f g xs)
  where
    by : (b : Bool) → list_any f (filter g xs) ≡ list_any (λ a. g a && f a) xs → list_any f (cond b (x ∷ filter g xs) (filter g xs)) ≡ ((b && f x) || list_any (λ a. g a && f a) xs)
    by true rest = ap (λ c. f x || c) rest
    by false rest = rest

any_left : {A : Type 0} (c : Bool) (f : A → Bool) (xs : List A) → list_any (λ x. c && f x) xs ≡ (c && list_any f xs)
any_left c f [] = sym (and-false c)
any_left c f (x ∷ xs) = ap (λ b. (c && f x) || b) (any_left c f xs) ∙ spread c (f x) (list_any f xs)
  where
    spread : (c a b : Bool) → ((c && a) || (c && b)) ≡ (c && (a || b))
    spread true a b = refl
    spread false a b = refl

any_right : {A : Type 0} (f : A → Bool) (c : Bool) (xs : List A) → list_any (λ x. f x && c) xs ≡ (list_any f xs && c)
any_right f c [] = refl
any_right f c (x ∷ xs) = ap (λ b. (f x && c) || b) (any_right f c xs) ∙ spread (f x) (list_any f xs) c
  where
    spread : (a b c : Bool) → ((a && c) || (b && c)) ≡ ((a || b) && c)
    spread a b c = grind arith

-- one of the four modes is the one that is asked for
any_mode : (x : AccessMode) (t u : Bool) → list_any (λ y. t && (u && (mode_number x == mode_number y))) all_modes ≡ (t && u)
any_mode Read t u = grind arith
any_mode Execute t u = grind arith
any_mode Write t u = grind arith
any_mode Append t u = grind arith

-- of the modes of a set, one is the one that is asked for
any_of_set : (m : Modes) (t u : Bool) (x : AccessMode) → list_any (λ y. has m y && (t && (u && (mode_number x == mode_number y)))) all_modes ≡ ((t && u) && has m x)
any_of_set m t u Read = one (has m Read) (has m Execute) (has m Write) (has m Append) t u
  where
    one : (a b c d t u : Bool) → ((a && (t && (u && true))) || ((b && (t && (u && false))) || ((c && (t && (u && false))) || ((d && (t && (u && false))) || false)))) ≡ ((t && u) && a)
    one a b c d t u = grind arith
any_of_set m t u Execute = one (has m Read) (has m Execute) (has m Write) (has m Append) t u
  where
    one : (a b c d t u : Bool) → ((a && (t && (u && false))) || ((b && (t && (u && true))) || ((c && (t && (u && false))) || ((d && (t && (u && false))) || false)))) ≡ ((t && u) && b)
    one a b c d t u = grind arith
any_of_set m t u Write = one (has m Read) (has m Execute) (has m Write) (has m Append) t u
  where
    one : (a b c d t u : Bool) → ((a && (t && (u && false))) || ((b && (t && (u && false))) || ((c && (t && (u && true))) || ((d && (t && (u && false))) || false)))) ≡ ((t && u) && c)
    one a b c d t u = grind arith
any_of_set m t u Append = one (has m Read) (has m Execute) (has m Write) (has m Append) t u
  where
    one : (a b c d t u : Bool) → ((a && (t && (u && false))) || ((b && (t && (u && false))) || ((c && (t && (u && false))) || ((d && (t && (u && true))) || false)))) ≡ ((t && u) && d)
    one a b c d t u = grind arith

-- the number is that of a subject
abbrev pub in_range : ℕ → Bool
in_range s = list_any (λ n. s == n) (below most_subjects)

in_below : (n s : ℕ) → s < n → list_any (λ m. s == m) (below n) ≡ true
in_below zero s h = absurd (omega (arith, h))
in_below (suc n) s h = by (s == n) refl (in_below n s)
  where
    by : (b : Bool) → (s == n) ≡ b → (s < n → list_any (λ m. s == m) (below n) ≡ true) → (b || list_any (λ m. s == m) (below n)) ≡ true
    by true e rest = refl
    by false e rest = rest (grind (arith, nat_tests, e, h))

pub subject_in : (s : ℕ) → s < most_subjects → in_range s ≡ true
subject_in s h = in_below most_subjects s h

any_triples : (tree : Objects) (s : ℕ) (p : Path) (x : AccessMode) → list_any (eq_by_cmp triple_cmp (s, p, x)) (all_triples tree) ≡ (in_range s && is_some (finite.get tree p))
any_triples tree s p x =
    any_flat (eq_by_cmp triple_cmp (s, p, x)) (λ t. flat_map (λ q. map (λ y. (t, q, y)) all_modes) (finite.keys tree)) (below most_subjects)
    ∙ any_same (λ t. list_any (eq_by_cmp triple_cmp (s, p, x)) (flat_map (λ q. map (λ y. (t, q, y)) all_modes) (finite.keys tree))) (λ t. (s == t) && is_some (finite.get tree p)) (below most_subjects) of_subject
    ∙ any_right (λ t. s == t) (is_some (finite.get tree p)) (below most_subjects)
  where
    of_path : (t : ℕ) (q : Path) → list_any (eq_by_cmp triple_cmp (s, p, x)) (map (λ y. (t, q, y)) all_modes) ≡ ((s == t) && is_same p q)
    of_path t q =
        any_map (eq_by_cmp triple_cmp (s, p, x)) (λ y. (t, q, y)) all_modes
        ∙ any_same (λ y. eq_by_cmp triple_cmp (s, p, x) (t, q, y)) (λ y. (s == t) && (is_same p q && (mode_number x == mode_number y))) all_modes (λ y. tie s t p q x y)
        ∙ any_mode x (s == t) (is_same p q)

    of_subject : (t : ℕ) → list_any (eq_by_cmp triple_cmp (s, p, x)) (flat_map (λ q. map (λ y. (t, q, y)) all_modes) (finite.keys tree)) ≡ ((s == t) && is_some (finite.get tree p))
    of_subject t =
        any_flat (eq_by_cmp triple_cmp (s, p, x)) (λ q. map (λ y. (t, q, y)) all_modes) (finite.keys tree)
        ∙ any_same (λ q. list_any (eq_by_cmp triple_cmp (s, p, x)) (map (λ y. (t, q, y)) all_modes)) (λ q. (s == t) && is_same p q) (finite.keys tree) (of_path t)
        ∙ any_left (s == t) (is_same p) (finite.keys tree)
        ∙ ap (λ b. (s == t) && b) (any_same (is_same p) (eq_by_cmp path_cmp p) (finite.keys tree) (λ q. sym (ties-same p q)) ∙ sym (finite.contains_key-keys tree p))

-- a subject's triple stands in the set exactly where the subject holds the object by the mode
pub member : (tree : Objects) (held : Held) (s : ℕ) (p : Path) (x : AccessMode) → set.contains (access_of tree held) (s, p, x) ≡ (in_range s && is_held tree held (s, p, x))
member tree held s p x =
    set.contains-retain (set.from_list (all_triples tree)) (is_held tree held) (s, p, x) (λ u e. alike (is_held tree held) (s, p, x) u e)
    ∙ ap (λ b. b && is_held tree held (s, p, x)) (set.contains-from_list triple_total (all_triples tree) (s, p, x) ∙ any_triples tree s p x)
    ∙ by (in_range s) (finite.get tree p)
  where
    by : (r : Bool) (o : Option Placed) →
        ((r && is_some o) && passes (λ slot. holds held s slot x) (option_map (λ placed. placed.slot) o)) ≡ (r && passes (λ slot. holds held s slot x) (option_map (λ placed. placed.slot) o))
    by true None = refl
    by true (Some a) = refl
    by false o = refl

-- which triples the modes of a set make
pub triples_there : (subject : ℕ) (path : Path) (modes : Modes) (s : ℕ) (p : Path) (x : AccessMode) →
    list_any (eq_by_cmp triple_cmp (s, p, x)) (triples_of subject path modes) ≡ (((s == subject) && is_same p path) && has modes x)
triples_there subject path modes s p x =
    any_map (eq_by_cmp triple_cmp (s, p, x)) (λ y. (subject, path, y)) (filter (has modes) all_modes)
    ∙ any_same (λ y. eq_by_cmp triple_cmp (s, p, x) (subject, path, y)) (λ y. (s == subject) && (is_same p path && (mode_number x == mode_number y))) (filter (has modes) all_modes) (λ y. tie s subject p path x y)
    ∙ any_filter (λ y. (s == subject) && (is_same p path && (mode_number x == mode_number y))) (has modes) all_modes
    ∙ any_of_set modes (s == subject) (is_same p path) x
