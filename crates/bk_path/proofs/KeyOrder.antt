-- The order of numbers is the order of paths; and the test of a number against a path's bound.
use Rattle.std.proofs.Common.{◌≡◌, ℕ, zero, suc, ◌+◌, ◌*◌, ◌<◌, ◌≤◌, true, List, [], ◌∷◌, length, reverse}
use Rattle.std.proofs.Common.{refl, sym, ap, ◌∙◌, subst, arith, nat_le, nat_lt}
use Rattle.std.proofs.Common.{Bool, Less, Equal, Greater, ◌&&◌}
use Rattle.std.specs.Ordering.{nat_cmp, ordering_then, MatchOrdering}
use Rattle.std.specs.declared.cmp.Ordering.{Ordering}
use Rattle.std.specs.Cmp.{both_ways, nat_cmp_is, ranks}
use Rattle.std.specs.Cmp.Lexicographic.{slice_cmp}
use Rattle.std.specs.Cmp.{first_so, second_so}
use Rattle.std.proofs.lemmas.Bool.{and_from}
use Rattle.std.proofs.lemmas.Bool.Decides.{nat_tests}
use Rattle.bk_path.specs.Paths.{Path, is_inferior, path_cmp, IsPath}
use Rattle.bk_path.specs.Keys.{key_of, number, past_of, weight}
use Rattle.bk_path.proofs.KeyLemmas.{above, below, entries, inferior_within, number-nil, some, within_inferior, AllSmall}

-- what the answer says of two numbers
abbrev Says : Ordering → (a b : ℕ) → Type 0
Says o a b = MatchOrdering o (a < b) (a ≡ b) (b < a)

-- the numbers of lists order as the lists do
list-order : (n : ℕ) (xs ys : List ℕ) → AllSmall xs → AllSmall ys → length xs ≤ n → length ys ≤ n → n ≤ 7 → Says (slice_cmp nat_cmp xs ys) (number n xs * 8 + length xs) (number n ys * 8 + length ys)
list-order n [] [] small_x small_y in_x in_y few = refl
list-order n [] (y ∷ ys) small_x small_y in_x in_y few = let none = number-nil n in omega (arith, none)
list-order n (x ∷ xs) [] small_x small_y in_x in_y few = let none = number-nil n in omega (arith, none)
list-order zero (x ∷ xs) (y ∷ ys) small_x small_y in_x in_y few = absurd (omega (arith, in_x))
list-order (suc n) (x ∷ xs) (y ∷ ys) small_x small_y in_x in_y few = by (nat_cmp x y) (slice_cmp nat_cmp xs ys) (ranks x y) (list-order n xs ys small_x.1 small_y.1 (omega (arith, in_x)) (omega (arith, in_y)) (omega (arith, few)))
  where
    by : (o p : Ordering) → Says o x y → Says p (number n xs * 8 + length xs) (number n ys * 8 + length ys) →
        Says (ordering_then o p) (number (suc n) (x ∷ xs) * 8 + length (x ∷ xs)) (number (suc n) (y ∷ ys) * 8 + length (y ∷ ys))
    by Less p lower rest =
        let more = above x y (weight n) lower (some n) in
        let under = below n xs small_x.1 in
        omega (arith, more, under, in_x, few)
    by Greater p higher rest =
        let more = above y x (weight n) higher (some n) in
        let under = below n ys small_y.1 in
        omega (arith, more, under, in_y, few)
    by Equal p same rest = level p rest
      where
        one : x * weight n ≡ y * weight n
        one = ap (λ d. d * weight n) same

        level : (p : Ordering) → Says p (number n xs * 8 + length xs) (number n ys * 8 + length ys) →
            Says p (number (suc n) (x ∷ xs) * 8 + length (x ∷ xs)) (number (suc n) (y ∷ ys) * 8 + length (y ∷ ys))
        level Less rest = omega (arith, rest, one)
        level Equal rest = omega (arith, rest, one)
        level Greater rest = omega (arith, rest, one)

-- the numbers of paths order as the paths do
pub key-order : (p q : Path) → IsPath p → IsPath q → nat_cmp (key_of p) (key_of q) ≡ path_cmp p q
key-order p q is also =
    let mine = entries p is in
    let its = entries q also in
    sym (nat_cmp_is (key_of p) (key_of q) (path_cmp p q)
    (subst (λ n. Says (path_cmp p q) (number 7 (reverse p) * 8 + n) (key_of q)) mine.depth
    (subst (λ n. Says (path_cmp p q) (number 7 (reverse p) * 8 + length (reverse p)) (number 7 (reverse q) * 8 + n)) its.depth
    (list-order 7 (reverse p) (reverse q) mine.small its.small mine.few its.few (omega arith)))))

-- the test of two numbers against a bound
pub inferior-between : (path of : Path) (within : Bool) → IsPath path → IsPath of → within ≡ (nat_le (key_of of) (key_of path) && nat_lt (key_of path) (past_of of)) → within ≡ is_inferior path of
inferior-between path of within is also e = e ∙ both_ways _ _
    (λ h. within_inferior path of is also (at_least (first_so (nat_le (key_of of) (key_of path)) _ h)) (before (second_so (nat_le (key_of of) (key_of path)) _ h)))
    (λ h. let both = inferior_within path of is also h in
    let from = both.0 in
    let to = both.1 in
    and_from (nat_le (key_of of) (key_of path)) _ (grind (arith, nat_tests, from)) (grind (arith, nat_tests, to)))
  where
    at_least : {m n : ℕ} → nat_le m n ≡ true → m ≤ n
    at_least {m} {n} h = grind (arith, nat_tests, h)

    before : {m n : ℕ} → nat_lt m n ≡ true → m < n
    before {m} {n} h = grind (arith, nat_tests, h)
