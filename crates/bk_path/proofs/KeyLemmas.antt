-- The number of a path: the numbers of a path's inferiors are those from its own on and below a bound, and no two paths have one.
use Rattle.std.proofs.Common.{◌≡◌, inl, inr, ℕ, zero, suc, ◌+◌, ◌-◌, ◌*◌, ◌<◌, ◌≤◌, true, List, [], ◌∷◌, ◌++◌, length, reverse, take}
use Rattle.std.proofs.Common.{refl, sym, ap, ◌∙◌, subst, arith, nat_le, nat_lt}
use Rattle.std.specs.Prelude.{⊤}
use Rattle.std.specs.List.{list_all}
use Rattle.std.specs.Cmp.{first_so, second_so}
use Rattle.std.proofs.Math.Nat.{mul_comm}
use Rattle.std.proofs.lemmas.Bool.{cases_lt}
use Rattle.std.proofs.lemmas.Bool.Decides.{nat_tests}
use Rattle.std.proofs.lemmas.Nat.{mul-add-lt}
use Rattle.std.proofs.lemmas.List.{reverse-reverse, length-reverse, reverse-append}
use Rattle.bk_path.specs.Paths.{Path, is_inferior, IsPath}
use Rattle.bk_path.proofs.PathLemmas.{IsInferior-from, inferior-front, is_inferior-from}
use Rattle.bk_path.specs.Keys.{key_of, number, past_of, weight}

-- each entry is below 16
abbrev pub AllSmall : List ℕ → Type 0
AllSmall [] = ⊤
AllSmall (x ∷ xs) = (x < 16) × AllSmall xs

-- the second list begins with the first
abbrev pub IsFront : List ℕ → List ℕ → Type 0
IsFront [] ys = ⊤
IsFront (x ∷ xs) [] = ⊥
IsFront (x ∷ xs) (y ∷ ys) = (x ≡ y) × IsFront xs ys

pub number-nil : (n : ℕ) → number n [] ≡ 0
number-nil zero = refl
number-nil (suc n) = refl

pub some : (n : ℕ) → 1 ≤ weight n
some zero = omega arith
some (suc n) = omega (arith, some n)

-- a digit that is higher counts more than all that can stand behind the lower one
pub above : (x y w : ℕ) → x < y → 1 ≤ w → x * w + w ≤ y * w
above x y w lt one =
    let less = mul-add-lt x w (w - 1) y lt (omega (arith, one)) in
    let turned = mul_comm w y in
    omega (arith, less, turned, one)

pub below : (n : ℕ) (xs : List ℕ) → AllSmall xs → number n xs + 1 ≤ weight n
below zero xs small = omega arith
below (suc n) [] small = omega (arith, some n)
below (suc n) (x ∷ xs) small =
    let rest = below n xs small.1 in
    let most = above x 16 (weight n) small.0 (some n) in
    omega (arith, rest, most)

less : (n : ℕ) (xs : List ℕ) → length (0 ∷ xs) ≤ suc n → suc n - length (0 ∷ xs) ≡ n - length xs
less n xs within = omega arith

pub fills : (n : ℕ) (xs : List ℕ) → AllSmall xs → length xs ≤ n → number n xs + weight (n - length xs) ≤ weight n
fills n [] small within = let none = number-nil n in let all : weight (n - 0) ≡ weight n = ap weight (let e : n - 0 ≡ n = omega arith in e) in omega (arith, none, all)
fills zero (x ∷ xs) small within = absurd (omega (arith, within))
fills (suc n) (x ∷ xs) small within =
    let rest = fills n xs small.1 (omega (arith, within)) in
    let most = above x 16 (weight n) small.0 (some n) in
    let same = ap weight (less n xs within) in
    omega (arith, rest, most, same)

pub from_front : (n : ℕ) (xs ys : List ℕ) → AllSmall ys → length xs ≤ n → length ys ≤ n → IsFront xs ys →
    (number n xs * 8 + length xs ≤ number n ys * 8 + length ys) × (number n ys + 1 ≤ number n xs + weight (n - length xs))
from_front n [] ys small in_x in_y front = let none = number-nil n in let all : weight (n - 0) ≡ weight n = ap weight (let e : n - 0 ≡ n = omega arith in e) in (omega (arith, none), omega (arith, none, all, below n ys small))
from_front n (x ∷ xs) [] small in_x in_y front = absurd front
from_front zero (x ∷ xs) (y ∷ ys) small in_x in_y front = absurd (omega (arith, in_x))
from_front (suc n) (x ∷ xs) (y ∷ ys) small in_x in_y front =
    let rest = from_front n xs ys small.1 (omega (arith, in_x)) (omega (arith, in_y)) front.1 in
    let one : x * weight n ≡ y * weight n = ap (λ d. d * weight n) front.0 in
    let same = ap weight (less n xs in_x) in
    (omega (arith, rest.0, one), omega (arith, rest.1, one, same))

pub to_front : (n : ℕ) (xs ys : List ℕ) → AllSmall xs → AllSmall ys → length xs ≤ n → length ys ≤ n → n ≤ 7 →
    number n xs * 8 + length xs ≤ number n ys * 8 + length ys → number n ys + 1 ≤ number n xs + weight (n - length xs) → IsFront xs ys
to_front n [] ys small_x small in_x in_y few from to = tt
to_front zero (x ∷ xs) ys small_x small in_x in_y few from to = absurd (omega (arith, in_x))
to_front (suc n) (x ∷ xs) [] small_x small in_x in_y few from to = absurd (omega (arith, from))
to_front (suc n) (x ∷ xs) (y ∷ ys) small_x small in_x in_y few from to = elim (cases_lt x y) [
  | inl lower ↦
      let more = above x y (weight n) lower (some n) in
      let full = fills n xs small_x.1 (omega (arith, in_x)) in
      let same = ap weight (less n xs in_x) in
      absurd (omega (arith, more, full, same, to))
  | inr most ↦ elim (cases_lt y x) [
    | inl higher ↦
        let more = above y x (weight n) higher (some n) in
        let under = below n ys small.1 in
        absurd (omega (arith, more, under, from, in_y, few))
    | inr least ↦
        let same_digit : x ≡ y = omega (arith, most, least) in
        let one : x * weight n ≡ y * weight n = ap (λ d. d * weight n) same_digit in
        let same = ap weight (less n xs in_x) in
        (same_digit, to_front n xs ys small_x.1 small.1 (omega (arith, in_x)) (omega (arith, in_y)) (omega (arith, few)) (omega (arith, from, one)) (omega (arith, to, one, same)))
  ]
]

-- ---- paths

small-append : (xs ys : List ℕ) → AllSmall xs → AllSmall ys → AllSmall (xs ++ ys)
small-append [] ys h k = k
small-append (x ∷ xs) ys h k = (h.0, small-append xs ys h.1 k)

small-reverse : (xs : List ℕ) → AllSmall xs → AllSmall (reverse xs)
small-reverse [] h = tt
small-reverse (x ∷ xs) h = subst AllSmall (sym (reverse-append (x ∷ []) xs)) (small-append (reverse xs) (x ∷ []) (small-reverse xs h.1) (h.0, tt))

small-from : (xs : List ℕ) → list_all (λ entry. nat_lt entry 16) xs ≡ true → AllSmall xs
small-from [] h = tt
small-from (x ∷ xs) h =
    let test = first_so (nat_lt x 16) (list_all (λ entry. nat_lt entry 16) xs) h in
    let lt : x < 16 = grind (arith, nat_tests, test) in
    (lt, small-from xs (second_so (nat_lt x 16) (list_all (λ entry. nat_lt entry 16) xs) h))

-- what a path's entries are, root first
pub record Entries (path : Path) : Type 0 where
  pub small : AllSmall (reverse path)
  pub few : length (reverse path) ≤ 7
  pub depth : length (reverse path) ≡ length path

pub entries : (path : Path) → IsPath path → Entries path
entries path is =
    let test = first_so (nat_le (length path) 7) (list_all (λ entry. nat_lt entry 16) path) is in
    let few : length path ≤ 7 = grind (arith, nat_tests, test) in
    let long = length-reverse path in
    record {
      small = small-reverse path (small-from path (second_so (nat_le (length path) 7) (list_all (λ entry. nat_lt entry 16) path) is));
      few = omega (arith, few, long);
      depth = long;
    }

front-take : (xs ys : List ℕ) → take (length xs) ys ≡ xs → IsFront xs ys
front-take [] ys h = tt
front-take (x ∷ xs) [] h = cc
front-take (x ∷ xs) (y ∷ ys) h = (sym (cc h), front-take xs ys (cc h))

take-front : (xs ys : List ℕ) → IsFront xs ys → take (length xs) ys ≡ xs
take-front [] ys h = refl
take-front (x ∷ xs) [] h = absurd h
take-front (x ∷ xs) (y ∷ ys) h = λ i. sym h.0 i ∷ take-front xs ys h.1 i

fronts-same : (xs ys : List ℕ) → IsFront xs ys → IsFront ys xs → xs ≡ ys
fronts-same [] [] h k = refl
fronts-same [] (y ∷ ys) h k = absurd k
fronts-same (x ∷ xs) [] h k = absurd h
fronts-same (x ∷ xs) (y ∷ ys) h k = λ i. h.0 i ∷ fronts-same xs ys h.1 k.1 i

inferior-from_front : (path of : Path) → IsFront (reverse of) (reverse path) → is_inferior path of ≡ true
inferior-from_front path of front =
    is_inferior-from path of ((inferior-front path of).1 (ap (λ n. take n (reverse path)) (sym (length-reverse of)) ∙ take-front (reverse of) (reverse path) front))

front-from_inferior : (path of : Path) → is_inferior path of ≡ true → IsFront (reverse of) (reverse path)
front-from_inferior path of below =
    front-take (reverse of) (reverse path) (ap (λ n. take n (reverse path)) (length-reverse of) ∙ (inferior-front path of).0 (IsInferior-from path of below))

pub inferior_within : (path of : Path) → IsPath path → IsPath of → is_inferior path of ≡ true → (key_of of ≤ key_of path) × (key_of path < past_of of)
inferior_within path of p o below =
    let mine = entries path p in
    let its = entries of o in
    let both = from_front 7 (reverse of) (reverse path) mine.small its.few mine.few (front-from_inferior path of below) in
    let same = ap (λ n. weight (7 - n)) its.depth in
    let few = mine.few in
    let depth = mine.depth in
    let deep = its.depth in
    (omega (arith, both.0, depth, deep), omega (arith, both.1, same, few, depth))

pub within_inferior : (path of : Path) → IsPath path → IsPath of → key_of of ≤ key_of path → key_of path < past_of of → is_inferior path of ≡ true
within_inferior path of p o from to =
    let mine = entries path p in
    let its = entries of o in
    let same = ap (λ n. weight (7 - n)) its.depth in
    let few = mine.few in
    let depth = mine.depth in
    let deep = its.depth in
    inferior-from_front path of (to_front 7 (reverse of) (reverse path) its.small mine.small its.few mine.few (omega arith) (omega (arith, from, depth, deep)) (omega (arith, to, same, few, depth)))

-- two paths of one number are one
pub same_key : (p q : Path) → IsPath p → IsPath q → key_of p ≡ key_of q → p ≡ q
same_key p q hp hq same =
    let one = number-same p q hp hq same in
    let a = weight_some (7 - length q) in
    let b = weight_some (7 - length p) in
    let there = front-from_inferior p q (within_inferior p q hp hq (omega (arith, same)) (omega (arith, same, one, a, past_is q, depth_few p hp))) in
    let back = front-from_inferior q p (within_inferior q p hq hp (omega (arith, same)) (omega (arith, same, one, b, past_is p, depth_few q hq))) in
    sym (reverse-reverse p) ∙ ap reverse (sym (fronts-same (reverse q) (reverse p) there back)) ∙ reverse-reverse q
  where
    weight_some : (n : ℕ) → 1 ≤ weight n
    weight_some n = some n

    depth_few : (p : Path) → IsPath p → length p ≤ 7
    depth_few p hp = let e = entries p hp in let few = e.few in let depth = e.depth in omega (arith, few, depth)

    past_is : (q : Path) → past_of q ≡ number 7 (reverse q) * 8 + weight (7 - length q) * 8
    past_is q = omega arith

    number-same : (p q : Path) → IsPath p → IsPath q → key_of p ≡ key_of q → number 7 (reverse p) ≡ number 7 (reverse q)
    number-same p q hp hq same = let a = depth_few p hp in let b = depth_few q hq in omega (arith, a, b, same)

-- a child's number is above its parent's
pub child_above : (entry : ℕ) (path : Path) → IsPath path → IsPath (entry ∷ path) → is_inferior (entry ∷ path) path ≡ true → key_of path < key_of (entry ∷ path)
child_above entry path p child below =
    let both = inferior_within (entry ∷ path) path child p below in
    let from = both.0 in
    let a = entries path p in
    let b = entries (entry ∷ path) child in
    let few = b.few in
    let depth = b.depth in
    omega (arith, from, few, depth)
