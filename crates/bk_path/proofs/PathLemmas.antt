-- Packing, unpacking and prefixes of paths.
use Rattle.std.proofs.Common.{◌≡◌, ◌≢◌, ℕ, zero, suc, ◌+◌, ◌-◌, ◌*◌, ◌/◌, ◌%◌, ◌^◌, ◌<◌, ◌≤◌, Bool, true, false, ◌&&◌, ◌||◌, List, [], ◌∷◌, ◌++◌}
use Rattle.std.proofs.Common.{length, take, drop, set, reverse, get_or, Option, Some, None, refl, sym, ap, ap₂, subst, ◌∙◌, ◌==◌, nat_eq, nat_le}
use Rattle.std.proofs.Common.{nat_lt, append_assoc, length-take-le, length-drop, take_all, arith}
use Rattle.std.specs.Prelude.{if◌then◌else◌}
use Rattle.std.specs.List.{list_all}
use Rattle.std.specs.Cmp.{both_ways, first_so, second_so}
use Rattle.std.specs.Cmp.Lexicographic.{pointwise, same_text}
use Rattle.std.proofs.lemmas.Bool.{and_from, and_left, and_right, cond-true, cond-false, false_from_ne_true, or_left, or_right}
use Rattle.std.proofs.lemmas.Bool.Decides.{nat_tests}
use Rattle.std.proofs.lemmas.Cmp.{nat_list_eq_equiv}
use Rattle.std.proofs.lemmas.Option.{same_Some}
use Rattle.std.proofs.lemmas.List.{reverse-reverse, length-reverse, reverse-append, take-append-drop, take-take, length-append}
use Rattle.std.proofs.Math.Seq.{take-append_seam}
use Rattle.bk_path.specs.Paths.{Path, IsPath, entries_of, pack, unpack, parent, is_same, is_inferior, IsInferior}
use Rattle.bk_path.specs.Orders.{same_path, is_same-itself}
use Rattle.bk_path.specs.Spelt.{Spells}
use Rattle.bk_path.specs.Packed.{IsPacked, path_of, packed, packed-path_of}
use Rattle.bk_path.specs.declared.path.Path.TheInside.{Inside}

-- what is read where the depth and the entries are known
abbrev unpack_from : ℕ → List ℕ → Option Path
unpack_from depth entries = if nat_le depth 7 && list_all (λ entry. entry == 0) (drop depth entries) then Some (reverse (take depth entries)) else None

-- packing -------------------------------------------------------------------

pub small_at : (xs : List ℕ) (k : ℕ) → list_all (λ entry. nat_lt entry 16) xs ≡ true → get_or xs k 0 < 16
small_at [] k small = omega arith
small_at (x ∷ xs) zero small = let first = first_so (nat_lt x 16) (list_all (λ entry. nat_lt entry 16) xs) small in grind (arith, nat_tests, first)
small_at (x ∷ xs) (suc k) small = small_at xs k (second_so (nat_lt x 16) (list_all (λ entry. nat_lt entry 16) xs) small)

pub small-set : (xs : List ℕ) (k entry : ℕ) → entry < 16 → list_all (λ entry. nat_lt entry 16) xs ≡ true → list_all (λ entry. nat_lt entry 16) (set xs k entry) ≡ true
small-set [] k entry below small = refl
small-set (x ∷ xs) zero entry below small = and_from (nat_lt entry 16) _ (grind (arith, nat_tests, below)) (second_so (nat_lt x 16) _ small)
small-set (x ∷ xs) (suc k) entry below small = and_from (nat_lt x 16) _ (first_so (nat_lt x 16) (list_all (λ entry. nat_lt entry 16) xs) small) (small-set xs k entry below (second_so (nat_lt x 16) _ small))

-- the seven entries of two words that are made of them
entries-words : (depth a b c d e f g : ℕ) → depth ≤ 7 → a < 16 → b < 16 → c < 16 → d < 16 → e < 16 → f < 16 → g < 16 →
    entries_of (4096 * depth + 256 * a + 16 * b + c) (4096 * d + 256 * e + 16 * f + g) ≡ a ∷ b ∷ c ∷ d ∷ e ∷ f ∷ g ∷ []
entries-words depth a b c d e f g deep sa sb sc sd se sf sg = λ i. ea i ∷ eb i ∷ ec i ∷ ed i ∷ ee i ∷ ef i ∷ eg i ∷ []
  where
    ea : (4096 * depth + 256 * a + 16 * b + c) / 256 % 16 ≡ a
    ea = omega arith

    eb : (4096 * depth + 256 * a + 16 * b + c) / 16 % 16 ≡ b
    eb = omega arith

    ec : (4096 * depth + 256 * a + 16 * b + c) % 16 ≡ c
    ec = omega arith

    ed : (4096 * d + 256 * e + 16 * f + g) / 4096 ≡ d
    ed = omega arith

    ee : (4096 * d + 256 * e + 16 * f + g) / 256 % 16 ≡ e
    ee = omega arith

    ef : (4096 * d + 256 * e + 16 * f + g) / 16 % 16 ≡ f
    ef = omega arith

    eg : (4096 * d + 256 * e + 16 * f + g) % 16 ≡ g
    eg = omega arith

depth-word : (depth a b c : ℕ) → depth ≤ 7 → a < 16 → b < 16 → c < 16 → (4096 * depth + 256 * a + 16 * b + c) / 4096 ≡ depth
depth-word depth a b c deep sa sb sc = omega arith

abbrev seven_of : List ℕ → List ℕ
seven_of xs = get_or xs 0 0 ∷ get_or xs 1 0 ∷ get_or xs 2 0 ∷ get_or xs 3 0 ∷ get_or xs 4 0 ∷ get_or xs 5 0 ∷ get_or xs 6 0 ∷ []

-- the first word of a depth and seven entries, and the second of the entries
abbrev pub first_of : ℕ → List ℕ → ℕ
first_of depth xs = 4096 * depth + 256 * get_or xs 0 0 + 16 * get_or xs 1 0 + get_or xs 2 0

abbrev pub second_of : List ℕ → ℕ
second_of xs = 4096 * get_or xs 3 0 + 256 * get_or xs 4 0 + 16 * get_or xs 5 0 + get_or xs 6 0

pub entries-of : (depth : ℕ) (xs : List ℕ) → depth ≤ 7 → list_all (λ entry. nat_lt entry 16) xs ≡ true → entries_of (first_of depth xs) (second_of xs) ≡ seven_of xs
entries-of depth xs deep small = entries-words depth _ _ _ _ _ _ _ deep (small_at xs 0 small) (small_at xs 1 small) (small_at xs 2 small) (small_at xs 3 small) (small_at xs 4 small) (small_at xs 5 small) (small_at xs 6 small)

pub depth-of : (depth : ℕ) (xs : List ℕ) → depth ≤ 7 → list_all (λ entry. nat_lt entry 16) xs ≡ true → first_of depth xs / 4096 ≡ depth
depth-of depth xs deep small = depth-word depth _ _ _ deep (small_at xs 0 small) (small_at xs 1 small) (small_at xs 2 small)

-- seven entries are themselves
seven-itself : (xs : List ℕ) → length xs ≡ 7 → seven_of xs ≡ xs
seven-itself [] is = absurd (omega arith)
seven-itself (a ∷ []) is = absurd (omega arith)
seven-itself (a ∷ b ∷ []) is = absurd (omega arith)
seven-itself (a ∷ b ∷ c ∷ []) is = absurd (omega arith)
seven-itself (a ∷ b ∷ c ∷ d ∷ []) is = absurd (omega arith)
seven-itself (a ∷ b ∷ c ∷ d ∷ e ∷ []) is = absurd (omega arith)
seven-itself (a ∷ b ∷ c ∷ d ∷ e ∷ f ∷ []) is = absurd (omega arith)
seven-itself (a ∷ b ∷ c ∷ d ∷ e ∷ f ∷ g ∷ []) is = refl
seven-itself (a ∷ b ∷ c ∷ d ∷ e ∷ f ∷ g ∷ h ∷ xs) is = absurd (omega arith)

-- the words of seven entries, with zeros from the depth on, are packed
pub words-IsPacked : (depth : ℕ) (xs : List ℕ) → depth ≤ 7 → length xs ≡ 7 → list_all (λ entry. nat_lt entry 16) xs ≡ true → list_all (λ entry. entry == 0) (drop depth xs) ≡ true →
    IsPacked (record { first = first_of depth xs; second = second_of xs })
words-IsPacked depth xs deep seven small zeros = record {
  first = let a = small_at xs 0 small in let b = small_at xs 1 small in let c = small_at xs 2 small in omega (arith, a, b, c, deep);
  second = let a = small_at xs 3 small in let b = small_at xs 4 small in let c = small_at xs 5 small in let d = small_at xs 6 small in omega (arith, a, b, c, d);
  depth = subst (λ n. n ≤ 7) (sym (depth-of depth xs deep small)) deep;
  zeros = ap₂ (λ n ys. list_all (λ entry. entry == 0) (drop n ys)) (depth-of depth xs deep small) (entries-of depth xs deep small ∙ seven-itself xs seven) ∙ zeros;
}

pub path_of-words : (depth : ℕ) (xs : List ℕ) → depth ≤ 7 → length xs ≡ 7 → list_all (λ entry. nat_lt entry 16) xs ≡ true →
    path_of (record { first = first_of depth xs; second = second_of xs }) ≡ reverse (take depth xs)
path_of-words depth xs deep seven small = ap₂ (λ n ys. reverse (take n ys)) (depth-of depth xs deep small) (entries-of depth xs deep small ∙ seven-itself xs seven)

-- the words of a value are those of its path
pub words-pack : (words : Inside) → IsPacked words → (words.first, words.second) ≡ pack (path_of words)
words-pack words is = λ i. ((sym (packed-path_of words is) i).first, (sym (packed-path_of words is) i).second)

front_of : (xs : List ℕ) → length xs ≤ 7 → take (length xs) (seven_of xs) ≡ xs
front_of [] few = refl
front_of (a ∷ []) few = refl
front_of (a ∷ b ∷ []) few = refl
front_of (a ∷ b ∷ c ∷ []) few = refl
front_of (a ∷ b ∷ c ∷ d ∷ []) few = refl
front_of (a ∷ b ∷ c ∷ d ∷ e ∷ []) few = refl
front_of (a ∷ b ∷ c ∷ d ∷ e ∷ f ∷ []) few = refl
front_of (a ∷ b ∷ c ∷ d ∷ e ∷ f ∷ g ∷ []) few = refl
front_of (a ∷ b ∷ c ∷ d ∷ e ∷ f ∷ g ∷ h ∷ xs) few = absurd (omega arith)

rest_of : (xs : List ℕ) → length xs ≤ 7 → list_all (λ entry. entry == 0) (drop (length xs) (seven_of xs)) ≡ true
rest_of [] few = refl
rest_of (a ∷ []) few = refl
rest_of (a ∷ b ∷ []) few = refl
rest_of (a ∷ b ∷ c ∷ []) few = refl
rest_of (a ∷ b ∷ c ∷ d ∷ []) few = refl
rest_of (a ∷ b ∷ c ∷ d ∷ e ∷ []) few = refl
rest_of (a ∷ b ∷ c ∷ d ∷ e ∷ f ∷ []) few = refl
rest_of (a ∷ b ∷ c ∷ d ∷ e ∷ f ∷ g ∷ []) few = refl
rest_of (a ∷ b ∷ c ∷ d ∷ e ∷ f ∷ g ∷ h ∷ xs) few = absurd (omega arith)

small-append : (xs ys : List ℕ) → list_all (λ entry. nat_lt entry 16) xs ≡ true → list_all (λ entry. nat_lt entry 16) ys ≡ true → list_all (λ entry. nat_lt entry 16) (xs ++ ys) ≡ true
small-append [] ys small also = also
small-append (x ∷ xs) ys small also = and_from (nat_lt x 16) _ (first_so (nat_lt x 16) _ small) (small-append xs ys (second_so (nat_lt x 16) _ small) also)

small-reverse : (xs : List ℕ) → list_all (λ entry. nat_lt entry 16) xs ≡ true → list_all (λ entry. nat_lt entry 16) (reverse xs) ≡ true
small-reverse [] small = refl
small-reverse (x ∷ xs) small = subst (λ ys. list_all (λ entry. nat_lt entry 16) ys ≡ true) (sym (reverse-append (x ∷ []) xs)) (small-append (reverse xs) (x ∷ []) (small-reverse xs (second_so (nat_lt x 16) _ small)) (and_from (nat_lt x 16) true (first_so (nat_lt x 16) _ small) refl))

-- what a path packs to is read as the path
pub unpack-pack : (path : Path) → IsPath path → unpack (pack path).0 (pack path).1 ≡ Some path
unpack-pack path is =
    ap₂ unpack_from (depth-of (length path) (reverse path) deep small) (entries-of (length path) (reverse path) deep small)
    ∙ ap (λ n. unpack_from n (seven_of (reverse path))) (sym (length-reverse path))
    ∙ cond-true (nat_le (length (reverse path)) 7 && list_all (λ entry. entry == 0) (drop (length (reverse path)) (seven_of (reverse path)))) (Some (reverse (take (length (reverse path)) (seven_of (reverse path))))) None
    (and_from (nat_le (length (reverse path)) 7) _ (let few = deep_reverse in grind (arith, nat_tests, few)) (rest_of (reverse path) deep_reverse))
    ∙ ap (λ xs. Some (reverse xs)) (front_of (reverse path) deep_reverse)
    ∙ ap Some (reverse-reverse path)
  where
    deep : length path ≤ 7
    deep = let le = first_so (nat_le (length path) 7) (list_all (λ entry. nat_lt entry 16) path) is in grind (arith, nat_tests, le)

    deep_reverse : length (reverse path) ≤ 7
    deep_reverse = subst (λ n. n ≤ 7) (sym (length-reverse path)) deep

    small : list_all (λ entry. nat_lt entry 16) (reverse path) ≡ true
    small = small-reverse path (second_so (nat_le (length path) 7) (list_all (λ entry. nat_lt entry 16) path) is)

-- two words that are read as no path are packed from none
pub nothing-packs : (first second : ℕ) → unpack first second ≡ None → (path : Path) → IsPath path → pack path ≡ (first, second) → ⊥
nothing-packs first second none path is packs = cc (sym (unpack-pack path is) ∙ (λ i. unpack (packs i).0 (packs i).1) ∙ none)

pub unpack-deep : (first second : ℕ) → 7 < first / 4096 → unpack first second ≡ None
unpack-deep first second deep = cond-false _ _ _ (and_left (nat_le (first / 4096) 7) _ (grind (arith, nat_tests, deep)))

pub unpack-rest : (first second : ℕ) → list_all (λ entry. entry == 0) (drop (first / 4096) (entries_of first second)) ≡ false → unpack first second ≡ None
unpack-rest first second rest = cond-false _ _ _ (and_right (nat_le (first / 4096) 7) _ rest)

pub unpack-words : (words : Inside) → IsPacked words → unpack words.first words.second ≡ Some (path_of words)
unpack-words words is = cond-true (nat_le (words.first / 4096) 7 && list_all (λ entry. entry == 0) (drop (words.first / 4096) (entries_of words.first words.second))) _ _ (and_from (nat_le (words.first / 4096) 7) _ (let deep = is.depth in grind (arith, nat_tests, deep)) is.zeros)

-- paths that pack to the same words are the same
pub pack-injective : (p q : Path) → IsPath p → IsPath q → pack p ≡ pack q → p ≡ q
pack-injective p q is also same = same_Some _ _ (sym (unpack-pack p is) ∙ (λ i. unpack (same i).0 (same i).1) ∙ unpack-pack q also)

-- the words of two values are the same exactly where their paths are
pub same_words : (v w : Inside) → IsPacked v → IsPacked w → (nat_eq v.first w.first && nat_eq v.second w.second) ≡ is_same (path_of v) (path_of w)
same_words v w is also = both_ways _ _
    (λ e. let first = same_number (first_so (nat_eq v.first w.first) _ e) in
    let second = same_number (second_so (nat_eq v.first w.first) _ e) in
    subst (λ p. is_same (path_of v) p ≡ true) (λ i. path_of (record { first = first i; second = second i })) (is_same-itself (path_of v)))
    (λ e. let same = sym (packed-path_of v is) ∙ ap packed (same_path (path_of v) (path_of w) e) ∙ packed-path_of w also in
    and_from (nat_eq v.first w.first) _ (number_same (ap (λ x. x.first) same)) (number_same (ap (λ x. x.second) same)))
  where
    same_number : {a b : ℕ} → nat_eq a b ≡ true → a ≡ b
    same_number {a} {b} e = grind (arith, nat_tests, e)

    number_same : {a b : ℕ} → a ≡ b → nat_eq a b ≡ true
    number_same {a} {b} e = grind (arith, nat_tests, e)

-- is_inferior ---------------------------------------------------------------

pub IsInferior-from : (path of : Path) → is_inferior path of ≡ true → IsInferior path of
IsInferior-from [] of is = ([], sym (same_path [] of is))
IsInferior-from (entry ∷ path) of is = by (is_same (entry ∷ path) of) refl is (IsInferior-from path of)
  where
    by : (b : Bool) → is_same (entry ∷ path) of ≡ b → (b || is_inferior path of) ≡ true → (is_inferior path of ≡ true → IsInferior path of) → IsInferior (entry ∷ path) of
    by true same here rest = ([], sym (same_path (entry ∷ path) of same))
    by false same here rest = let (below, whole) = rest here in (entry ∷ below, ap (λ p. entry ∷ p) whole)

is_inferior-itself : (path : Path) → is_inferior path path ≡ true
is_inferior-itself [] = is_same-itself []
is_inferior-itself (entry ∷ path) = or_left (is_same (entry ∷ path) (entry ∷ path)) (is_inferior path (entry ∷ path)) (is_same-itself (entry ∷ path))

pub is_inferior-append : (below of : List ℕ) → is_inferior (below ++ of) of ≡ true
is_inferior-append [] of = is_inferior-itself of
is_inferior-append (entry ∷ below) of = or_right (is_same (entry ∷ (below ++ of)) of) (is_inferior (below ++ of) of) (is_inferior-append below of)

pub is_inferior-from : (path of : Path) → IsInferior path of → is_inferior path of ≡ true
is_inferior-from path of (below, whole) = subst (λ p. is_inferior p of ≡ true) whole (is_inferior-append below of)

-- a front of the entries, and what follows it
front-rebuilt : (path of : Path) → take (length of) (reverse path) ≡ reverse of → reverse (drop (length of) (reverse path)) ++ of ≡ path
front-rebuilt path of e =
    ap (λ xs. reverse (drop (length of) (reverse path)) ++ xs) (sym (reverse-reverse of) ∙ ap reverse (sym e))
    ∙ sym (reverse-append (take (length of) (reverse path)) (drop (length of) (reverse path)))
    ∙ ap reverse (take-append-drop (length of) (reverse path))
    ∙ reverse-reverse path

front-append : (below of : Path) → take (length of) (reverse (below ++ of)) ≡ reverse of
front-append below of = ap (take (length of)) (reverse-append below of) ∙ ap (λ n. take n (reverse of ++ reverse below)) (sym (length-reverse of)) ∙ take-append_seam (reverse of) (reverse below)

-- the first entries are the other's exactly where the path is inferior to it
pub is_inferior-front : (path of : Path) → length of ≤ length path → pointwise nat_eq (take (length of) (reverse path)) (reverse of) ≡ is_inferior path of
is_inferior-front path of short = both_ways _ _
    (λ e. is_inferior-from path of (reverse (drop (length of) (reverse path)), front-rebuilt path of (same_text _ _ (sym e))))
    (λ e. let (below, whole) = IsInferior-from path of e in
    subst (λ p. pointwise nat_eq (take (length of) (reverse p)) (reverse of) ≡ true) whole
    (subst (λ xs. pointwise nat_eq xs (reverse of) ≡ true) (sym (front-append below of)) (nat_list_eq_equiv.refl (reverse of))))

-- a path is inferior to another exactly where the other's entries are its front, from root on
pub inferior-front : (path of : Path) → (IsInferior path of → take (length of) (reverse path) ≡ reverse of) × (take (length of) (reverse path) ≡ reverse of → IsInferior path of)
inferior-front path of =
    (λ (below, whole). subst (λ p. take (length of) (reverse p) ≡ reverse of) whole (front-append below of), λ front. (reverse (drop (length of) (reverse path)), front-rebuilt path of front))

pub is_inferior-short : (path of : Path) → length path < length of → is_inferior path of ≡ false
is_inferior-short path of short = false_from_ne_true (is_inferior path of) (λ e. let (below, whole) = IsInferior-from path of e in let long = length-append below of in let same = ap length whole in absurd (omega (arith, short, long, same)))

pub inferior_both : (path of : Path) (found : Bool) → found ≡ is_inferior path of → (found ≡ true → IsInferior path of) × (IsInferior path of → found ≡ true)
inferior_both path of found is = (λ e. IsInferior-from path of (sym is ∙ e), λ below. is ∙ is_inferior-from path of below)

-- the path without the last of its entries
pub parent-front : (path : Path) (entries : List ℕ) → 1 ≤ length path → take (length path) entries ≡ reverse path → reverse (take (length path - 1) entries) ≡ parent path
parent-front [] entries some front = absurd (omega arith)
parent-front (entry ∷ path) entries some front =
    ap (λ n. reverse (take n entries)) (omega arith)
    ∙ ap reverse (sym (take-take (length path) (suc (length path)) entries (omega arith)) ∙ ap (take (length path)) (front ∙ reverse-append (entry ∷ []) path) ∙ ap (λ n. take n (reverse path ++ entry ∷ [])) (sym (length-reverse path)) ∙ take-append_seam (reverse path) (entry ∷ []))
    ∙ reverse-reverse path

small-take : (n : ℕ) (xs : List ℕ) → list_all (λ entry. nat_lt entry 16) xs ≡ true → list_all (λ entry. nat_lt entry 16) (take n xs) ≡ true
small-take zero xs small = refl
small-take (suc n) [] small = refl
small-take (suc n) (x ∷ xs) small = and_from (nat_lt x 16) _ (first_so (nat_lt x 16) _ small) (small-take n xs (second_so (nat_lt x 16) _ small))

below : (n : ℕ) → n < 16 → nat_lt n 16 ≡ true
below n lt = grind (arith, nat_tests, lt)

small-entries_of : (first second : ℕ) → second < 2 ^ 16 → list_all (λ entry. nat_lt entry 16) (entries_of first second) ≡ true
small-entries_of first second small =
    and_from _ _ (below (first / 256 % 16) (omega arith)) (and_from _ _ (below (first / 16 % 16) (omega arith)) (and_from _ _ (below (first % 16) (omega arith))
    (and_from _ _ (below (second / 4096) (omega arith)) (and_from _ _ (below (second / 256 % 16) (omega arith)) (and_from _ _ (below (second / 16 % 16) (omega arith)) (and_from _ _ (below (second % 16) (omega arith)) refl))))))

-- what two words are read as is a path
pub path_of-IsPath : (words : Inside) → IsPacked words → IsPath (path_of words)
path_of-IsPath words is = and_from (nat_le (length (path_of words)) 7) _ short (small-reverse (take (words.first / 4096) (entries_of words.first words.second)) (small-take (words.first / 4096) (entries_of words.first words.second) (small-entries_of words.first words.second is.second)))
  where
    short : nat_le (length (path_of words)) 7 ≡ true
    short =
        let same = length-reverse (take (words.first / 4096) (entries_of words.first words.second)) ∙ length-take-le (words.first / 4096) (entries_of words.first words.second) is.depth in
        let deep = is.depth in
        let le : length (path_of words) ≤ 7 = omega (arith, same, deep) in
        grind (arith, nat_tests, le)

-- what is read as a path is packed from it
pub pack-unpack : (first second : ℕ) (path : Path) → first < 2 ^ 16 → second < 2 ^ 16 → unpack first second ≡ Some path → (pack path ≡ (first, second)) × IsPath path
pack-unpack first second path small_first small_second e = by (nat_le (first / 4096) 7) refl (list_all (λ entry. entry == 0) (drop (first / 4096) (entries_of first second))) refl e
  where
    by : (a : Bool) → nat_le (first / 4096) 7 ≡ a → (b : Bool) → list_all (λ entry. entry == 0) (drop (first / 4096) (entries_of first second)) ≡ b →
        (if a && b then Some (reverse (take (first / 4096) (entries_of first second))) else None) ≡ Some path → (pack path ≡ (first, second)) × IsPath path
    by true deep true zeros is =
        let packed_words : IsPacked (record { first = first; second = second }) = record { first = small_first; second = small_second; depth = grind (arith, nat_tests, deep); zeros = zeros } in
        let same = same_Some _ _ is in
        (ap pack (sym same) ∙ sym (words-pack (record { first = first; second = second }) packed_words), subst IsPath same (path_of-IsPath (record { first = first; second = second }) packed_words))
    by true deep false zeros is = cc
    by false deep b zeros is = cc

-- a prefix of a prefix is a prefix
pub IsInferior-trans : (a b c : Path) → IsInferior a b → IsInferior b c → IsInferior a c
IsInferior-trans a b c (above, whole) (below, rest) = (above ++ below, append_assoc above below c ∙ ap (λ xs. above ++ xs) rest ∙ whole)

-- a path that isn't root is a child of its parent
pub child-parent : (path : Path) → path ≢ [] → (entry : ℕ) × (entry ∷ parent path ≡ path)
child-parent [] some = absurd (some refl)
child-parent (entry ∷ path) some = (entry, refl)

-- where the other is no longer, the fronts of the entries decide
pub inferior-fronts : (path of : Path) (mine its : List ℕ) (n : ℕ) → Spells mine path → Spells its of → n ≡ length of → n ≤ length path → pointwise nat_eq (take n mine) (take n its) ≡ is_inferior path of
inferior-fronts path of mine its n spells_path spells_of same short =
    ap₂ (λ xs ys. pointwise nat_eq xs ys)
    (sym (take-take n (length path) mine short) ∙ ap (take n) spells_path.front ∙ ap (λ k. take k (reverse path)) same)
    (ap (λ k. take k its) same ∙ spells_of.front)
    ∙ is_inferior-front path of (subst (λ k. k ≤ length path) same short)

-- the whole of what stands from a place on
pub whole-rest : (n : ℕ) (xs : List ℕ) → length xs ≡ 7 → take (7 - n) (drop n xs) ≡ drop n xs
whole-rest n xs seven = take_all (7 - n) (drop n xs) (let rest = length-drop n xs in omega (arith, rest, seven))
