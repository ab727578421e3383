-- One mask has all bits of another exactly where the categories are so.
use Rattle.std.proofs.Common.{◌≡◌, ℕ, ◌<◌, ◌≤◌, ◌^◌, ◌+◌, ◌*◌, zero, suc, Bool, true, false, cond, ◌&&◌, ◌||◌, List, [], ◌∷◌, filter, refl, sym, ap, ◌∙◌, subst, ◌==◌, min}
use Rattle.std.proofs.Common.{nat_le, nat_lt, arith, ◌⊎◌, inl, inr}
use Rattle.std.specs.Prelude.{bit_and, length, slice_index_or}
use Rattle.std.specs.Int.{bit_at}
use Rattle.std.specs.List.{list_all}
use Rattle.std.specs.Cmp.{both_ways}
use Rattle.std.proofs.lemmas.Bool.Decides.{nat_tests}
use Rattle.std.proofs.lemmas.Nat.{and_le_l, and_comm}
use Rattle.std.proofs.lemmas.Nat.Bits.{bit_at_and, same_from_bits_below, bit_at-lt, bit_at_above, bit_at_cat_low}
use Rattle.bk_level.proofs.LevelOrder.{contains, all_from, all_at, and_first, and_second, and_both, dominates-from, Dominates-from, both-from_same}
use Rattle.bk_level.proofs.LevelOrder.{is_same_level-itself}
use Rattle.bk_level.specs.Levels.{Level, Dominates, dominates, has_only_below, is_same_level}
use Rattle.bk_level.specs.Masks.{categories_of, mask_in, numbers_from, level_of, FitsFields}
use Rattle.bk_level.specs.declared.level.Level.TheInside.{Inside}

contains-filter : (p : ℕ → Bool) (xs : List ℕ) (c : ℕ) → contains c (filter p xs) ≡ (contains c xs && p c)
contains-filter p [] c = refl
contains-filter p (x ∷ xs) c = by (p x) refl (c == x) refl (contains-filter p xs c)
  where
    same : (c == x) ≡ true → p x ≡ p c
    same e = ap p (grind (arith, nat_tests, e))

    by : (a : Bool) → p x ≡ a → (b : Bool) → (c == x) ≡ b → contains c (filter p xs) ≡ (contains c xs && p c) → contains c (cond a (x ∷ filter p xs) (filter p xs)) ≡ (((c == x) || contains c xs) && p c)
    by true is true eq rest = rw eq (sym (sym (same eq) ∙ is))
    by true is false eq rest = rw eq rest
    by false is true eq rest = rw (eq, rest) (no_c (contains c xs) (sym (same eq) ∙ is))
      where
        no_c : (a : Bool) → p c ≡ false → (a && p c) ≡ p c
        no_c true e = refl
        no_c false e = sym e
    by false is false eq rest = rw eq rest

eq_true : (a b : ℕ) → a ≡ b → (a == b) ≡ true
eq_true a b e = grind (arith, nat_tests, e)

eq_from : (a b : ℕ) → (a == b) ≡ true → a ≡ b
eq_from a b e = grind (arith, nat_tests, e)

-- n numbers from the first one on are those from it up to the n-th after it
in_numbers : (n first c : ℕ) → first ≤ c → c < first + n → contains c (numbers_from first n) ≡ true
in_numbers zero first c from lt = absurd (omega (arith, from, lt))
in_numbers (suc n) first c from lt = by (c == first) refl (λ later. in_numbers n (suc first) c later (omega (arith, lt)))
  where
    by : (b : Bool) → (c == first) ≡ b → (suc first ≤ c → contains c (numbers_from (suc first) n) ≡ true) → (b || contains c (numbers_from (suc first) n)) ≡ true
    by true e later = refl
    by false e later = later (grind (arith, nat_tests, e, from))

numbers_in : (n first c : ℕ) → contains c (numbers_from first n) ≡ true → c < first + n
numbers_in zero first c here = cc
numbers_in (suc n) first c here = by (c == first) refl here (numbers_in n (suc first) c)
  where
    by : (b : Bool) → (c == first) ≡ b → (b || contains c (numbers_from (suc first) n)) ≡ true → (contains c (numbers_from (suc first) n) ≡ true → c < suc first + n) → c < first + suc n
    by true e here later = let same = eq_from c first e in omega (arith, same)
    by false e here later = let below = later here in omega (arith, below)

-- a category is the place of a bit below 48
has_bit : (mask c : ℕ) → contains c (categories_of mask) ≡ true → (c < 48) × (bit_at mask c ≡ 1)
unfolding categories_of
has_bit mask c here =
    let both = sym (contains-filter (λ k. bit_at mask k == 1) (numbers_from 0 48) c) ∙ here in
    (numbers_in 48 0 c (and_first (contains c (numbers_from 0 48)) _ both), eq_from (bit_at mask c) 1 (and_second (contains c (numbers_from 0 48)) _ both))

bit_has : (mask c : ℕ) → c < 48 → bit_at mask c ≡ 1 → contains c (categories_of mask) ≡ true
unfolding categories_of
bit_has mask c lt bit = contains-filter (λ k. bit_at mask k == 1) (numbers_from 0 48) c ∙ and_both _ _ (in_numbers 48 0 c (omega arith) lt) (eq_true (bit_at mask c) 1 bit)

pub within_mask : (a b : ℕ) → a < 2 ^ 48 → b < 2 ^ 48 → (bit_and b a == b) ≡ list_all (λ c. contains c (categories_of a)) (categories_of b)
within_mask a b small_a small_b = both_ways _ _ there back
  where
    there : (bit_and b a == b) ≡ true → list_all (λ c. contains c (categories_of a)) (categories_of b) ≡ true
    there e = all_from (λ c. contains c (categories_of a)) (categories_of b) (λ c h. let (lt, bit) = has_bit b c h in bit_has a c lt (one c bit))
      where
        one : (c : ℕ) → bit_at b c ≡ 1 → bit_at a c ≡ 1
        one c bit =
            let cut : min (bit_at b c) (bit_at a c) ≡ bit_at b c = sym (bit_at_and b a c) ∙ ap (λ n. bit_at n c) (eq_from (bit_and b a) b e) in
            let small : bit_at a c < 2 = bit_at-lt a c in
            omega arith

    back : list_all (λ c. contains c (categories_of a)) (categories_of b) ≡ true → (bit_and b a == b) ≡ true
    back all = eq_true (bit_and b a) b (same_from_bits_below 48 (bit_and b a) b (omega (arith, and_le_l b a)) small_b (λ i lt. bit_at_and b a i ∙ bits i lt))
      where
        bits : (i : ℕ) → i < 48 → min (bit_at b i) (bit_at a i) ≡ bit_at b i
        bits i lt = elim (bit_cases i) [ inl zero_bit ↦ omega arith | inr one_bit ↦ let has = (has_bit a i (all_at (λ c. contains c (categories_of a)) (categories_of b) i all (bit_has b i lt one_bit))).1 in omega arith ]
          where
            bit_cases : (i : ℕ) → (bit_at b i ≡ 0) ⊎ (bit_at b i ≡ 1)
            bit_cases i = let small : bit_at b i < 2 = bit_at-lt b i in grind arith

-- all categories are below 16 exactly where all words but the first are zero
pub only_first : (x y z : ℕ) → x < 2 ^ 16 → y < 2 ^ 16 → z < 2 ^ 16 →
    ((y == 0) && (z == 0)) ≡ list_all (λ c. nat_lt c 16) (categories_of (mask_in (x ∷ y ∷ z ∷ [])))
only_first x y z small_x small_y small_z = both_ways _ _ there back
  where
    mask : ℕ
    mask = mask_in (x ∷ y ∷ z ∷ [])

    there : ((y == 0) && (z == 0)) ≡ true → list_all (λ c. nat_lt c 16) (categories_of mask) ≡ true
    there none = all_from (λ c. nat_lt c 16) (categories_of mask) (λ c h. one c (has_bit mask c h).1 (nat_lt c 16) refl)
      where
        small : mask < 2 ^ 16
        small =
            let second = eq_from y 0 (and_first (y == 0) (z == 0) none) in
            let third = eq_from z 0 (and_second (y == 0) (z == 0) none) in
            omega (arith, second, third, small_x)

        one : (c : ℕ) → bit_at mask c ≡ 1 → (b : Bool) → nat_lt c 16 ≡ b → nat_lt c 16 ≡ true
        one c bit true e = e
        one c bit false e = let above = bit_at_above mask 16 c small (grind (arith, nat_tests, e)) in absurd (omega (arith, bit, above))

    back : list_all (λ c. nat_lt c 16) (categories_of mask) ≡ true → ((y == 0) && (z == 0)) ≡ true
    back all = and_both (y == 0) (z == 0) (eq_true y 0 (omega (arith, whole, small_x))) (eq_true z 0 (omega (arith, whole, small_x)))
      where
        whole : mask ≡ x
        whole = same_from_bits_below 48 mask x (omega (arith, small_x, small_y, small_z)) (omega (arith, small_x)) (λ i lt. bits i lt (nat_lt i 16) refl)
          where
            cut : mask ≡ (y + z * 2 ^ 16) * 2 ^ 16 + x
            cut = omega arith

            bits : (i : ℕ) → i < 48 → (b : Bool) → nat_lt i 16 ≡ b → bit_at mask i ≡ bit_at x i
            bits i lt true e = ap (λ n. bit_at n i) cut ∙ bit_at_cat_low (y + z * 2 ^ 16) 16 x i (grind (arith, nat_tests, e))
            bits i lt false e = zero_bit (bit_at mask i) refl ∙ sym (bit_at_above x 16 i small_x (grind (arith, nat_tests, e)))
              where
                no : false ≡ true → ⊥
                no h = cc

                zero_bit : (n : ℕ) → bit_at mask i ≡ n → n ≡ 0
                zero_bit zero h = refl
                zero_bit (suc n) h =
                    let small = bit_at-lt mask i in
                    let one : bit_at mask i ≡ 1 = omega (arith, h, small) in
                    let low = all_at (λ c. nat_lt c 16) (categories_of mask) i all (bit_has mask i lt one) in
                    absurd (no (sym e ∙ low))

-- where the class is high enough the masks decide
pub dominates_by_masks : (x y a b : ℕ) → y ≤ x → a < 2 ^ 48 → b < 2 ^ 48 → (bit_and b a == b) ≡ dominates (record { class = x; categories = categories_of a }) (record { class = y; categories = categories_of b })
dominates_by_masks x y a b le small_a small_b = within_mask a b small_a small_b ∙ first (nat_le y x) (grind (arith, nat_tests, le))
  where
    first : (t : Bool) → t ≡ true → list_all (λ c. contains c (categories_of a)) (categories_of b) ≡ (t && list_all (λ c. contains c (categories_of a)) (categories_of b))
    first true e = refl
    first false e = cc

-- a level by its mask
pub dominates_where : (above below : Level) (a b again : ℕ) → below.class ≤ above.class → a < 2 ^ 48 → b < 2 ^ 48 →
    above.categories ≡ categories_of a → below.categories ≡ categories_of b → again ≡ b → (bit_and b a == again) ≡ dominates above below
dominates_where above below a b again le small_a small_b is_a is_b same =
    ap (λ n. bit_and b a == n) same
    ∙ dominates_by_masks above.class below.class a b le small_a small_b
    ∙ (λ i. dominates (record { class = above.class; categories = sym is_a i }) (record { class = below.class; categories = sym is_b i }))

-- two levels of masks that dominate each other are the same
pub same_from_both : (x y a b : ℕ) → a < 2 ^ 48 → b < 2 ^ 48 →
    Dominates (record { class = x; categories = categories_of a }) (record { class = y; categories = categories_of b }) →
    Dominates (record { class = y; categories = categories_of b }) (record { class = x; categories = categories_of a }) →
    (x ≡ y) × (a ≡ b)
same_from_both x y a b small_a small_b up down =
    let le = up.class in
    let ge = down.class in
    let same_class : x ≡ y = omega (arith, le, ge) in
    let b_in_a = eq_from (bit_and b a) b (dominates_by_masks x y a b le small_a small_b ∙ dominates-from _ _ up) in
    let a_in_b = eq_from (bit_and a b) a (dominates_by_masks y x b a ge small_b small_a ∙ dominates-from _ _ down) in
    (same_class, sym a_in_b ∙ and_comm a b ∙ b_in_a)

pub level_same : (x y a b : ℕ) → (x ≡ y) × (a ≡ b) →
    (let level : Level = record { class = x; categories = categories_of a } in level) ≡ record { class = y; categories = categories_of b }
level_same x y a b same = λ i. record { class = same.0 i; categories = categories_of (same.1 i) }

-- two levels of masks are the same exactly where class and mask are
pub same_levels : (x y a b : ℕ) → a < 2 ^ 48 → b < 2 ^ 48 →
    ((x == y) && (a == b)) ≡ is_same_level (record { class = x; categories = categories_of a }) (record { class = y; categories = categories_of b })
same_levels x y a b small_a small_b = both_ways _ _ there back
  where
    one : Level
    one = record { class = x; categories = categories_of a }

    other : Level
    other = record { class = y; categories = categories_of b }

    there : ((x == y) && (a == b)) ≡ true → is_same_level one other ≡ true
    there both = subst (λ level. is_same_level one level ≡ true) (level_same x y a b (eq_from x y (and_first (x == y) (a == b) both), eq_from a b (and_second (x == y) (a == b) both))) (is_same_level-itself one)

    back : is_same_level one other ≡ true → ((x == y) && (a == b)) ≡ true
    back same =
        let (up, down) = both-from_same one other same in
        let (class, mask) = same_from_both x y a b small_a small_b (Dominates-from one other up) (Dominates-from other one down) in
        and_both (x == y) (a == b) (eq_true x y class) (eq_true a b mask)

-- where the classes are the same the masks decide
pub same_where : (one other : Level) (a b : ℕ) → one.class ≡ other.class → a < 2 ^ 48 → b < 2 ^ 48 → one.categories ≡ categories_of a → other.categories ≡ categories_of b →
    (a == b) ≡ is_same_level one other
same_where one other a b same small_a small_b is_a is_b =
    first (one.class == other.class) (eq_true one.class other.class same)
    ∙ same_levels one.class other.class a b small_a small_b
    ∙ (λ i. is_same_level (record { class = one.class; categories = sym is_a i }) (record { class = other.class; categories = sym is_b i }))
  where
    first : (t : Bool) → t ≡ true → (a == b) ≡ (t && (a == b))
    first true e = refl
    first false e = cc

-- three words by their places
pub three_words : (words : List ℕ) → length words ≡ 3 → slice_index_or words 0 0 ∷ slice_index_or words 1 0 ∷ slice_index_or words 2 0 ∷ [] ≡ words
three_words [] three = absurd (omega arith)
three_words (x ∷ []) three = absurd (omega arith)
three_words (x ∷ y ∷ []) three = absurd (omega arith)
three_words (x ∷ y ∷ z ∷ []) three = refl
three_words (x ∷ y ∷ z ∷ u ∷ words) three = absurd (omega arith)

-- the mask as a sum of its words
pub mask_in-three : (words : List ℕ) → length words ≡ 3 → slice_index_or words 0 0 + slice_index_or words 1 0 * 65536 + slice_index_or words 2 0 * 4294967296 ≡ mask_in words
mask_in-three words three = sum (slice_index_or words 0 0) (slice_index_or words 1 0) (slice_index_or words 2 0) ∙ ap mask_in (three_words words three)
  where
    sum : (x y z : ℕ) → x + y * 65536 + z * 4294967296 ≡ mask_in (x ∷ y ∷ z ∷ [])
    sum x y z = omega arith

-- all categories are below 16 exactly where the second word and the third are zero
pub only_first-words : (fields : Inside) → FitsFields fields →
    ((slice_index_or fields.cats 1 0 == 0) && (slice_index_or fields.cats 2 0 == 0)) ≡ has_only_below 16 (level_of fields)
only_first-words fields fits =
    only_first (slice_index_or fields.cats 0 0) (slice_index_or fields.cats 1 0) (slice_index_or fields.cats 2 0) fits.first fits.second fits.third
    ∙ ap (λ words. list_all (λ c. nat_lt c 16) (categories_of (mask_in words))) (three_words fields.cats fits.three)

-- where the second word is zero the third decides
pub only_first-then : (fields : Inside) → FitsFields fields → slice_index_or fields.cats 1 0 ≡ 0 → (slice_index_or fields.cats 2 0 == 0) ≡ has_only_below 16 (level_of fields)
only_first-then fields fits none = first (slice_index_or fields.cats 1 0 == 0) (eq_true _ 0 none) ∙ only_first-words fields fits
  where
    first : (t : Bool) → t ≡ true → (slice_index_or fields.cats 2 0 == 0) ≡ (t && (slice_index_or fields.cats 2 0 == 0))
    first true e = refl
    first false e = cc

-- where it isn't it does
pub only_first-else : (fields : Inside) → FitsFields fields → ¬ (slice_index_or fields.cats 1 0 ≡ 0) → (slice_index_or fields.cats 1 0 == 0) ≡ has_only_below 16 (level_of fields)
only_first-else fields fits some = first (slice_index_or fields.cats 1 0 == 0) refl ∙ only_first-words fields fits
  where
    first : (t : Bool) → (slice_index_or fields.cats 1 0 == 0) ≡ t → t ≡ (t && (slice_index_or fields.cats 2 0 == 0))
    first true e = absurd (some (eq_from _ 0 e))
    first false e = refl
