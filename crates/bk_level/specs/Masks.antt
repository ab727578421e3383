-- A level as the fields of the code: a class, and a bit for each category, in three words.
use Rattle.std.specs.Prelude.{◌≡◌, ℕ, zero, suc, ◌+◌, ◌*◌, ◌/◌, ◌%◌, ◌^◌, ◌<◌, List, [], ◌∷◌, length, filter, ◌==◌, Bool, true, false, cond, refl, slice_index_or}
use Rattle.std.specs.Int.{bit_at}
use Rattle.std.proofs.Common.{sym, ap, ◌∙◌, subst, arith}
use Rattle.std.proofs.lemmas.Bool.Decides.{nat_tests}
use Rattle.std.proofs.Math.Nat.{pow-suc, div-div-eq-div-mul}
use Rattle.bk_level.specs.Levels as model
use Rattle.bk_level.specs.declared.level.Level.TheInside.{Inside}

-- n numbers from the first one on
abbrev pub numbers_from : (first n : ℕ) → List ℕ
numbers_from first zero = []
numbers_from first (suc n) = first ∷ numbers_from (suc first) n

-- the places of a mask's bits, the lowest first
unfoldable pub categories_of : ℕ → List ℕ
categories_of mask = filter (λ place. bit_at mask place == 1) (numbers_from 0 48)

-- the mask with a bit at each of the places
abbrev pub mask_of : List ℕ → ℕ
mask_of [] = 0
mask_of (place ∷ places) = 2 ^ place + mask_of places

-- the mask whose words these are, the lowest first
abbrev pub mask_in : List ℕ → ℕ
mask_in [] = 0
mask_in (word ∷ words) = word + 2 ^ 16 * mask_in words

-- the three words of a mask, the lowest first
abbrev pub words_of : ℕ → List ℕ
words_of mask = mask % 2 ^ 16 ∷ mask / 2 ^ 16 % 2 ^ 16 ∷ mask / 2 ^ 32 % 2 ^ 16 ∷ []

-- the level that the fields stand for
abbrev pub level_of : Inside → model.Level
level_of fields = record { class = fields.class; categories = categories_of (mask_in fields.cats) }

-- the fields that stand for a level
abbrev pub fields_of : model.Level → Inside
fields_of level = record { class = level.class; cats = words_of (mask_of level.categories) }

-- the fields are in the ranges of their types
pub record FitsFields (fields : Inside) : Type 0 where
  pub class : fields.class < 2 ^ 8
  pub three : length fields.cats ≡ 3
  pub first : slice_index_or fields.cats 0 0 < 2 ^ 16
  pub second : slice_index_or fields.cats 1 0 < 2 ^ 16
  pub third : slice_index_or fields.cats 2 0 < 2 ^ 16

double : (b half rest p : ℕ) → b + 2 * half ≡ rest → b * p + half * (p * 2) ≡ rest * p
double b half rest p is = omega (arith, ap (λ x. x * p) is)

-- the mask of those places, among n from the first one on, at which the number has a bit
masked_from : (n first m rest : ℕ) → m / 2 ^ first ≡ rest → rest < 2 ^ n → mask_of (filter (λ place. bit_at m place == 1) (numbers_from first n)) ≡ rest * 2 ^ first
masked_from zero first m rest is small = grind arith
masked_from (suc n) first m rest is small =
    let next : m / 2 ^ suc first ≡ rest / 2 = ap (λ p. m / p) (pow-suc 2 first) ∙ sym (div-div-eq-div-mul m (2 ^ first) 2) ∙ ap (λ x. x / 2) is in
    let below : rest < 2 ^ n * 2 = subst (λ p. rest < p) (pow-suc 2 n) small in
    let tail = masked_from n (suc first) m (rest / 2) next (omega arith) ∙ ap (λ p. rest / 2 * p) (pow-suc 2 first) in
    by tail (bit_at m first == 1) refl
  where
    low : bit_at m first ≡ rest % 2
    low = ap (λ x. x % 2) is

    by : mask_of (filter (λ place. bit_at m place == 1) (numbers_from (suc first) n)) ≡ rest / 2 * (2 ^ first * 2) →
        (b : Bool) → (bit_at m first == 1) ≡ b →
        mask_of (cond b (first ∷ filter (λ place. bit_at m place == 1) (numbers_from (suc first) n)) (filter (λ place. bit_at m place == 1) (numbers_from (suc first) n))) ≡ rest * 2 ^ first
    by tail true is_one = let one : 1 + 2 * (rest / 2) ≡ rest = grind (arith, nat_tests, low, is_one) in omega (arith, tail, double 1 (rest / 2) rest (2 ^ first) one)
    by tail false isnt = let none : 0 + 2 * (rest / 2) ≡ rest = grind (arith, nat_tests, low, isnt) in omega (arith, tail, double 0 (rest / 2) rest (2 ^ first) none)

pub mask_of-categories_of : (m : ℕ) → m < 2 ^ 48 → mask_of (categories_of m) ≡ m
unfolding categories_of
mask_of-categories_of m small = masked_from 48 0 m m (omega arith) small ∙ omega arith

-- three words make a mask of 48 bits, and it gives them back
pub mask_in-small : (fields : Inside) → FitsFields fields → mask_in fields.cats < 2 ^ 48
mask_in-small fields fits = by fields.cats fits.three fits.first fits.second fits.third
  where
    by : (words : List ℕ) → length words ≡ 3 → slice_index_or words 0 0 < 2 ^ 16 → slice_index_or words 1 0 < 2 ^ 16 → slice_index_or words 2 0 < 2 ^ 16 → mask_in words < 2 ^ 48
    by [] three a b c = absurd (omega arith)
    by (x ∷ []) three a b c = absurd (omega arith)
    by (x ∷ y ∷ []) three a b c = absurd (omega arith)
    by (x ∷ y ∷ z ∷ []) three a b c = omega (arith, a, b, c)
    by (x ∷ y ∷ z ∷ u ∷ words) three a b c = absurd (omega arith)

words_of-mask_in : (words : List ℕ) → length words ≡ 3 → slice_index_or words 0 0 < 2 ^ 16 → slice_index_or words 1 0 < 2 ^ 16 → slice_index_or words 2 0 < 2 ^ 16 → words_of (mask_in words) ≡ words
words_of-mask_in [] three a b c = absurd (omega arith)
words_of-mask_in (x ∷ []) three a b c = absurd (omega arith)
words_of-mask_in (x ∷ y ∷ []) three a b c = absurd (omega arith)
words_of-mask_in (x ∷ y ∷ z ∷ []) three a b c = λ i. low i ∷ middle i ∷ high i ∷ []
  where
    low : mask_in (x ∷ y ∷ z ∷ []) % 2 ^ 16 ≡ x
    low = omega (arith, a)

    middle : mask_in (x ∷ y ∷ z ∷ []) / 2 ^ 16 % 2 ^ 16 ≡ y
    middle = omega (arith, a, b)

    high : mask_in (x ∷ y ∷ z ∷ []) / 2 ^ 32 % 2 ^ 16 ≡ z
    high = omega (arith, a, b, c)
words_of-mask_in (x ∷ y ∷ z ∷ u ∷ words) three a b c = absurd (omega arith)

-- the fields are got back from the level
pub fields_of-level_of : (fields : Inside) → FitsFields fields → fields_of (level_of fields) ≡ fields
fields_of-level_of fields fits = λ i. record { class = fields.class; cats = cats i }
  where
    cats : words_of (mask_of (categories_of (mask_in fields.cats))) ≡ fields.cats
    cats = ap words_of (mask_of-categories_of (mask_in fields.cats) (mask_in-small fields fits)) ∙ words_of-mask_in fields.cats fits.three fits.first fits.second fits.third
