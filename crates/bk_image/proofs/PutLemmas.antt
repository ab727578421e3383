-- Lists that grow by one part.
use Rattle.std.proofs.Common.{◌≡◌, ℕ, suc, ◌+◌, ◌*◌, ◌^◌, ◌<◌, Bool, true, List, [], ◌∷◌, ◌++◌, length, get_or, take, drop, refl, sym, ap, subst, ◌∙◌, append_assoc}
use Rattle.std.proofs.Common.{arith, inl, inr, ◌-◌, ◌==◌}
use Rattle.std.specs.Prelude.{All, flat_map}
use Rattle.std.specs.List.{list_all}
use Rattle.std.proofs.lemmas.Bool.{cases_lt}
use Rattle.std.proofs.lemmas.Grind.{flat_map-append}
use Rattle.std.proofs.lemmas.List.{append-nil, drop-drop, take_more, get_or-drop}
use Rattle.std.proofs.lemmas.Bool.Decides.{nat_tests}
use Rattle.std.proofs.lemmas.List.Concat.{flat_map-cons}
use Rattle.std.proofs.lemmas.List.Elements.{All-nil, All-cons, All-push}
use Rattle.bk_object.specs.Modes.{no_modes}
use Rattle.bk_object.specs.Rows.{in_row}
use Rattle.bk_image.proofs.SecureLists.{all_at}
use Rattle.bk_object.specs.declared.modes.Modes.{Modes}
use Rattle.bk_level.specs.Masks.{level_of, FitsFields, categories_of, mask_in, mask_of-categories_of, mask_in-small, fields_of-level_of}
use Rattle.bk_level.specs.declared.level.Level.TheInside.{Inside}
use Rattle.bk_image.specs.declared.version.Version.{Version}
use Rattle.bk_image.specs.declared.version.Version.TheVariants.{One, Two}
use Rattle.bk_image.specs.Versions.{category_words, bytes_of_row}
use Rattle.bk_image.specs.Spelling.{words_bytes, level_bytes}
use Rattle.bk_image.specs.Writing.{LevelFits}

-- x stands at the place
pub record StandsAt {X : Type 0} (xs : List X) (i : ℕ) (x : X) : Type 0 where
  pub within : i < length xs
  pub is : x ≡ get_or xs i x

taken_more : {X : Type 0} (xs : List X) (i : ℕ) (x : X) → StandsAt xs i x → take (i + 1) xs ≡ take i xs ++ x ∷ []
taken_more xs i x here = take_more xs i x here.within ∙ ap (λ y. take i xs ++ y ∷ []) (sym here.is)

-- a text that had the parts before has the next one too, once it is put behind it
pub text_next : {X : Type 0} (f : X → List ℕ) (xs : List X) (i : ℕ) (x : X) → StandsAt xs i x → (before now next : List ℕ) → now ≡ before ++ flat_map f (take i xs) → next ≡ now ++ f x → next ≡ before ++ flat_map f (take (i + 1) xs)
text_next f xs i x here before now next so_far put =
    let parts : flat_map f (take (i + 1) xs) ≡ flat_map f (take i xs) ++ f x =
    ap (flat_map f) (taken_more xs i x here) ∙ flat_map-append f (take i xs) (x ∷ []) ∙ ap (λ t. flat_map f (take i xs) ++ t) (flat_map-cons f x [] ∙ append-nil (f x)) in
    put ∙ ap (λ (t : List ℕ). t ++ f x) so_far ∙ append_assoc before (flat_map f (take i xs)) (f x) ∙ ap (λ (t : List ℕ). before ++ t) (sym parts)

-- what the parts before and the next one have, the parts up to the next one have
pub fits_next : {X : Type 0} (P : X → Type 0) (xs : List X) (i : ℕ) (x : X) → StandsAt xs i x → All P (take i xs) → P x → All P (take (i + 1) xs)
fits_next P xs i x here all one = subst (All P) (sym (taken_more xs i x here)) (All-push P (take i xs) x all one)

-- what holds of the parts from one on holds of those after it
pub left_next : {X : Type 0} (test : X → Bool) (xs : List X) (i : ℕ) → list_all test (drop i xs) ≡ true → list_all test (drop (i + 1) xs) ≡ true
left_next {X = X} test xs i all = subst (λ ys. list_all test ys ≡ true) (drop-drop 1 i xs) (after_one (drop i xs) all)
  where
    after_one : (ys : List X) → list_all test ys ≡ true → list_all test (drop 1 ys) ≡ true
    after_one [] h = refl
    after_one (y ∷ ys) h = grind (arith, h)

-- the byte that was put, by another name
pub put_same : (now then : List ℕ) (b x : ℕ) → then ≡ now ++ b ∷ [] → b ≡ x → then ≡ now ++ x ∷ []
put_same now then b x put same = put ∙ ap (λ (y : ℕ). now ++ y ∷ []) same

-- a byte and a text, put behind one another
pub put_both : (now then end : List ℕ) (x : ℕ) (text : List ℕ) → then ≡ now ++ x ∷ [] → end ≡ then ++ text → end ≡ now ++ x ∷ text
put_both now then end x text first second = second ∙ ap (λ (t : List ℕ). t ++ text) first ∙ append_assoc now (x ∷ []) text

-- the bytes of a level, by the fields of the code
pub level_bytes-level_of : (version : Version) (fields : Inside) → FitsFields fields → fields.class ∷ 0 ∷ words_bytes (take (category_words version) fields.cats) ≡ level_bytes version (level_of fields)
level_bytes-level_of version fields fits =
    ap (λ (f : Inside). fields.class ∷ 0 ∷ words_bytes (take (category_words version) f.cats)) (sym (fields_of-level_of fields fits))

-- the categories of a level are those of a mask
pub LevelFits-level_of : (fields : Inside) → FitsFields fields → LevelFits (level_of fields)
LevelFits-level_of fields fits =
    let small = mask_in-small fields fits in
    let same = mask_of-categories_of (mask_in fields.cats) small in
    record { small = subst (λ m. m < 2 ^ 48) (sym same) small; back = ap categories_of same }

-- what holds below twice a number, and of the next two
pub two_more : (P : ℕ → Type 0) (k : ℕ) → ((n : ℕ) → n < 2 * k → P n) → P (2 * k) → P (2 * k + 1) → (n : ℕ) → n < 2 * (k + 1) → P n
two_more P k below here next n lt =
    elim (cases_lt n (2 * k)) [
      | inl less ↦ below n less
      | inr no_less ↦
          elim (cases_lt n (2 * k + 1)) [
            | inl first ↦ subst P (omega (arith, first, no_less)) here
            | inr second ↦ subst P (omega (arith, second, lt)) next
          ]
    ]

-- the sets of a row by their places are all of them
pub row_sets : (row : List Modes) → ((subject : ℕ) → subject < length row → (in_row row subject).0 < 16) → All (λ modes. modes.0 < 16) row
row_sets [] fits = All-nil (λ (modes : Modes). modes.0 < 16)
row_sets (modes ∷ row) fits =
    All-cons (λ (modes : Modes). modes.0 < 16) modes row (fits 0 (omega arith)) (row_sets row (λ subject below. fits (suc subject) (omega (arith, below))))

-- the sets from a place on are of no modes, and those before it are below 16
pub rest_sets : (row : List Modes) (n : ℕ) → ((subject : ℕ) → subject < n → (in_row row subject).0 < 16) → list_all (λ modes. modes.0 == 0) (drop n row) ≡ true →
    (subject : ℕ) → subject < length row → (in_row row subject).0 < 16
rest_sets row n before rest subject below =
    elim (cases_lt subject n) [
      | inl less ↦ before subject less
      | inr no_less ↦
          let none : ((in_row row (n + (subject - n))).0 == 0) ≡ true = ap (λ (m : Modes). m.0 == 0) (sym (get_or-drop n row (subject - n) no_modes)) ∙ all_at (λ (m : Modes). m.0 == 0) (drop n row) (subject - n) no_modes refl rest in
          let same : n + (subject - n) ≡ subject = omega (arith, no_less) in
          subst (λ k. (in_row row k).0 < 16) same (small (in_row row (n + (subject - n))).0 none)
    ]
  where
    small : (k : ℕ) → (k == 0) ≡ true → k < 16
    small k none = grind (arith, nat_tests, none)

-- a row has bytes in each version
pub some_row : (version : Version) → 0 < bytes_of_row version
some_row One = omega arith
some_row Two = omega arith
