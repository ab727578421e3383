-- What a part that was read took from the front of the bytes.
use Rattle.std.proofs.Common.{◌≡◌, ℕ, zero, suc, ◌+◌, ◌*◌, ◌/◌, ◌%◌, ◌<◌, ◌≤◌, cond, ltb, List, [], ◌∷◌, ◌++◌, length, get_or, take, drop, Ok, refl, sym, ap}
use Rattle.std.proofs.Common.{subst, ◌∙◌, append_assoc, arith, inl, inr}
use Rattle.std.specs.Prelude.{flat_map}
use Rattle.std.proofs.lemmas.Bool.{cases_lt, ltb-false}
use Rattle.std.proofs.lemmas.List.{take-append-drop, length-append, length-take, get_or-drop, get_or-take, get_or_past, append-nil}
use Rattle.std.proofs.lemmas.List.Concat.{flat_map-cons}
use Rattle.bk_image.specs.declared.fault.ImageField.TheVariants as field
use Rattle.bk_base.specs.Parts.{part as part_of}
use Rattle.bk_base.proofs.FaultLemmas.{bind_ok, guard_ok, ok_is, all_pass}
use Rattle.bk_image.specs.Limits.{most_bytes}
use Rattle.bk_image.specs.Parts.{Rest, Reads, Check, Passes, ◌>>=◌, fault, fault_at, first_failing, part, checked, each_of}
use Rattle.bk_image.specs.Numbers.{byte, words_of}
use Rattle.bk_image.specs.Spelling.{word_bytes, words_bytes}

-- each number is one of a byte
abbrev pub IsBytes : List ℕ → Type 0
IsBytes bytes = (i : ℕ) → get_or bytes i 0 < 256

pub IsBytes-drop : (n : ℕ) (bytes : List ℕ) → IsBytes bytes → IsBytes (drop n bytes)
IsBytes-drop n bytes h i = rw get_or-drop (h (n + i))

pub IsBytes-take : (n : ℕ) (bytes : List ℕ) → IsBytes bytes → IsBytes (take n bytes)
IsBytes-take n bytes h i =
    elim (cases_lt i n) [
      | inl lt ↦ rw (get_or-take n bytes i 0 lt) (h i)
      | inr le ↦ rw (get_or_past (take n bytes) i 0 (omega (arith, length-take n bytes))) (omega arith)
    ]

-- ---- what was taken

-- the text stands at the front, and after it what is left
pub record Takes (rest : Rest) (text : List ℕ) (after : Rest) : Type 0 where
  pub parts : rest.bytes ≡ text ++ after.bytes
  pub place : after.at ≡ rest.at + length text
  pub fits : IsBytes after.bytes

pub Takes-nothing : (rest : Rest) → IsBytes rest.bytes → Takes rest [] rest
Takes-nothing rest fits = record { parts = refl; place = omega arith; fits = fits }

pub Takes-then : (a : Rest) (x : List ℕ) (b : Rest) (y : List ℕ) (c : Rest) → Takes a x b → Takes b y c → Takes a (x ++ y) c
Takes-then a x b y c p q = record {
  parts = p.parts ∙ ap (λ (t : List ℕ). x ++ t) q.parts ∙ sym (append_assoc x y c.bytes);
  place = omega (arith, p.place, q.place, length-append x y);
  fits = q.fits;
}

-- what was taken spells the value that was read
pub Takes-value : {X : Type 0} (text : X → List ℕ) (rest : Rest) (bytes : List ℕ) (y x : X × Rest) → y ≡ x → text y.0 ≡ bytes → Takes rest bytes y.1 → Takes rest (text x.0) x.1
Takes-value text rest bytes y x same spelt taken = subst (λ z. Takes rest (text z.0) z.1) same (subst (λ b. Takes rest b y.1) (sym spelt) taken)

abbrev pub after : ℕ → Rest → Rest
after n rest = record { at = rest.at + n; bytes = drop n rest.bytes }

pub part_ok : (n : ℕ) (rest : Rest) (x : List ℕ × Rest) → part n rest ≡ Ok x → (rest.at + n ≤ most_bytes) × (n ≤ length rest.bytes) × ((take n rest.bytes, after n rest) ≡ x)
unfolding part_of
part_ok n rest x e =
    let g = guard_ok (ltb most_bytes (rest.at + n)) (record { at = rest.at; field = field.Long }) (cond (ltb (length rest.bytes) n) (fault (rest.at + length rest.bytes) field.End) (Ok (take n rest.bytes, after n rest))) x e in
    let h = guard_ok (ltb (length rest.bytes) n) (record { at = rest.at + length rest.bytes; field = field.End }) (Ok (take n rest.bytes, after n rest)) x g.1 in
    (ltb-false _ _ g.0, ltb-false _ _ h.0, ok_is (take n rest.bytes, after n rest) x h.1)

pub part_takes : (n : ℕ) (rest : Rest) (x : List ℕ × Rest) → IsBytes rest.bytes → part n rest ≡ Ok x → Takes rest x.0 x.1 × (length x.0 ≡ n) × IsBytes x.0
part_takes n rest x fits e =
    let p = part_ok n rest x e in
    let long : n ≤ length rest.bytes = p.1 in
    let len : length (take n rest.bytes) ≡ n = omega (arith, length-take n rest.bytes) in
    let t : Takes rest (take n rest.bytes) (after n rest) = record {
      parts = sym (take-append-drop n rest.bytes);
      place = omega (arith, len);
      fits = IsBytes-drop n rest.bytes fits;
    } in
    subst (λ (y : List ℕ × Rest). Takes rest y.0 y.1 × (length y.0 ≡ n) × IsBytes y.0) p.2 (t, len, IsBytes-take n rest.bytes fits)

-- the bytes of a part that passed
pub record Checked {X : Type 0} (n : ℕ) (checks : List ℕ → List Check) (value : List ℕ → X) (rest : Rest) (x : X × Rest) : Type 0 where
  pub bytes : List ℕ
  pub takes : Takes rest bytes x.1
  pub count : length bytes ≡ n
  pub fit : IsBytes bytes
  pub passed : Passes (checks bytes)
  pub is : value bytes ≡ x.0

pub checked_ok : {X : Type 0} (n : ℕ) (checks : List ℕ → List Check) (value : List ℕ → X) (rest : Rest) (x : X × Rest) → IsBytes rest.bytes → checked n checks value rest ≡ Ok x → Checked n checks value rest x
checked_ok n checks value rest x fits e =
    let a = bind_ok (part n rest) (λ p. first_failing rest.at (checks p.0) >>= λ passed. Ok (value p.0, p.1)) x e in
    let b = bind_ok (first_failing rest.at (checks a.0.0)) (λ passed. Ok (value a.0.0, a.0.1)) x a.2 in
    let t = part_takes n rest a.0 fits a.1 in
    let q = ok_is (value a.0.0, a.0.1) x b.2 in
    record {
      bytes = a.0.0;
      takes = subst (λ (r : Rest). Takes rest a.0.0 r) (λ i. (q i).1) t.0;
      count = t.1;
      fit = t.2;
      passed = all_pass (fault_at rest.at) (checks a.0.0) b.0 b.1;
      is = λ i. (q i).0;
    }

-- what is read is spelt by the text
abbrev pub Spells : {X : Type 0} → (X → List ℕ) → (Rest → Reads X) → Type 0
Spells {X = X} text read = (rest : Rest) (x : X × Rest) → IsBytes rest.bytes → read rest ≡ Ok x → Takes rest (text x.0) x.1

pub checked_spells : {X : Type 0} (text : X → List ℕ) (n : ℕ) (checks : List ℕ → List Check) (value : List ℕ → X)
    → ((b : List ℕ) → length b ≡ n → IsBytes b → Passes (checks b) → text (value b) ≡ b) → Spells text (checked n checks value)
checked_spells text n checks value back rest x fits e =
    let c = checked_ok n checks value rest x fits e in
    let t : text x.0 ≡ c.bytes = ap text (sym c.is) ∙ back c.bytes c.count c.fit c.passed in
    subst (λ (b : List ℕ). Takes rest b x.1) (sym t) c.takes

each_takes : {X : Type 0} (text : X → List ℕ) (next : List X → Rest → Reads X) → ((before : List X) → Spells text (next before))
    → (n : ℕ) (before : List X) (rest : Rest) (x : List X × Rest) → IsBytes rest.bytes → each_of next n before rest ≡ Ok x
    → (new : List X) × (before ++ new ≡ x.0) × (length new ≡ n) × Takes rest (flat_map text new) x.1
unfolding each_of
each_takes {X = X} text next spells zero before rest x fits e =
    let q = ok_is (before, rest) x e in
    ([], append-nil before ∙ (λ i. (q i).0), refl, subst (λ (r : Rest). Takes rest [] r) (λ i. (q i).1) (Takes-nothing rest fits))
each_takes {X = X} text next spells (suc n) before rest x fits e =
    let a = bind_ok (next before rest) (λ y. each_of next n (before ++ y.0 ∷ []) y.1) x e in
    let t = spells before rest a.0 fits a.1 in
    let r = each_takes text next spells n (before ++ a.0.0 ∷ []) a.0.1 x t.fits a.2 in
    (a.0.0 ∷ r.0, sym (append_assoc before (a.0.0 ∷ []) r.0) ∙ r.1, ap suc r.2, rw (flat_map-cons text a.0.0 r.0) (Takes-then rest (text a.0.0) a.0.1 (flat_map text r.0) x.1 t r.3))

-- parts of one kind are as many as were asked for, and are spelt one after the other
pub all_take : {X : Type 0} (text : X → List ℕ) (next : List X → Rest → Reads X) → ((before : List X) → Spells text (next before))
    → (n : ℕ) (rest : Rest) (x : List X × Rest) → IsBytes rest.bytes → each_of next n [] rest ≡ Ok x
    → (length x.0 ≡ n) × Takes rest (flat_map text x.0) x.1
all_take {X = X} text next spells n rest x fits e =
    let t = each_takes text next spells n [] rest x fits e in
    subst (λ (y : List X). (length y ≡ n) × Takes rest (flat_map text y) x.1) t.1 (t.2, t.3)

-- ---- bytes by their places

abbrev pub bytes_from : ℕ → ℕ → List ℕ → List ℕ
bytes_from i zero b = []
bytes_from i (suc n) b = byte b i ∷ bytes_from (suc i) n b

bytes_from-cons : (n i x : ℕ) (b : List ℕ) → bytes_from (suc i) n (x ∷ b) ≡ bytes_from i n b
bytes_from-cons zero i x b = refl
bytes_from-cons (suc n) i x b = ap (λ (t : List ℕ). byte b i ∷ t) (bytes_from-cons n (suc i) x b)

pub by_places : (b : List ℕ) (n : ℕ) → length b ≡ n → bytes_from 0 n b ≡ b
by_places [] zero e = refl
by_places [] (suc n) e = absurd cc
by_places (x ∷ b) zero e = absurd cc
by_places (x ∷ b) (suc n) e = ap (λ (t : List ℕ). x ∷ t) (bytes_from-cons n 0 x b ∙ by_places b n cc)

-- a number fixes its two bytes
pub word_bytes-word : (low high : ℕ) → low < 256 → word_bytes (low + 256 * high) ≡ low ∷ high ∷ []
word_bytes-word low high lt =
    let m : (low + 256 * high) % 256 ≡ low = omega arith in
    let d : (low + 256 * high) / 256 ≡ high = omega arith in
    rw (m, d) refl

pub words_back : (c : ℕ) (b : List ℕ) → length b ≡ 2 * c → IsBytes b → (words_bytes (words_of b) ≡ b) × (length (words_of b) ≡ c)
words_back zero [] len fits = (refl, refl)
words_back (suc c) [] len fits = absurd (omega (arith, len))
words_back c (low ∷ []) len fits = absurd (omega (arith, len))
words_back zero (low ∷ high ∷ b) len fits = absurd (omega (arith, len))
words_back (suc c) (low ∷ high ∷ b) len fits =
    let r = words_back c b (omega (arith, len)) (λ i. fits (suc (suc i))) in
    let w : word_bytes (low + 256 * high) ≡ low ∷ high ∷ [] = word_bytes-word low high (fits 0) in
    (ap (λ (t : List ℕ). t ++ words_bytes (words_of b)) w ∙ ap (λ (t : List ℕ). low ∷ high ∷ t) r.0, ap suc r.1)
