-- What follows of each part that was read, by the checks that it passed.
use Rattle.std.proofs.Common.{◌≡◌, ℕ, zero, suc, ◌*◌, ◌≤◌, List, [], ◌∷◌, ◌++◌, length, take, Ok, refl, sym, ap, subst, ◌∙◌, append_assoc, arith, length-take}
use Rattle.std.proofs.lemmas.List.{append-nil}
use Rattle.bk_image.specs.declared.fault.ImageField.{ImageField}
use Rattle.bk_image.specs.Parts.{fault_at, Rest, Reads, Check, Passes, ◌>>=◌, first_failing, part, checked, each_of, is_outside}
use Rattle.bk_image.specs.Numbers.{byte, word, words_of}
use Rattle.bk_image.specs.Header.{byte_at, word_at}
use Rattle.bk_image.proofs.SecureLists.{within}
use Rattle.bk_base.proofs.FaultLemmas.{bind_ok, ok_is, all_pass}
use Rattle.bk_image.proofs.Takes.{part_ok}

-- the checks of a part that was read passed, of the bytes that give its value
pub checked_passed : {X : Type 0} (n : ℕ) (checks : List ℕ → List Check) (value : List ℕ → X) (rest : Rest) (x : X × Rest) → checked n checks value rest ≡ Ok x → (b : List ℕ) × Passes (checks b) × (value b ≡ x.0)
checked_passed n checks value rest x e =
    let a = bind_ok (part n rest) (λ p. first_failing rest.at (checks p.0) >>= λ passed. Ok (value p.0, p.1)) x e in
    let b = bind_ok (first_failing rest.at (checks a.0.0)) (λ passed. Ok (value a.0.0, a.0.1)) x a.2 in
    let q = ok_is (value a.0.0, a.0.1) x b.2 in
    (a.0.0, all_pass (fault_at rest.at) (checks a.0.0) b.0 b.1, λ i. (q i).0)

-- a part has as many bytes as were asked for
pub part_length : (n : ℕ) (rest : Rest) (x : List ℕ × Rest) → part n rest ≡ Ok x → length x.0 ≡ n
part_length n rest x e =
    let (_, long, is) = part_ok n rest x e in
    let count : length (take n rest.bytes) ≡ n = omega (arith, long, length-take n rest.bytes) in
    ap (λ (y : List ℕ × Rest). length y.0) (sym is) ∙ count

-- and so have the bytes of one that passed its checks
pub checked_length : (n : ℕ) (checks : List ℕ → List Check) (rest : Rest) (x : List ℕ × Rest) → checked n checks (λ b. b) rest ≡ Ok x → length x.0 ≡ n
checked_length n checks rest x e =
    let a = bind_ok (part n rest) (λ p. first_failing rest.at (checks p.0) >>= λ passed. Ok (p.0, p.1)) x e in
    let b = bind_ok (first_failing rest.at (checks a.0.0)) (λ passed. Ok (a.0.0, a.0.1)) x a.2 in
    subst (λ (y : List ℕ × Rest). length y.0 ≡ n) (ok_is (a.0.0, a.0.1) x b.2) (part_length n rest a.0 a.1)

pub words_length : (count : ℕ) (b : List ℕ) → length b ≡ 2 * count → length (words_of b) ≡ count
words_length zero [] is = refl
words_length (suc count) [] is = absurd (omega (arith, is))
words_length count (low ∷ []) is = absurd (omega (arith, is))
words_length zero (low ∷ high ∷ b) is = absurd (omega (arith, is))
words_length (suc count) (low ∷ high ∷ b) is = ap suc (words_length count b (omega (arith, is)))

-- ---- numbers

pub byte_within : (f : ImageField) (low high : ℕ) (rest : Rest) (x : ℕ × Rest) → byte_at f low high rest ≡ Ok x → (low ≤ x.0) × (x.0 ≤ high)
unfolding byte_at
byte_within f low high rest x e =
    let (b, passed, is) = checked_passed 1 (λ b. (f, is_outside low high (byte b 0)) ∷ []) (λ b. byte b 0) rest x e in
    subst (λ n. (low ≤ n) × (n ≤ high)) is (within low high (byte b 0) passed.0)

pub word_within : (f : ImageField) (low high : ℕ) (rest : Rest) (x : ℕ × Rest) → word_at f low high rest ≡ Ok x → (low ≤ x.0) × (x.0 ≤ high)
unfolding word_at
word_within f low high rest x e =
    let (b, passed, is) = checked_passed 2 (λ b. (f, is_outside low high (word b 0)) ∷ []) (λ b. word b 0) rest x e in
    subst (λ n. (low ≤ n) × (n ≤ high)) is (within low high (word b 0) passed.0)

-- ---- parts one after the other

module _ {X : Type 0} (P : List X → X → Type 0) where
  -- what follows of each of the values, of those before it
  abbrev AllAfter : List X → List X → Type 0
  AllAfter before [] = Unit {0}
  AllAfter before (x ∷ xs) = P before x × AllAfter (before ++ x ∷ []) xs

  all_after_at : (before front : List X) (x : X) (tail : List X) → AllAfter before (front ++ x ∷ tail) → P (before ++ front) x
  all_after_at before [] x tail all = subst (λ (xs : List X). P xs x) (sym (append-nil before)) all.0
  all_after_at before (y ∷ front) x tail all = subst (λ (xs : List X). P xs x) (append_assoc before (y ∷ []) front) (all_after_at (before ++ y ∷ []) front x tail all.1)

  module _ (next : List X → Rest → Reads X) (step : (before : List X) (rest : Rest) (x : X × Rest) → next before rest ≡ Ok x → P before x.0) where
    each_after : (n : ℕ) (before : List X) (rest : Rest) (x : List X × Rest) → each_of next n before rest ≡ Ok x → (new : List X) × (before ++ new ≡ x.0) × (length new ≡ n) × AllAfter before new
    unfolding each_of
    each_after zero before rest x e = ([], append-nil before ∙ (let q = ok_is (before, rest) x e in λ i. (q i).0), refl, tt)
    each_after (suc n) before rest x e =
        let a = bind_ok (next before rest) (λ y. each_of next n (before ++ y.0 ∷ []) y.1) x e in
        let r = each_after n (before ++ a.0.0 ∷ []) a.0.1 x a.2 in
        (a.0.0 ∷ r.0, sym (append_assoc before (a.0.0 ∷ []) r.0) ∙ r.1, ap suc r.2, (step before rest a.0 a.1, r.3))

    -- parts of one kind are as many as were asked for, and of each of them follows what follows of one
    pub each_read : (n : ℕ) (rest : Rest) (x : List X × Rest) → each_of next n [] rest ≡ Ok x →
        (length x.0 ≡ n) × ((front : List X) (y : X) (tail : List X) → front ++ y ∷ tail ≡ x.0 → P front y)
    each_read n rest x e =
        let (new, is, count, all) = each_after n [] rest x e in
        (ap length (sym is) ∙ count, λ front y tail whole. all_after_at [] front y tail (subst (λ (xs : List X). AllAfter [] xs) (is ∙ sym whole) all))
