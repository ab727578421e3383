-- A number among the words is one whose own decimal text is the word.
use Rattle.std.proofs.Common.{◌≡◌, ℕ, ◌<◌, ◌^◌, Bool, true, false, ◌&&◌, List, Option, Some, None, refl, sym, ◌∙◌, ap, subst, arith}
use Rattle.std.specs.Prelude.{nat_lt, bytes_eq, decimal, if◌then◌else◌}
use Rattle.std.specs.Str.Parse.{digits_value}
use Rattle.std.proofs.lemmas.Bool.Decides.{nat_tests}
use Rattle.std.proofs.lemmas.Fmt.{decimal_is_IsNumeral}
use Rattle.std.proofs.lemmas.Slice.Eq.{bytes_eq-Decides}
use Rattle.blpk.specs.Words.{number_of}

-- a number's own text is that number's
pub own_text : (n : ℕ) → n < 2 ^ 32 → (word : List ℕ) → word ≡ decimal n → number_of word ≡ Some n
own_text n small word is =
    let value : digits_value 10 word ≡ n = ap (digits_value 10) is ∙ (decimal_is_IsNumeral n (omega (arith, small))).1 in
    let same : bytes_eq (decimal (digits_value 10 word)) word ≡ true = (bytes_eq-Decides (decimal (digits_value 10 word)) word).1 (ap decimal value ∙ sym is) in
    let fits : nat_lt (digits_value 10 word) (2 ^ 32) ≡ true = ap (λ m. nat_lt m (2 ^ 32)) value ∙ grind (arith, nat_tests, small) in
    ap (λ b. if b then Some (digits_value 10 word) else None) (λ i. fits i && same i) ∙ ap Some value

parts : (a b : Bool) → (a && b) ≡ true → (a ≡ true) × (b ≡ true)
parts true true h = (refl, refl)
parts true false h = absurd (cc h)
parts false b h = absurd (cc h)

-- a word that is no number's own text is none
pub no_text : (word : List ℕ) → ((n : ℕ) → n < 2 ^ 32 → word ≡ decimal n → ⊥) → number_of word ≡ None
no_text word none = by (nat_lt (digits_value 10 word) (2 ^ 32) && bytes_eq (decimal (digits_value 10 word)) word) refl
  where
    by : (b : Bool) → (nat_lt (digits_value 10 word) (2 ^ 32) && bytes_eq (decimal (digits_value 10 word)) word) ≡ b → (if b then Some (digits_value 10 word) else None) ≡ None
    by false is = refl
    by true is =
        let p = parts (nat_lt (digits_value 10 word) (2 ^ 32)) (bytes_eq (decimal (digits_value 10 word)) word) is in
        absurd (none (digits_value 10 word) (grind (arith, nat_tests, p.0)) (sym ((bytes_eq-Decides (decimal (digits_value 10 word)) word).0 p.1)))
