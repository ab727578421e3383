-- Numbers of a script: the digits are the number in decimal, and the other way round.
use Rattle.std.proofs.Common.{◌≡◌, ℕ, ◌+◌, ◌-◌, ◌*◌, ◌^◌, ◌<◌, ◌≤◌, Bool, true, false, List, [], ◌∷◌, length, get_or, nat_le, decimal, refl, ap, arith, nat_eq}
use Rattle.std.proofs.Common.{lit<, suc, zero}
use Rattle.std.specs.Prelude.{◌&&◌, not, fold}
use Rattle.std.specs.List.{list_all}
use Rattle.std.proofs.lemmas.Bool.{and_parts}
use Rattle.std.proofs.lemmas.Bool.Decides.{nat_tests}
use Rattle.std.proofs.lemmas.Fmt.{decimal-digits_value, digits_decimal, digits_value-decimal, length-decimal-le, decimal_nonempty, first_decimal, decimal_digit}
use Rattle.std.proofs.lemmas.Str.Parse.{IsNumeralModel, IsDigitsTest, FoldsDigits, numerals_by_fold, digits_value_short}
use Rattle.bk_report.specs.Reading.{is_digit}
use Rattle.bk_script.specs.Fields.{leads_with_zero, is_number, number}

abbrev AreDigits : List ℕ → Type 0
AreDigits text = list_all is_digit text ≡ true

abbrev read_on : ℕ → List ℕ → ℕ
read_on n text = fold (λ n digit. 10 * n + (digit - 48)) n text

digits_test : IsDigitsTest AreDigits
digits_test = record {
  empty = refl;
  parts = λ b text h. let p = and_parts (is_digit b) (list_all is_digit text) h in (grind (arith, nat_tests, p.0), p.1);
  more = λ b text digit h. let d : is_digit b ≡ true = grind (arith, nat_tests, digit) in rw (d, h) refl;
}

folds : FoldsDigits read_on
folds = record {
  empty = λ n. refl;
  more = λ n b text digit. ap (λ m. read_on m text) (omega arith);
}

own : IsNumeralModel AreDigits number
own = numerals_by_fold AreDigits digits_test read_on folds

-- the parts of the test
pub is_number-parts : (text : List ℕ) → is_number text ≡ true → (1 ≤ length text) × (length text ≤ 9) × AreDigits text × (leads_with_zero text ≡ false)
is_number-parts text h =
    let one = and_parts (nat_le 1 (length text) && nat_le (length text) 9 && list_all is_digit text) (not (leads_with_zero text)) h in
    let two = and_parts (nat_le 1 (length text) && nat_le (length text) 9) (list_all is_digit text) one.0 in
    let three = and_parts (nat_le 1 (length text)) (nat_le (length text) 9) two.0 in
    (grind (arith, nat_tests, three.0), grind (arith, nat_tests, three.1), two.1, grind (arith, one.1))

leads : (text : List ℕ) → leads_with_zero text ≡ false → get_or text 0 0 ≡ 48 → length text ≤ 1
leads [] h lead = omega arith
leads (b ∷ []) h lead = omega arith
leads (b ∷ c ∷ text) h lead = absurd (grind (arith, nat_tests, h, lead))

pub number-small : (text : List ℕ) → is_number text ≡ true → number text < 10 ^ 9
number-small text h =
    let p = is_number-parts text h in
    digits_value_short own text 9 p.2 p.1

pub decimal-number : (text : List ℕ) → is_number text ≡ true → decimal (number text) ≡ text
decimal-number text h =
    let p = is_number-parts text h in
    let small = number-small text h in
    decimal-digits_value own text p.2 (omega (arith, p.0))
    (λ lead. let l = leads text p.3 lead in omega (arith, p.0, l)) (omega (arith, small))

no_lead : (text : List ℕ) → 1 ≤ length text → (get_or text 0 0 ≡ 48 → length text ≤ 1) → leads_with_zero text ≡ false
no_lead [] some h = refl
no_lead (b ∷ []) some h = refl
no_lead (b ∷ c ∷ text) some h = by (nat_eq b 48) refl where
  by : (t : Bool) → nat_eq b 48 ≡ t → nat_eq b 48 ≡ false
  by true e = absurd (let l = h (grind (arith, nat_tests, e)) in omega (arith, l))
  by false e = e

pub is_number-decimal : (n : ℕ) → n < 10 ^ 9 → is_number (decimal n) ≡ true
is_number-decimal n small =
    let wide : n < 2 ^ 64 = omega arith in
    let some : 1 ≤ length (decimal n) = decimal_nonempty n wide in
    let most : length (decimal n) ≤ 9 = length-decimal-le 9 n (lit< tt) small wide in
    let digits : list_all is_digit (decimal n) ≡ true = digits_decimal own n wide in
    let lead : leads_with_zero (decimal n) ≡ false = no_lead (decimal n) some (short n wide) in
    let a : nat_le 1 (length (decimal n)) ≡ true = grind (arith, nat_tests, some) in
    let b : nat_le (length (decimal n)) 9 ≡ true = grind (arith, nat_tests, most) in
    rw (a, b, digits, lead) refl where
      short : (n : ℕ) → n < 2 ^ 64 → get_or (decimal n) 0 0 ≡ 48 → length (decimal n) ≤ 1
      short zero wide lead = rw (decimal_digit 0 (lit< tt)) (omega arith)
      short (suc n) wide lead = let above = first_decimal (suc n) (omega arith) wide in absurd (omega (arith, above, lead))

pub number-decimal : (n : ℕ) → n < 10 ^ 9 → number (decimal n) ≡ n
number-decimal n small = digits_value-decimal own n (omega (arith, small))
