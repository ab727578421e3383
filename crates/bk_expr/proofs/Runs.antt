-- Runs: one of 2 to 5 bytes alone is an instruction's word, and a number only grows with its digits.
use Rattle.std.specs.Prelude.{◌≡◌, ◌==◌, ◌||◌, ℕ, suc, ◌+◌, ◌-◌, ◌*◌, ◌^◌, ◌<◌, ◌≤◌, Bool, true, false, ◌&&◌, cond, if◌then◌else◌, nat_le, nat_lt, List, [], ◌∷◌}
use Rattle.std.specs.Prelude.{length, take, drop, get_or, find, bytes_eq, Option, Some, None, option_map, refl}
use Rattle.std.specs.Char.{to_ascii_uppercase}
use Rattle.std.specs.List.{list_all}
use Rattle.std.proofs.Common.{ap, sym, ◌∙◌, arith, drop-cons, length-take}
use Rattle.std.proofs.lemmas.Bool.{and_parts}
use Rattle.std.proofs.lemmas.Bool.Decides.{nat_tests}
use Rattle.std.proofs.lemmas.List.{length-map}
use Rattle.std.proofs.lemmas.Nat.{mul-le}
use Rattle.std.proofs.lemmas.Slice.Eq.{bytes_eq-Decides}
use Rattle.bk_isa.specs.declared.table.Row.{Row}
use Rattle.bk_isa.specs.declared.table.TheConstants.{TABLE}
use Rattle.bk_isa.specs.Rows.{row_name, is_named, meaning_of}
use Rattle.bk_expr.specs.Names.{upper_case, mnemonic_of, value_on, word_of_digits}

-- the row has no name, or one of 2 to 5 letters
abbrev pub is_short : Row → Bool
is_short row = nat_le row.letters (length row.name) && nat_le row.letters 5 && (nat_le 2 row.letters || row.letters == 0)

-- a length that no name has
abbrev pub IsOther : ℕ → Type 0
IsOther n = 2 ≤ n → n ≤ 5 → ⊥

other_name : (row : Row) (name : List ℕ) → is_short row ≡ true → IsOther (length name) → is_named name row ≡ false
other_name row name short other = by (is_named name row) refl where
  by : (b : Bool) → is_named name row ≡ b → b ≡ false
  by false e = refl
  by true e =
      let parts = and_parts (nat_lt 0 row.letters) (bytes_eq (row_name row) name) e in
      let same : take row.letters row.name ≡ name = (bytes_eq-Decides (row_name row) name).0 parts.1 in
      let fits : row.letters ≤ length row.name = grind (arith, nat_tests, short) in
      let low : 2 ≤ row.letters = grind (arith, nat_tests, short, parts.0) in
      let high : row.letters ≤ 5 = grind (arith, nat_tests, short) in
      let long : length name ≡ row.letters = omega (arith, ap length same, length-take row.letters row.name, fits) in
      absurd (other (omega (arith, long, low)) (omega (arith, long, high)))

find-other : (rows : List Row) (name : List ℕ) → list_all is_short rows ≡ true → IsOther (length name) → find (is_named name) rows ≡ None
find-other [] name short other = refl
find-other (row ∷ rows) name short other =
    let parts = and_parts (is_short row) (list_all is_short rows) short in
    ap (λ b. cond b (Some row) (find (is_named name) rows)) (other_name row name parts.0 other) ∙ find-other rows name parts.1 other

table_short : list_all is_short TABLE ≡ true
table_short = refl

other_mnemonic : (run : List ℕ) → IsOther (length (upper_case run)) → mnemonic_of run ≡ None
unfolding mnemonic_of
other_mnemonic run other = ap (option_map meaning_of) (find-other TABLE (upper_case run) table_short other)

-- a run of fewer bytes is no instruction's word
pub mnemonic_of_less : (run : List ℕ) → length run < 2 → None ≡ mnemonic_of run
mnemonic_of_less run less = sym (other_mnemonic run (λ low high. omega (arith, length-map run to_ascii_uppercase, less, low)))

-- .. and one of more
pub mnemonic_of_more : (run : List ℕ) → 6 ≤ length run → None ≡ mnemonic_of run
mnemonic_of_more run more = sym (other_mnemonic run (λ low high. omega (arith, length-map run to_ascii_uppercase, more, high)))

-- the digits that follow make a number no less
pub value_on_le : (base n : ℕ) (digits : List ℕ) → 1 ≤ base → n ≤ value_on base n digits
value_on_le base n [] h = omega arith
value_on_le base n (digit ∷ digits) h =
    let same : n ≤ n = omega arith in
    omega (arith, value_on_le base (base * n + (digit - 48)) digits h, mul-le 1 n base n h same)

none_where : (b c : Bool) (x : Option ℕ) → c ≡ false → None ≡ (if b && c then x else None)
none_where true true x e = absurd (cc)
none_where true false x e = refl
none_where false c x e = refl

-- where the digits so far are too large a number, all of them are
pub too_large : (base value i : ℕ) (digits : List ℕ) → 1 ≤ base → i < length digits → value_on base value (drop i digits) ≡ value_on base 0 digits
    → 65535 < base * value + (get_or digits i 0 - 48) → None ≡ word_of_digits base digits
too_large base value i digits some within same large =
    let next = get_or digits i 0 in
    let cut : drop i digits ≡ next ∷ drop (suc i) digits = drop-cons digits i 0 within in
    let on : value_on base value (drop i digits) ≡ value_on base (base * value + (next - 48)) (drop (suc i) digits) = ap (value_on base value) cut in
    let over : 65535 < value_on base 0 digits = omega (arith, same, on, large, value_on_le base (base * value + (next - 48)) (drop (suc i) digits) some) in
    let fails : nat_lt (value_on base 0 digits) (2 ^ 16) ≡ false = grind (arith, nat_tests, over) in
    none_where (nat_le 1 (length digits)) (nat_lt (value_on base 0 digits) (2 ^ 16)) (Some (value_on base 0 digits)) fails
