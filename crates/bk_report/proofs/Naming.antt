-- Line records: which words name a line, and what is left after a line is cut off in front.
use Rattle.std.proofs.Common.{◌≡◌, ◌≢◌, ℕ, zero, suc, ◌/◌, ◌^◌, ◌<◌, ◌≤◌, Bool, true, false, List, [], ◌∷◌, ◌++◌, refl, ◌∙◌, ap, arith, subst, nat_eq, decimal}
use Rattle.std.specs.Prelude.{◌&&◌, ◌==◌, bytes_eq}
use Rattle.std.specs.List.{slice_split}
use Rattle.std.proofs.Math.Nat.{div-eq_of_lt, pow-le-pow_right}
use Rattle.std.proofs.lemmas.Bool.{and_left, or_from, or_left, or_right}
use Rattle.std.proofs.lemmas.Bool.Decides.{nat_tests}
use Rattle.bk_report.specs.Lines.{names_below, names_in, are_record, kept, kept_of, has_bit, line_records_of}
use Rattle.bk_report.proofs.Splitting.{split_some}

-- what names a number below k names one below any m from k on
names_up : (set : ℕ → Bool) (word : List ℕ) (k m : ℕ) → k ≤ m → names_below set word k ≡ true → names_below set word m ≡ true
names_up set word k zero le h =
    let e : k ≡ zero = omega arith in
    subst (λ n. names_below set word n ≡ true) e h
names_up set word k (suc m) le h = by (nat_eq k (suc m)) refl (names_up set word k m) where
  by : (b : Bool) → nat_eq k (suc m) ≡ b → (k ≤ m → names_below set word k ≡ true → names_below set word m ≡ true) → names_below set word (suc m) ≡ true
  by true e rest = let same : k ≡ suc m = grind (arith, nat_tests, e) in subst (λ n. names_below set word n ≡ true) same h
  by false e rest =
      let apart : k ≢ suc m = grind (arith, nat_tests, e) in
      let below : k ≤ m = omega (arith, apart) in
      or_left (names_below set word m) (set m && bytes_eq word (decimal m)) (rest below h)

pub names_in-found : (set : ℕ → Bool) (word : List ℕ) (n : ℕ) → n < 16 → set n ≡ true → bytes_eq word (decimal n) ≡ true → names_in set word ≡ true
unfolding names_in
names_in-found set word n small s e =
    let here : names_below set word (suc n) ≡ true = or_right (names_below set word n) (set n && bytes_eq word (decimal n)) (rw (s, e) refl) in
    names_up set word (suc n) 256 (omega (arith, small)) here

-- a word of 16 bits has no bit from 16 on
no_high_bit : (lines n : ℕ) → lines < 2 ^ 16 → 16 ≤ n → has_bit lines n ≡ false
no_high_bit lines n small high =
    let p : 2 ^ 16 ≤ 2 ^ n = pow-le-pow_right (omega arith) high in
    let below : lines < 2 ^ n = omega (arith, p, small) in
    let e : lines / 2 ^ n ≡ 0 = div-eq_of_lt below in
    rw e refl

names_high : (lines : ℕ) (word : List ℕ) → lines < 2 ^ 16 → names_below (has_bit lines) word 16 ≡ false → (m : ℕ) → 16 ≤ m → names_below (has_bit lines) word m ≡ false
names_high lines word small h zero le = absurd (omega arith)
names_high lines word small h (suc m) le = by (nat_eq 16 (suc m)) refl (names_high lines word small h m) where
  by : (b : Bool) → nat_eq 16 (suc m) ≡ b → (16 ≤ m → names_below (has_bit lines) word m ≡ false) → names_below (has_bit lines) word (suc m) ≡ false
  by true e rest = let same : 16 ≡ suc m = grind (arith, nat_tests, e) in subst (λ n. names_below (has_bit lines) word n ≡ false) same h
  by false e rest =
      let apart : 16 ≢ suc m = grind (arith, nat_tests, e) in
      let below : 16 ≤ m = omega (arith, apart, le) in
      or_from (names_below (has_bit lines) word m) (has_bit lines m && bytes_eq word (decimal m)) (rest below)
      (and_left (has_bit lines m) (bytes_eq word (decimal m)) (no_high_bit lines m small below))

pub names_in-none : (lines n : ℕ) (word : List ℕ) → lines < 2 ^ 16 → n ≡ 16 → names_below (has_bit lines) word n ≡ false → names_in (has_bit lines) word ≡ false
unfolding names_in
names_in-none lines n word small top h = names_high lines word small (subst (λ k. names_below (has_bit lines) word k ≡ false) top h) 256 (omega arith)

-- a sixth field is one too many
pub are_record-six : (set : ℕ → Bool) (kind slot turn line byte : List ℕ) (p : ℕ → Bool) (more : List ℕ)
    → are_record set (kind ∷ slot ∷ turn ∷ line ∷ byte ∷ slice_split p more) ≡ false
are_record-six set kind slot turn line byte p more = let rest = split_some p more in rw rest.2 refl

-- the records of a line and what follows its LF
pub line_records_of-cut : (set : ℕ → Bool) (rest text more : List ℕ) → slice_split (λ b. b == 10) rest ≡ text ∷ slice_split (λ b. b == 10) more
    → line_records_of set rest ≡ kept set text ++ line_records_of set more
unfolding line_records_of
line_records_of-cut set rest text more found =
    let parts = split_some (λ b. b == 10) more in
    ap (kept_of set) found ∙ by parts.0 parts.1 parts.2 where
      by : (part : List ℕ) (parts : List (List ℕ)) → slice_split (λ b. b == 10) more ≡ part ∷ parts
          → kept_of set (text ∷ slice_split (λ b. b == 10) more) ≡ kept set text ++ kept_of set (slice_split (λ b. b == 10) more)
      by part parts e = rw e refl

pub line_records_of-none : (set : ℕ → Bool) (rest : List ℕ) → slice_split (λ b. b == 10) rest ≡ rest ∷ [] → line_records_of set rest ≡ []
unfolding line_records_of
line_records_of-none set rest none = ap (kept_of set) none
