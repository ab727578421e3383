-- What is read is an item whose line stands in front, and each such item is read.
use Rattle.std.proofs.Common.{◌≡◌, ◌≢◌, ℕ, ◌+◌, ◌-◌, ◌*◌, ◌%◌, ◌^◌, ◌<◌, Bool, true, false, List, [], ◌∷◌, ◌++◌, length, drop, Some, None, IfSome, IfNone, refl}
use Rattle.std.proofs.Common.{◌∙◌, ap, arith, cond}
use Rattle.std.specs.Prelude.{Option, nat_eq, nat_lt, not, ◌&&◌, ◌↔◌, ◌==◌, slice_index}
use Rattle.std.specs.List.{starts_with}
use Rattle.std.proofs.lemmas.Bool.{and_parts}
use Rattle.std.proofs.lemmas.Bool.Decides.{nat_tests, Decides-eqb}
use Rattle.std.proofs.lemmas.Slice.Eq.{starts_is}
use Rattle.bk_report.specs.declared.item.ReportItem.{ReportItem}
use Rattle.bk_report.specs.declared.item.ReportItem.TheVariants.{Call, Fault, Byte, End}
use Rattle.bk_report.specs.Text.{text_of, IsAnswered, IsWithin, IsPrinted, IsLine}
use Rattle.bk_report.specs.Reading.{is_digit, front, answer_in, call_of, fault_of, byte_of, end_of, guess_of, is_answered, checked, read_of}
use Rattle.bk_report.proofs.Again.{guess_again}

pub answered_from_test : (item : ReportItem) → is_answered item ≡ true → IsAnswered item
answered_from_test (Call slot turn subject number regs answer cause) h = by (nat_eq answer 0) refl h where
  by : (b : Bool) → nat_eq answer 0 ≡ b → cond b (nat_eq cause 0) (nat_lt answer 3 && not (nat_eq cause 0)) ≡ true
      → (answer < 3) × ((answer ≡ 0) ↔ (cause ≡ 0))
  by true e h =
      let zero : answer ≡ 0 = grind (arith, nat_tests, e) in
      let none : cause ≡ 0 = grind (arith, nat_tests, h) in
      (omega (arith, zero), ((λ x. none), (λ x. zero)))
  by false e h =
      let p = and_parts (nat_lt answer 3) (not (nat_eq cause 0)) h in
      let small : answer < 3 = grind (arith, nat_tests, p.0) in
      let some : answer ≢ 0 = grind (arith, nat_tests, e) in
      let cause_some : cause ≢ 0 = grind (arith, nat_tests, p.1) in
      (small, ((λ x. absurd (some x)), (λ x. absurd (cause_some x))))
answered_from_test (Fault slot turn subject cause pc entered) h = tt
answered_from_test (Byte slot turn line byte) h = tt
answered_from_test (End slots turns references calls) h = tt

test_from_answered : (item : ReportItem) → IsAnswered item → is_answered item ≡ true
test_from_answered (Call slot turn subject number regs answer cause) h = by (nat_eq answer 0) refl where
  by : (b : Bool) → nat_eq answer 0 ≡ b → cond b (nat_eq cause 0) (nat_lt answer 3 && not (nat_eq cause 0)) ≡ true
  by true e = let zero : answer ≡ 0 = grind (arith, nat_tests, e) in let none : cause ≡ 0 = h.1.0 zero in grind (arith, nat_tests, none)
  by false e =
      let some : answer ≢ 0 = grind (arith, nat_tests, e) in
      let cause_some : cause ≢ 0 = λ x. some (h.1.1 x) in
      let a : nat_lt answer 3 ≡ true = grind (arith, nat_tests, h.0) in
      let b : nat_eq cause 0 ≡ false = grind (arith, nat_tests, cause_some) in
      rw (a, b) refl
test_from_answered (Fault slot turn subject cause pc entered) h = refl
test_from_answered (Byte slot turn line byte) h = refl
test_from_answered (End slots turns references calls) h = refl

-- ---- a guess is within its types

front-small : (base n : ℕ) (bytes : List ℕ) → n < 2 ^ 64 → (front base n bytes).0 < 2 ^ 64
front-small base n [] h = h
front-small base n (b ∷ bytes) h = by (is_digit b) (front-small base ((n * base % 2 ^ 64 + (b - 48)) % 2 ^ 64) bytes (omega arith)) where
  by : (t : Bool) → (front base ((n * base % 2 ^ 64 + (b - 48)) % 2 ^ 64) bytes).0 < 2 ^ 64
      → (cond t (front base ((n * base % 2 ^ 64 + (b - 48)) % 2 ^ 64) bytes) (n, bytes)).0 < 2 ^ 64
  by true rest = rest
  by false rest = h

answer-within : (bytes : List ℕ) → (answer_in bytes).0 < 3
answer-within bytes = by (slice_index bytes 0 == 121) (slice_index bytes 0 == 110) where
  by : (s t : Bool) → (cond {A = ℕ × List ℕ} s (0, drop 4 bytes) (cond t (1, drop 3 bytes) (2, drop 2 bytes))).0 < 3
  by true t = omega arith
  by false true = omega arith
  by false false = omega arith

call-within : (bytes : List ℕ) → IsWithin (call_of bytes)
call-within bytes = (
  omega arith,
  omega arith,
  omega arith,
  omega arith,
  refl,
  (omega arith, (omega arith, (omega arith, (omega arith, (omega arith, (omega arith, tt)))))),
  omega arith,
)

fault-within : (bytes : List ℕ) → IsWithin (fault_of bytes)
fault-within bytes = (omega arith, omega arith, omega arith, omega arith, omega arith)

byte-within : (bytes : List ℕ) → IsWithin (byte_of bytes)
byte-within bytes = (omega arith, omega arith, omega arith, omega arith)

end-within : (bytes : List ℕ) → IsWithin (end_of bytes)
end-within bytes = (omega arith, omega arith, front-small 10 0 (front 10 0 (front 10 0 bytes).1).1 (omega arith), omega arith)

guess-within : (bytes : List ℕ) → IsWithin (guess_of bytes)
unfolding guess_of
guess-within bytes = by (slice_index bytes 0 == 67) (slice_index bytes 0 == 70) (slice_index bytes 0 == 76) where
  by : (c f l : Bool) → IsWithin (cond c (call_of (drop 2 bytes)) (cond f (fault_of (drop 2 bytes)) (cond l (byte_of (drop 2 bytes)) (end_of (drop 4 bytes)))))
  by true f l = call-within (drop 2 bytes)
  by false true l = fault-within (drop 2 bytes)
  by false false true = byte-within (drop 2 bytes)
  by false false false = end-within (drop 4 bytes)

-- ---- what is read

-- a line that stands in front
starts : (bytes line : List ℕ) → (starts_with nat_eq bytes line ≡ true → bytes ≡ line ++ drop (length line) bytes) × ((rest : List ℕ) → bytes ≡ line ++ rest → starts_with nat_eq bytes line ≡ true)
starts bytes line = starts_is Decides-eqb bytes line (starts_with nat_eq bytes line) refl

found_by : (item : ReportItem) (bytes : List ℕ) → IsWithin item → IfSome (checked item bytes) (λ read. IsLine bytes read.0 read.1)
found_by item bytes within = by (is_answered item && starts_with nat_eq bytes (text_of item)) refl where
  by : (b : Bool) → (is_answered item && starts_with nat_eq bytes (text_of item)) ≡ b
      → IfSome (cond {A = Option (ReportItem × ℕ)} b (Some (item, length (text_of item))) None) (λ read. IsLine bytes read.0 read.1)
  by true e =
      let p = and_parts (is_answered item) (starts_with nat_eq bytes (text_of item)) e in
      record {
        printed = record { within = within; answered = answered_from_test item p.0 };
        len = refl;
        line = (starts bytes (text_of item)).0 p.1;
      }
  by false e = tt

pub read_found : (bytes : List ℕ) → IfSome (read_of bytes) (λ read. IsLine bytes read.0 read.1)
unfolding read_of
read_found bytes = found_by (guess_of bytes) bytes (guess-within bytes)

pub read_again : (bytes : List ℕ) (item : ReportItem) (rest : List ℕ) → IsPrinted item → bytes ≡ text_of item ++ rest
    → read_of bytes ≡ Some (item, length (text_of item))
unfolding read_of
read_again bytes item rest h e =
    let same : guess_of bytes ≡ item = ap guess_of e ∙ guess_again item rest h in
    let stands : starts_with nat_eq bytes (text_of item) ≡ true = (starts bytes (text_of item)).1 rest e in
    let answered : is_answered item ≡ true = test_from_answered item h.answered in
    let both : (is_answered item && starts_with nat_eq bytes (text_of item)) ≡ true = rw (answered, stands) refl in
    ap (λ g. checked g bytes) same
    ∙ ap (λ b. cond {A = Option (ReportItem × ℕ)} b (Some (item, length (text_of item))) None) both

pub read_none : (r : Option (ReportItem × ℕ)) (bytes : List ℕ) → r ≡ read_of bytes
    → IfNone r ((item : ReportItem) (rest : List ℕ) → IsPrinted item → bytes ≢ text_of item ++ rest)
read_none (Some x) bytes e = tt
read_none None bytes e = λ item rest h f.
    let bad : ◌≡◌ {A = Option (ReportItem × ℕ)} None (Some (item, length (text_of item))) = e ∙ read_again bytes item rest h f in
    cc
