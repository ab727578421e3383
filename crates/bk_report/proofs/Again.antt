-- An item's line is read again as the item, whatever follows it.
use Rattle.std.proofs.Common.{◌≡◌, ℕ, zero, suc, ◌+◌, ◌-◌, ◌*◌, ◌/◌, ◌%◌, ◌^◌, ◌<◌, Bool, true, false, List, [], ◌∷◌, ◌++◌, length, drop, refl, sym, ◌∙◌, ap}
use Rattle.std.proofs.Common.{arith, append_assoc, decimal}
use Rattle.std.specs.Prelude.{◌==◌, slice_index}
use Rattle.std.specs.List.{AllByRecursion}
use Rattle.std.proofs.lemmas.Bool.Decides.{nat_tests}
use Rattle.std.proofs.lemmas.Fmt.{decimal_by_steps}
use Rattle.bk_report.specs.declared.item.ReportItem.{ReportItem}
use Rattle.bk_report.specs.declared.item.ReportItem.TheVariants.{Call, Fault, Byte, End}
use Rattle.bk_report.specs.Text.{octal3, octal6, words_of, answer_of, how_of, text_of, IsPrinted}
use Rattle.bk_report.specs.Reading.{is_digit, front, words_in, answer_in, call_with, call_of, fault_of, byte_of, end_of, guess_of}

-- one digit in front
front_digit : (base n d : ℕ) (tail : List ℕ) → d < 10 → n * base + d < 2 ^ 64 → front base n ((48 + d) ∷ tail) ≡ front base (n * base + d) tail
front_digit base n d tail h small =
    let t : is_digit (48 + d) ≡ true = grind (arith, nat_tests) in
    let e : (n * base % 2 ^ 64 + (48 + d - 48)) % 2 ^ 64 ≡ n * base + d = omega (arith, small) in
    rw (t, e) refl

-- the digits in front of a tail
front_decimal : (n : ℕ) → n < 2 ^ 64 → (m : ℕ) → m ≡ n → (tail : List ℕ) → front 10 0 (decimal n ++ tail) ≡ front 10 m tail
front_decimal n h = λ m e tail.
    decimal_by_steps (λ n ds. (m : ℕ) → m ≡ n → (tail : List ℕ) → n < 2 ^ 64 → front 10 0 (ds ++ tail) ≡ front 10 m tail)
    (λ n small m e tail bound. front_digit 10 0 n tail small (omega (arith, small)) ∙ ap (λ k. front 10 k tail) (omega (arith, e)))
    (λ n ds big above m e tail bound.
    ap (front 10 0) (append_assoc ds ((48 + n % 10) ∷ []) tail)
    ∙ above (n / 10) refl ((48 + n % 10) ∷ tail) (omega (arith, bound))
    ∙ front_digit 10 (n / 10) (n % 10) tail (omega arith) (omega (arith, bound))
    ∙ ap (λ k. front 10 k tail) (omega (arith, e)))
    n h m e tail h

-- a number and the space or the LF after it
front_field : (n : ℕ) → n < 2 ^ 64 → (tail : List ℕ) → front 10 0 (decimal n ++ (32 ∷ tail)) ≡ (n, tail)
front_field n h tail = front_decimal n h n refl (32 ∷ tail)

front_last : (n : ℕ) → n < 2 ^ 64 → (tail : List ℕ) → front 10 0 (decimal n ++ (10 ∷ tail)) ≡ (n, tail)
front_last n h tail = front_decimal n h n refl (10 ∷ tail)

front_octal3 : (n : ℕ) → n < 2 ^ 8 → (tail : List ℕ) → front 8 0 (octal3 n ++ tail) ≡ front 8 n tail
front_octal3 n h tail =
    let a : n / 64 < 10 = omega (arith, h) in
    let whole : ((0 * 8 + n / 64) * 8 + n / 8 % 8) * 8 + n % 8 ≡ n = omega (arith, h) in
    front_digit 8 0 (n / 64) ((48 + n / 8 % 8) ∷ (48 + n % 8) ∷ tail) a (omega (arith, h))
    ∙ front_digit 8 (0 * 8 + n / 64) (n / 8 % 8) ((48 + n % 8) ∷ tail) (omega arith) (omega (arith, h))
    ∙ front_digit 8 ((0 * 8 + n / 64) * 8 + n / 8 % 8) (n % 8) tail (omega arith) (omega (arith, h))
    ∙ ap (λ m. front 8 m tail) whole

-- a word of six digits is its highest digit and five more
front_octal6 : (n : ℕ) → n < 2 ^ 16 → (tail : List ℕ) → front 8 0 (octal6 n ++ (32 ∷ tail)) ≡ (n, tail)
front_octal6 n h tail =
    let d5 = n / 32768 in
    let d4 = n / 4096 % 8 in
    let d3 = n / 512 % 8 in
    let d2 = n / 64 % 8 in
    let d1 = n / 8 % 8 in
    let d0 = n % 8 in
    let n5 : 0 * 8 + d5 ≡ n / 32768 = omega arith in
    let n4 : n / 32768 * 8 + d4 ≡ n / 4096 = omega arith in
    let n3 : n / 4096 * 8 + d3 ≡ n / 512 = omega arith in
    let n2 : n / 512 * 8 + d2 ≡ n / 64 = omega arith in
    let n1 : n / 64 * 8 + d1 ≡ n / 8 = omega arith in
    let n0 : n / 8 * 8 + d0 ≡ n = omega arith in
    let end = 32 ∷ tail in
    front_digit 8 0 d5 ((48 + d4) ∷ (48 + d3) ∷ (48 + d2) ∷ (48 + d1) ∷ (48 + d0) ∷ end) (omega (arith, h)) (omega (arith, h))
    ∙ ap (λ m. front 8 m ((48 + d4) ∷ (48 + d3) ∷ (48 + d2) ∷ (48 + d1) ∷ (48 + d0) ∷ end)) n5
    ∙ front_digit 8 (n / 32768) d4 ((48 + d3) ∷ (48 + d2) ∷ (48 + d1) ∷ (48 + d0) ∷ end) (omega arith) (omega (arith, h))
    ∙ ap (λ m. front 8 m ((48 + d3) ∷ (48 + d2) ∷ (48 + d1) ∷ (48 + d0) ∷ end)) n4
    ∙ front_digit 8 (n / 4096) d3 ((48 + d2) ∷ (48 + d1) ∷ (48 + d0) ∷ end) (omega arith) (omega (arith, h))
    ∙ ap (λ m. front 8 m ((48 + d2) ∷ (48 + d1) ∷ (48 + d0) ∷ end)) n3
    ∙ front_digit 8 (n / 512) d2 ((48 + d1) ∷ (48 + d0) ∷ end) (omega arith) (omega (arith, h))
    ∙ ap (λ m. front 8 m ((48 + d1) ∷ (48 + d0) ∷ end)) n2
    ∙ front_digit 8 (n / 64) d1 ((48 + d0) ∷ end) (omega arith) (omega (arith, h))
    ∙ ap (λ m. front 8 m ((48 + d0) ∷ end)) n1
    ∙ front_digit 8 (n / 8) d0 end (omega arith) (omega (arith, h))
    ∙ ap (λ m. front 8 m end) n0

-- words and what follows them begin with a space
words_begin : (words tail : List ℕ) → words_of words ++ (32 ∷ tail) ≡ 32 ∷ drop 1 (words_of words ++ (32 ∷ tail))
words_begin [] tail = refl
words_begin (word ∷ words) tail = refl

words_again : (words tail : List ℕ) → AllByRecursion (λ word. word < 2 ^ 16) words
    → words_in (length words) (drop 1 (words_of words ++ (32 ∷ tail))) ≡ (words, tail)
words_again [] tail h = refl
words_again (word ∷ words) tail h =
    let shape : drop 1 (words_of (word ∷ words) ++ (32 ∷ tail)) ≡ octal6 word ++ (32 ∷ drop 1 (words_of words ++ (32 ∷ tail))) =
    ap (λ more. octal6 word ++ more) (words_begin words tail) in
    let one : front 8 0 (drop 1 (words_of (word ∷ words) ++ (32 ∷ tail))) ≡ (word, drop 1 (words_of words ++ (32 ∷ tail))) =
    ap (front 8 0) shape ∙ front_octal6 word h.0 (drop 1 (words_of words ++ (32 ∷ tail))) in
    let small : word % 2 ^ 16 ≡ word = omega (arith, h.0) in
    rw (one, words_again words tail h.1, small) refl

answer_again : (answer : ℕ) (tail : List ℕ) → answer < 3 → answer_in (answer_of answer ++ (32 ∷ tail)) ≡ (answer, tail)
answer_again zero tail h = refl
answer_again (suc zero) tail h = refl
answer_again (suc (suc zero)) tail h = refl
answer_again (suc (suc (suc n))) tail h = absurd (omega (arith, h))

how_again : (entered : Bool) (tail : List ℕ) → (slice_index (how_of entered ++ tail) 0 == 101) ≡ entered
how_again true tail = refl
how_again false tail = refl

call_again : (slot turn subject number : ℕ) (regs : List ℕ) (answer cause : ℕ) (rest : List ℕ)
    → slot < 2 ^ 32 → turn < 2 ^ 16 → subject < 2 ^ 8 → number < 2 ^ 8 → length regs ≡ 6 → AllByRecursion (λ word. word < 2 ^ 16) regs → answer < 3 → cause < 2 ^ 8
    → call_of (decimal slot ++ (32 ∷ (decimal turn ++ (32 ∷ (decimal subject ++ (32 ∷ (octal3 number
    ++ (words_of regs ++ (32 ∷ (answer_of answer ++ (32 ∷ (decimal cause ++ (10 ∷ rest)))))))))))))
    ≡ Call slot turn subject number regs answer cause
call_again slot turn subject number regs answer cause rest a b c d six words e f =
    let after_words : List ℕ = answer_of answer ++ (32 ∷ (decimal cause ++ (10 ∷ rest))) in
    let after_number : List ℕ = words_of regs ++ (32 ∷ after_words) in
    let number_is : front 8 0 (octal3 number ++ after_number) ≡ (number, drop 1 after_number) =
    front_octal3 number d after_number ∙ ap (front 8 number) (words_begin regs after_words) in
    let words_are : words_in 6 (drop 1 after_number) ≡ (regs, after_words) =
    ap (λ n. words_in n (drop 1 after_number)) (sym six) ∙ words_again regs after_words words in
    let slot_small : slot % 2 ^ 32 ≡ slot = omega (arith, a) in
    let turn_small : turn % 2 ^ 16 ≡ turn = omega (arith, b) in
    let subject_small : subject % 2 ^ 8 ≡ subject = omega (arith, c) in
    let number_small : number % 2 ^ 8 ≡ number = omega (arith, d) in
    let cause_small : cause % 2 ^ 8 ≡ cause = omega (arith, f) in
    let fields : call_of (decimal slot ++ (32 ∷ (decimal turn ++ (32 ∷ (decimal subject ++ (32 ∷ (octal3 number ++ after_number)))))))
    ≡ call_with slot turn subject number (words_in 6 (drop 1 after_number)) =
    rw (
      front_field slot (omega (arith, a)) (decimal turn ++ (32 ∷ (decimal subject ++ (32 ∷ (octal3 number ++ after_number))))),
      front_field turn (omega (arith, b)) (decimal subject ++ (32 ∷ (octal3 number ++ after_number))),
      front_field subject (omega (arith, c)) (octal3 number ++ after_number),
      number_is,
    ) refl in
    fields
    ∙ ap (call_with slot turn subject number) words_are
    ∙ rw (
      answer_again answer (decimal cause ++ (10 ∷ rest)) e,
      front_last cause (omega (arith, f)) rest,
      slot_small,
      turn_small,
      subject_small,
      number_small,
      cause_small,
    ) refl

fault_again : (slot turn subject cause pc : ℕ) (entered : Bool) (rest : List ℕ)
    → slot < 2 ^ 32 → turn < 2 ^ 16 → subject < 2 ^ 8 → cause < 2 ^ 8 → pc < 2 ^ 16
    → fault_of (decimal slot ++ (32 ∷ (decimal turn ++ (32 ∷ (decimal subject ++ (32 ∷ (decimal cause ++ (32 ∷ (octal6 pc ++ (32 ∷ (how_of entered ++ (10 ∷ rest))))))))))))
    ≡ Fault slot turn subject cause pc entered
fault_again slot turn subject cause pc entered rest a b c d e =
    let tail : List ℕ = how_of entered ++ (10 ∷ rest) in
    let slot_small : slot % 2 ^ 32 ≡ slot = omega (arith, a) in
    let turn_small : turn % 2 ^ 16 ≡ turn = omega (arith, b) in
    let subject_small : subject % 2 ^ 8 ≡ subject = omega (arith, c) in
    let cause_small : cause % 2 ^ 8 ≡ cause = omega (arith, d) in
    let pc_small : pc % 2 ^ 16 ≡ pc = omega (arith, e) in
    rw (
      front_field slot (omega (arith, a)) (decimal turn ++ (32 ∷ (decimal subject ++ (32 ∷ (decimal cause ++ (32 ∷ (octal6 pc ++ (32 ∷ tail)))))))),
      front_field turn (omega (arith, b)) (decimal subject ++ (32 ∷ (decimal cause ++ (32 ∷ (octal6 pc ++ (32 ∷ tail)))))),
      front_field subject (omega (arith, c)) (decimal cause ++ (32 ∷ (octal6 pc ++ (32 ∷ tail)))),
      front_field cause (omega (arith, d)) (octal6 pc ++ (32 ∷ tail)),
      front_octal6 pc e tail,
      how_again entered (10 ∷ rest),
      slot_small,
      turn_small,
      subject_small,
      cause_small,
      pc_small,
    ) refl

byte_again : (slot turn line byte : ℕ) (rest : List ℕ) → slot < 2 ^ 32 → turn < 2 ^ 16 → line < 2 ^ 8 → byte < 2 ^ 8
    → byte_of (decimal slot ++ (32 ∷ (decimal turn ++ (32 ∷ (decimal line ++ (32 ∷ (octal3 byte ++ (10 ∷ rest)))))))) ≡ Byte slot turn line byte
byte_again slot turn line byte rest a b c d =
    let slot_small : slot % 2 ^ 32 ≡ slot = omega (arith, a) in
    let turn_small : turn % 2 ^ 16 ≡ turn = omega (arith, b) in
    let line_small : line % 2 ^ 8 ≡ line = omega (arith, c) in
    let byte_small : byte % 2 ^ 8 ≡ byte = omega (arith, d) in
    rw (
      front_field slot (omega (arith, a)) (decimal turn ++ (32 ∷ (decimal line ++ (32 ∷ (octal3 byte ++ (10 ∷ rest)))))),
      front_field turn (omega (arith, b)) (decimal line ++ (32 ∷ (octal3 byte ++ (10 ∷ rest)))),
      front_field line (omega (arith, c)) (octal3 byte ++ (10 ∷ rest)),
      front_octal3 byte d (10 ∷ rest),
      slot_small,
      turn_small,
      line_small,
      byte_small,
    ) refl

end_again : (slots turns references calls : ℕ) (rest : List ℕ) → slots < 2 ^ 32 → turns < 2 ^ 32 → references < 2 ^ 64 → calls < 2 ^ 32
    → end_of (decimal slots ++ (32 ∷ (decimal turns ++ (32 ∷ (decimal references ++ (32 ∷ (decimal calls ++ (10 ∷ rest)))))))) ≡ End slots turns references calls
end_again slots turns references calls rest a b c d =
    let slots_small : slots % 2 ^ 32 ≡ slots = omega (arith, a) in
    let turns_small : turns % 2 ^ 32 ≡ turns = omega (arith, b) in
    let calls_small : calls % 2 ^ 32 ≡ calls = omega (arith, d) in
    rw (
      front_field slots (omega (arith, a)) (decimal turns ++ (32 ∷ (decimal references ++ (32 ∷ (decimal calls ++ (10 ∷ rest)))))),
      front_field turns (omega (arith, b)) (decimal references ++ (32 ∷ (decimal calls ++ (10 ∷ rest)))),
      front_field references c (decimal calls ++ (10 ∷ rest)),
      front_last calls (omega (arith, d)) rest,
      slots_small,
      turns_small,
      calls_small,
    ) refl

-- the line of an item is what is guessed
pub guess_again : (item : ReportItem) (rest : List ℕ) → IsPrinted item → guess_of (text_of item ++ rest) ≡ item
unfolding guess_of
guess_again (Call slot turn subject number regs answer cause) rest h =
    let w = h.within in
    simp append_assoc (call_again slot turn subject number regs answer cause rest w.0 w.1 w.2 w.3 w.4 w.5 h.answered.0 w.6)
guess_again (Fault slot turn subject cause pc entered) rest h =
    let w = h.within in
    simp append_assoc (fault_again slot turn subject cause pc entered rest w.0 w.1 w.2 w.3 w.4)
guess_again (Byte slot turn line byte) rest h =
    let w = h.within in
    simp append_assoc (byte_again slot turn line byte rest w.0 w.1 w.2 w.3)
guess_again (End slots turns references calls) rest h =
    let w = h.within in
    simp append_assoc (end_again slots turns references calls rest w.0 w.1 w.2 w.3)
