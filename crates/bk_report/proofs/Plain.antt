-- Lines of items: they hold no LF, and their fields hold no space.
use Rattle.std.proofs.Common.{◌≡◌, ◌≢◌, ℕ, zero, suc, ◌+◌, ◌/◌, ◌%◌, ◌^◌, ◌<◌, ◌≤◌, Bool, true, false, List, [], ◌∷◌, ◌++◌, refl, sym, ◌∙◌, ap, arith}
use Rattle.std.proofs.Common.{append_assoc, codes, decimal, cond, nat_eq, nat_lt}
use Rattle.std.specs.Prelude.{◌==◌, ◌&&◌, ◌||◌, bytes_eq}
use Rattle.std.specs.List.{All, AllByRecursion, slice_split, flat_map, filter}
use Rattle.std.proofs.Math.Bool.{and-false, and-true, or-false}
use Rattle.std.proofs.lemmas.Bool.Decides.{nat_tests}
use Rattle.std.proofs.lemmas.Fmt.{decimal_by_steps, decimal_injective}
use Rattle.std.proofs.lemmas.List.{append-nil}
use Rattle.std.proofs.lemmas.List.Elements.{All-nil, All-cons, All-append, All-push, All-weaker, recursion_from_All}
use Rattle.std.proofs.lemmas.List.Splits.{slice_split_at, slice_split_none}
use Rattle.std.proofs.lemmas.Slice.Eq.{bytes_eq-Decides}
use Rattle.bk_report.specs.declared.item.ReportItem.{ReportItem}
use Rattle.bk_report.specs.declared.item.ReportItem.TheVariants.{Call, Fault, Byte, End}
use Rattle.bk_report.specs.Text.{octal3, octal6, words_of, answer_of, how_of, text_of, lines_of, IsNumbered}
use Rattle.bk_report.specs.Lines.{names_below, names_in, are_record, kept, line_records_of, is_byte_in}
use Rattle.bk_report.proofs.Naming.{line_records_of-cut, line_records_of-none}

-- a text above the space
abbrev Plain : List ℕ → Type 0
Plain text = All (λ b. 32 < b) text

-- a text without an LF
abbrev OneLine : List ℕ → Type 0
OneLine text = All (λ b. (b == 10) ≡ false) text

apart : (c b : ℕ) → c ≤ 32 → 32 < b → (b == c) ≡ false
apart c b low high = grind (arith, nat_tests, low, high)

one_line : (text : List ℕ) → Plain text → OneLine text
one_line text p = All-weaker (λ b. 32 < b) (λ b. (b == 10) ≡ false) (λ b h. apart 10 b (omega arith) h) text p

no_space : (text : List ℕ) → Plain text → All (λ b. (b == 32) ≡ false) text
no_space text p = All-weaker (λ b. 32 < b) (λ b. (b == 32) ≡ false) (λ b h. apart 32 b (omega arith) h) text p

above : (b : ℕ) (text : List ℕ) → 32 < b → Plain text → Plain (b ∷ text)
above b text h p = All-cons (λ b. 32 < b) b text h p

none : Plain []
none = All-nil (λ b. 32 < b)

plain_decimal : (n : ℕ) → n < 2 ^ 64 → Plain (decimal n)
plain_decimal n small =
    decimal_by_steps (λ n ds. Plain ds) (λ n h. above (48 + n) [] (omega arith) none)
    (λ n ds big p. All-push (λ b. 32 < b) ds (48 + n % 10) p (omega arith)) n small

plain_octal3 : (n : ℕ) → Plain (octal3 n)
plain_octal3 n =
    above (48 + n / 64) ((48 + n / 8 % 8) ∷ (48 + n % 8) ∷ []) (omega arith)
    (above (48 + n / 8 % 8) ((48 + n % 8) ∷ []) (omega arith) (above (48 + n % 8) [] (omega arith) none))

-- the three low digits of a word
abbrev octal_low : ℕ → List ℕ
octal_low n = (48 + n / 64 % 8) ∷ (48 + n / 8 % 8) ∷ (48 + n % 8) ∷ []

plain_octal6 : (n : ℕ) → Plain (octal6 n)
plain_octal6 n =
    above (48 + n / 32768) ((48 + n / 4096 % 8) ∷ (48 + n / 512 % 8) ∷ octal_low n) (omega arith)
    (above (48 + n / 4096 % 8) ((48 + n / 512 % 8) ∷ octal_low n) (omega arith)
    (above (48 + n / 512 % 8) (octal_low n) (omega arith)
    (above (48 + n / 64 % 8) ((48 + n / 8 % 8) ∷ (48 + n % 8) ∷ []) (omega arith)
    (above (48 + n / 8 % 8) ((48 + n % 8) ∷ []) (omega arith) (above (48 + n % 8) [] (omega arith) none)))))

plain_answer : (answer : ℕ) → Plain (answer_of answer)
plain_answer answer = by (answer == 0) (answer == 1) where
  by : (a b : Bool) → Plain (cond a (codes "yes") (cond b (codes "no") (codes "?")))
  by true b = above 121 (101 ∷ 115 ∷ []) (omega arith) (above 101 (115 ∷ []) (omega arith) (above 115 [] (omega arith) none))
  by false true = above 110 (111 ∷ []) (omega arith) (above 111 [] (omega arith) none)
  by false false = above 63 [] (omega arith) none

plain_how : (entered : Bool) → Plain (how_of entered)
plain_how true =
    above 101 (110 ∷ 116 ∷ 101 ∷ 114 ∷ []) (omega arith) (above 110 (116 ∷ 101 ∷ 114 ∷ []) (omega arith)
    (above 116 (101 ∷ 114 ∷ []) (omega arith) (above 101 (114 ∷ []) (omega arith) (above 114 [] (omega arith) none))))
plain_how false =
    above 115 (116 ∷ 111 ∷ 112 ∷ []) (omega arith) (above 116 (111 ∷ 112 ∷ []) (omega arith)
    (above 111 (112 ∷ []) (omega arith) (above 112 [] (omega arith) none)))

-- a field, a space and more
field : (text more : List ℕ) → Plain text → OneLine more → OneLine (text ++ (32 ∷ more))
field text more p q = All-append (λ b. (b == 10) ≡ false) text (32 ∷ more) (one_line text p) (All-cons (λ b. (b == 10) ≡ false) 32 more refl q)

words_field : (words more : List ℕ) → OneLine more → OneLine (words_of words ++ (32 ∷ more))
words_field [] more q = All-cons (λ b. (b == 10) ≡ false) 32 more refl q
words_field (word ∷ words) more q =
    All-cons (λ b. (b == 10) ≡ false) 32 (octal6 word ++ (words_of words ++ (32 ∷ more))) refl
    (All-append (λ b. (b == 10) ≡ false) (octal6 word) (words_of words ++ (32 ∷ more)) (one_line (octal6 word) (plain_octal6 word)) (words_field words more q))

-- ---- the line of an item without its LF

abbrev body : ReportItem → List ℕ
body (Call slot turn subject number regs answer cause) =
    67 ∷ 32 ∷ (decimal slot ++ (32 ∷ (decimal turn ++ (32 ∷ (decimal subject ++ (32 ∷ (octal3 number
    ++ (words_of regs ++ (32 ∷ (answer_of answer ++ (32 ∷ decimal cause)))))))))))
body (Fault slot turn subject cause pc entered) =
    70 ∷ 32 ∷ (decimal slot ++ (32 ∷ (decimal turn ++ (32 ∷ (decimal subject ++ (32 ∷ (decimal cause
    ++ (32 ∷ (octal6 pc ++ (32 ∷ how_of entered))))))))))
body (Byte slot turn line byte) =
    76 ∷ 32 ∷ (decimal slot ++ (32 ∷ (decimal turn ++ (32 ∷ (decimal line ++ (32 ∷ octal3 byte))))))
body (End slots turns references calls) =
    69 ∷ 78 ∷ 68 ∷ 32 ∷ (decimal slots ++ (32 ∷ (decimal turns ++ (32 ∷ (decimal references ++ (32 ∷ decimal calls))))))

text_of-body : (item : ReportItem) (more : List ℕ) → text_of item ++ more ≡ body item ++ (10 ∷ more)
text_of-body (Call slot turn subject number regs answer cause) more = simp append_assoc
text_of-body (Fault slot turn subject cause pc entered) more = simp append_assoc
text_of-body (Byte slot turn line byte) more = simp append_assoc
text_of-body (End slots turns references calls) more = simp append_assoc

after_kind : (b : ℕ) (text : List ℕ) → (b == 10) ≡ false → OneLine text → OneLine (b ∷ 32 ∷ text)
after_kind b text e p = All-cons (λ b. (b == 10) ≡ false) b (32 ∷ text) e (All-cons (λ b. (b == 10) ≡ false) 32 text refl p)

body_one_line : (item : ReportItem) → IsNumbered item → OneLine (body item)
body_one_line (Call slot turn subject number regs answer cause) w =
    after_kind 67 (decimal slot ++ (32 ∷ (decimal turn ++ (32 ∷ (decimal subject ++ (32 ∷ (octal3 number
    ++ (words_of regs ++ (32 ∷ (answer_of answer ++ (32 ∷ decimal cause))))))))))) refl
    (field (decimal slot) (decimal turn ++ (32 ∷ (decimal subject ++ (32 ∷ (octal3 number ++ (words_of regs ++ (32 ∷ (answer_of answer ++ (32 ∷ decimal cause)))))))))
    (plain_decimal slot w.0)
    (field (decimal turn) (decimal subject ++ (32 ∷ (octal3 number ++ (words_of regs ++ (32 ∷ (answer_of answer ++ (32 ∷ decimal cause)))))))
    (plain_decimal turn w.1)
    (field (decimal subject) (octal3 number ++ (words_of regs ++ (32 ∷ (answer_of answer ++ (32 ∷ decimal cause)))))
    (plain_decimal subject w.2)
    (All-append (λ b. (b == 10) ≡ false) (octal3 number) (words_of regs ++ (32 ∷ (answer_of answer ++ (32 ∷ decimal cause))))
    (one_line (octal3 number) (plain_octal3 number))
    (words_field regs (answer_of answer ++ (32 ∷ decimal cause))
    (field (answer_of answer) (decimal cause) (plain_answer answer) (one_line (decimal cause) (plain_decimal cause w.3))))))))
body_one_line (Fault slot turn subject cause pc entered) w =
    after_kind 70 (decimal slot ++ (32 ∷ (decimal turn ++ (32 ∷ (decimal subject ++ (32 ∷ (decimal cause ++ (32 ∷ (octal6 pc ++ (32 ∷ how_of entered)))))))))) refl
    (field (decimal slot) (decimal turn ++ (32 ∷ (decimal subject ++ (32 ∷ (decimal cause ++ (32 ∷ (octal6 pc ++ (32 ∷ how_of entered))))))))
    (plain_decimal slot w.0)
    (field (decimal turn) (decimal subject ++ (32 ∷ (decimal cause ++ (32 ∷ (octal6 pc ++ (32 ∷ how_of entered))))))
    (plain_decimal turn w.1)
    (field (decimal subject) (decimal cause ++ (32 ∷ (octal6 pc ++ (32 ∷ how_of entered))))
    (plain_decimal subject w.2)
    (field (decimal cause) (octal6 pc ++ (32 ∷ how_of entered)) (plain_decimal cause w.3)
    (field (octal6 pc) (how_of entered) (plain_octal6 pc) (one_line (how_of entered) (plain_how entered)))))))
body_one_line (Byte slot turn line byte) w =
    after_kind 76 (decimal slot ++ (32 ∷ (decimal turn ++ (32 ∷ (decimal line ++ (32 ∷ octal3 byte)))))) refl
    (field (decimal slot) (decimal turn ++ (32 ∷ (decimal line ++ (32 ∷ octal3 byte)))) (plain_decimal slot w.0)
    (field (decimal turn) (decimal line ++ (32 ∷ octal3 byte)) (plain_decimal turn w.1)
    (field (decimal line) (octal3 byte) (plain_decimal line (omega (arith, w.2))) (one_line (octal3 byte) (plain_octal3 byte)))))
body_one_line (End slots turns references calls) w =
    All-cons (λ b. (b == 10) ≡ false) 69 (78 ∷ 68 ∷ 32 ∷ (decimal slots ++ (32 ∷ (decimal turns ++ (32 ∷ (decimal references ++ (32 ∷ decimal calls))))))) refl
    (All-cons (λ b. (b == 10) ≡ false) 78 (68 ∷ 32 ∷ (decimal slots ++ (32 ∷ (decimal turns ++ (32 ∷ (decimal references ++ (32 ∷ decimal calls))))))) refl
    (after_kind 68 (decimal slots ++ (32 ∷ (decimal turns ++ (32 ∷ (decimal references ++ (32 ∷ decimal calls)))))) refl
    (field (decimal slots) (decimal turns ++ (32 ∷ (decimal references ++ (32 ∷ decimal calls)))) (plain_decimal slots w.0)
    (field (decimal turns) (decimal references ++ (32 ∷ decimal calls)) (plain_decimal turns w.1)
    (field (decimal references) (decimal calls) (plain_decimal references w.2) (one_line (decimal calls) (plain_decimal calls w.3)))))))

-- ---- which bodies are records

-- fields that begin with another word than L
other_kind : (set : ℕ → Bool) (kind : List ℕ) (more : List (List ℕ)) → bytes_eq kind (76 ∷ []) ≡ false → are_record set (kind ∷ more) ≡ false
other_kind set kind [] e = refl
other_kind set kind (a ∷ []) e = refl
other_kind set kind (a ∷ b ∷ []) e = refl
other_kind set kind (a ∷ b ∷ c ∷ []) e = refl
other_kind set kind (a ∷ b ∷ c ∷ d ∷ []) e = rw e refl
other_kind set kind (a ∷ b ∷ c ∷ d ∷ f ∷ more) e = refl

no_text : (m n : ℕ) → m < 2 ^ 64 → n < 2 ^ 64 → m ≢ n → bytes_eq (decimal m) (decimal n) ≡ false
no_text m n a b other = by (bytes_eq (decimal m) (decimal n)) refl where
  by : (t : Bool) → bytes_eq (decimal m) (decimal n) ≡ t → bytes_eq (decimal m) (decimal n) ≡ false
  by true e = absurd (other (decimal_injective m n a b ((bytes_eq-Decides (decimal m) (decimal n)).0 e)))
  by false e = e

names_below-decimal : (set : ℕ → Bool) (line k : ℕ) → line < 2 ^ 64 → k ≤ 256 → names_below set (decimal line) k ≡ (nat_lt line k && set line)
names_below-decimal set line zero small le = let e : nat_lt line 0 ≡ false = grind (arith, nat_tests) in rw e refl
names_below-decimal set line (suc k) small le = by (nat_eq line k) refl (names_below-decimal set line k small (omega (arith, le))) where
  by : (b : Bool) → nat_eq line k ≡ b → names_below set (decimal line) k ≡ (nat_lt line k && set line)
      → names_below set (decimal line) (suc k) ≡ (nat_lt line (suc k) && set line)
  by true e rest =
      let same : line ≡ k = grind (arith, nat_tests, e) in
      let before : nat_lt line k ≡ false = grind (arith, nat_tests, same) in
      let within : nat_lt line (suc k) ≡ true = grind (arith, nat_tests, same) in
      let eq : bytes_eq (decimal line) (decimal k) ≡ true = (bytes_eq-Decides (decimal line) (decimal k)).1 (ap decimal same) in
      rw (rest, before, within, eq, ← same) (and-true (set line))
  by false e rest =
      let other : line ≢ k = grind (arith, nat_tests, e) in
      let same : nat_lt line (suc k) ≡ nat_lt line k = grind (arith, nat_tests, other) in
      let eq : bytes_eq (decimal line) (decimal k) ≡ false = no_text line k small (omega (arith, le)) other in
      rw (rest, same, eq) (ap (λ b. (nat_lt line k && set line) || b) (and-false (set k)) ∙ or-false (nat_lt line k && set line))

kept_body : (set : ℕ → Bool) (item : ReportItem) → IsNumbered item → are_record set (slice_split (λ b. b == 32) (body item)) ≡ is_byte_in set item
unfolding names_in
kept_body set (Call slot turn subject number regs answer cause) w =
    other_kind set (67 ∷ []) (slice_split (λ b. b == 32) (decimal slot ++ (32 ∷ (decimal turn ++ (32 ∷ (decimal subject ++ (32 ∷ (octal3 number
    ++ (words_of regs ++ (32 ∷ (answer_of answer ++ (32 ∷ decimal cause)))))))))))) refl
kept_body set (Fault slot turn subject cause pc entered) w =
    other_kind set (70 ∷ []) (slice_split (λ b. b == 32) (decimal slot ++ (32 ∷ (decimal turn ++ (32 ∷ (decimal subject ++ (32 ∷ (decimal cause
    ++ (32 ∷ (octal6 pc ++ (32 ∷ how_of entered))))))))))) refl
kept_body set (Byte slot turn line byte) w =
    let four : slice_split (λ b. b == 32) (decimal slot ++ (32 ∷ (decimal turn ++ (32 ∷ (decimal line ++ (32 ∷ octal3 byte))))))
    ≡ decimal slot ∷ decimal turn ∷ decimal line ∷ octal3 byte ∷ [] =
    slice_split_at (λ b. b == 32) (decimal slot) 32 (decimal turn ++ (32 ∷ (decimal line ++ (32 ∷ octal3 byte)))) (no_space (decimal slot) (plain_decimal slot w.0)) refl
    ∙ ap (λ more. decimal slot ∷ more) (
    slice_split_at (λ b. b == 32) (decimal turn) 32 (decimal line ++ (32 ∷ octal3 byte)) (no_space (decimal turn) (plain_decimal turn w.1)) refl
    ∙ ap (λ more. decimal turn ∷ more) (
    slice_split_at (λ b. b == 32) (decimal line) 32 (octal3 byte) (no_space (decimal line) (plain_decimal line (omega (arith, w.2)))) refl
    ∙ ap (λ more. decimal line ∷ more) (slice_split_none (λ b. b == 32) (octal3 byte) (no_space (octal3 byte) (plain_octal3 byte))))) in
    let within : nat_lt line 256 ≡ true = grind (arith, nat_tests, w.2) in
    let named : names_in set (decimal line) ≡ set line =
    names_below-decimal set line 256 (omega (arith, w.2)) (omega arith) ∙ rw within refl in
    ap (λ more. are_record set ((76 ∷ []) ∷ more)) four ∙ named
kept_body set (End slots turns references calls) w =
    other_kind set (69 ∷ 78 ∷ 68 ∷ []) (slice_split (λ b. b == 32) (decimal slots ++ (32 ∷ (decimal turns ++ (32 ∷ (decimal references ++ (32 ∷ decimal calls))))))) refl

-- ---- the records of items

records_of-more : (set : ℕ → Bool) (item : ReportItem) (more : List ℕ) → IsNumbered item
    → line_records_of set (text_of item ++ more) ≡ cond (is_byte_in set item) (text_of item) [] ++ line_records_of set more
records_of-more set item more w =
    let parts : slice_split (λ b. b == 10) (text_of item ++ more) ≡ body item ∷ slice_split (λ b. b == 10) more =
    ap (slice_split (λ b. b == 10)) (text_of-body item more) ∙ slice_split_at (λ b. b == 10) (body item) 10 more (body_one_line item w) refl in
    let line : body item ++ (10 ∷ []) ≡ text_of item = sym (text_of-body item []) ∙ append-nil (text_of item) in
    let one : kept set (body item) ≡ cond (is_byte_in set item) (text_of item) [] =
    ap (λ b. cond b (body item ++ (10 ∷ [])) []) (kept_body set item w) ∙ ap (λ t. cond (is_byte_in set item) t []) line in
    line_records_of-cut set (text_of item ++ more) (body item) more parts ∙ ap (λ t. t ++ line_records_of set more) one

pub by_recursion : (set : ℕ → Bool) (items : List ReportItem) → AllByRecursion IsNumbered items
    → line_records_of set (lines_of items) ≡ lines_of (filter (is_byte_in set) items)
unfolding lines_of
by_recursion set [] h = line_records_of-none set [] refl
by_recursion set (item ∷ items) h =
    let w = h.0 in
    records_of-more set item (flat_map text_of items) w ∙ by (is_byte_in set item) (by_recursion set items h.1) where
      by : (b : Bool) → line_records_of set (flat_map text_of items) ≡ flat_map text_of (filter (is_byte_in set) items)
          → cond b (text_of item) [] ++ line_records_of set (flat_map text_of items) ≡ flat_map text_of (cond b (item ∷ filter (is_byte_in set) items) (filter (is_byte_in set) items))
      by true rest = ap (λ t. text_of item ++ t) rest
      by false rest = rest

-- the line records of a report of items are the lines of its bytes on these lines
pub line_records_of-lines_of : (set : ℕ → Bool) (items : List ReportItem) → All IsNumbered items
    → line_records_of set (lines_of items) ≡ lines_of (filter (is_byte_in set) items)
line_records_of-lines_of set items h = by_recursion set items (recursion_from_All IsNumbered items h)
