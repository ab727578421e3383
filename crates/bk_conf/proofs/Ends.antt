-- A line ends a program by its fields exactly where it does by its front.
use Rattle.std.proofs.Common.{◌≡◌, ℕ, suc, ◌+◌, ◌<◌, ◌≤◌, Bool, true, false, List, [], ◌∷◌, length, take, drop, refl, sym, ap, subst, ◌∙◌, arith, cond, ◌==◌}
use Rattle.std.specs.Prelude.{bytes_eq, codes, filter, get_or, not, ◌&&◌}
use Rattle.std.specs.List.{onto_first, prefix_len, slice_split}
use Rattle.std.proofs.lemmas.Bool.Decides.{nat_tests}
use Rattle.std.proofs.Math.Bool.{and_assoc}
use Rattle.bk_expr.specs.Text.{past_blanks}
use Rattle.bk_conf.specs.Ends.{ends_program, is_alone, is_comment, is_over}
use Rattle.bk_conf.specs.Lines.{Text, content, ends, fields_of, is_blank}

-- the parts that aren't empty
abbrev some : List Text → List Text
some parts = filter (λ field. not (length field == 0)) parts

-- nothing is there
abbrev is_none : List Text → Bool
is_none [] = true
is_none (field ∷ fields) = false

-- what blanks part of the content
abbrev parts : Text → List Text
parts text = slice_split is_blank (content text)

-- the first part is the word, and the others are empty
abbrev heads : (word : Text) → List Text → Bool
heads word [] = bytes_eq [] word
heads word (part ∷ more) = bytes_eq part word && is_none (some more)

-- letters: no blank, and no semicolon
abbrev Letters : Text → Type 0
Letters [] = Unit {0}
Letters (w ∷ word) = (97 ≤ w) × Letters word

and_true : (a : Bool) → a ≡ (a && true)
and_true true = refl
and_true false = refl

-- a part that isn't empty
some-part : (b : ℕ) (part : Text) (ps : List Text) → some ((b ∷ part) ∷ ps) ≡ (b ∷ part) ∷ some ps
some-part b part ps = ap (λ c. cond {A = List Text} (not c) ((b ∷ part) ∷ some ps) (some ps)) filled
  where
    filled : (length (b ∷ part) == 0) ≡ false
    filled = grind (arith, nat_tests)

-- ---- a byte at the front

content-other : (b : ℕ) (text : Text) → (b == 59) ≡ false → content (b ∷ text) ≡ b ∷ content text
content-other b text e = ap (λ c. get_or (cond {A = List Text} c ([] ∷ slice_split (λ b. b == 59) text) (onto_first b (slice_split (λ b. b == 59) text))) 0 []) e ∙ by (slice_split (λ b. b == 59) text)
  where
    by : (lines : List Text) → get_or (onto_first b lines) 0 [] ≡ b ∷ get_or lines 0 []
    by [] = refl
    by (line ∷ lines) = refl

parts-blank : (b : ℕ) (text : Text) → (b == 59) ≡ false → is_blank b ≡ true → parts (b ∷ text) ≡ [] ∷ parts text
parts-blank b text e blank =
    ap (slice_split is_blank) (content-other b text e)
    ∙ ap (λ c. cond {A = List Text} c ([] ∷ parts text) (onto_first b (parts text))) blank

parts-other : (b : ℕ) (text : Text) → (b == 59) ≡ false → is_blank b ≡ false → parts (b ∷ text) ≡ onto_first b (parts text)
parts-other b text e other =
    ap (slice_split is_blank) (content-other b text e)
    ∙ ap (λ c. cond {A = List Text} c ([] ∷ parts text) (onto_first b (parts text))) other

past_blanks-blank : (b : ℕ) (text : Text) → is_blank b ≡ true → past_blanks (b ∷ text) ≡ past_blanks text
past_blanks-blank b text blank = ap (λ c. drop (cond {A = ℕ} c (1 + prefix_len is_blank text) 0) (b ∷ text)) blank ∙ ap (λ n. drop n (b ∷ text)) next
  where
    next : 1 + prefix_len is_blank text ≡ suc (prefix_len is_blank text)
    next = omega arith

past_blanks-other : (b : ℕ) (text : Text) → is_blank b ≡ false → past_blanks (b ∷ text) ≡ b ∷ text
past_blanks-other b text other = ap (λ c. drop (cond {A = ℕ} c (1 + prefix_len is_blank text) 0) (b ∷ text)) other

semicolon : (b : ℕ) → (b == 59) ≡ true → 59 ≡ b
semicolon b e = grind (arith, nat_tests, e)

-- ---- nothing but blanks

over : (text : Text) → is_none (some (parts text)) ≡ is_over text
over [] = refl
over (b ∷ text) = by (b == 59) refl (is_blank b) refl (over text)
  where
    by : (c : Bool) → (b == 59) ≡ c → (d : Bool) → is_blank b ≡ d → is_none (some (parts text)) ≡ is_over text
        → is_none (some (parts (b ∷ text))) ≡ is_over (b ∷ text)
    by true e d f more = subst (λ b. is_none (some (parts (b ∷ text))) ≡ is_over (b ∷ text)) (semicolon b e) refl
    by false e true f more = ap (λ ps. is_none (some ps)) (parts-blank b text e f) ∙ more ∙ ap is_comment (sym (past_blanks-blank b text f))
    by false e false f more =
        ap (λ ps. is_none (some ps)) (parts-other b text e f) ∙ none (parts text) ∙ sym (ap is_comment (past_blanks-other b text f) ∙ e)
      where
        none : (ps : List Text) → is_none (some (onto_first b ps)) ≡ false
        none [] = ap is_none (some-part b [] [])
        none (part ∷ ps) = ap is_none (some-part b part ps)

-- ---- a word

heads-first : (b w : ℕ) (word : Text) (ps : List Text) → heads (w ∷ word) (onto_first b ps) ≡ ((b == w) && heads word ps)
heads-first b w word [] = sym (and_true (bytes_eq (b ∷ []) (w ∷ word)))
heads-first b w word (part ∷ ps) = and_assoc (b == w) (bytes_eq part word) (is_none (some ps))

heads-none : (b : ℕ) (ps : List Text) → heads [] (onto_first b ps) ≡ false
heads-none b [] = refl
heads-none b (part ∷ ps) = refl

blank-other : (b w : ℕ) → is_blank b ≡ true → 97 ≤ w → (b == w) ≡ false
blank-other b w blank letter = grind (arith, nat_tests, blank, letter)

semicolon-other : (w : ℕ) → 97 ≤ w → (59 == w) ≡ false
semicolon-other w letter = grind (arith, nat_tests, letter)

alone : (word text : Text) → Letters word → heads word (parts text) ≡ is_alone word text
unfolding is_alone
alone [] [] letters = refl
alone (w ∷ word) [] letters = refl
alone [] (b ∷ text) letters = by (b == 59) refl (is_blank b) refl
  where
    by : (c : Bool) → (b == 59) ≡ c → (d : Bool) → is_blank b ≡ d → heads [] (parts (b ∷ text)) ≡ is_over (b ∷ text)
    by true e d f = subst (λ b. heads [] (parts (b ∷ text)) ≡ is_over (b ∷ text)) (semicolon b e) refl
    by false e true f = ap (heads []) (parts-blank b text e f) ∙ over text ∙ ap is_comment (sym (past_blanks-blank b text f))
    by false e false f = ap (heads []) (parts-other b text e f) ∙ heads-none b (parts text) ∙ sym (ap is_comment (past_blanks-other b text f) ∙ e)
alone (w ∷ word) (b ∷ text) letters = by (b == 59) refl (is_blank b) refl (alone word text letters.1)
  where
    by : (c : Bool) → (b == 59) ≡ c → (d : Bool) → is_blank b ≡ d → heads word (parts text) ≡ is_alone word text
        → heads (w ∷ word) (parts (b ∷ text)) ≡ ((b == w) && is_alone word text)
    by true e d f more =
        subst (λ b. heads (w ∷ word) (parts (b ∷ text)) ≡ ((b == w) && is_alone word text)) (semicolon b e)
        (sym (ap (λ c. c && is_alone word text) (semicolon-other w letters.0)))
    by false e true f more = ap (heads (w ∷ word)) (parts-blank b text e f) ∙ sym (ap (λ c. c && is_alone word text) (blank-other b w f letters.0))
    by false e false f more = ap (heads (w ∷ word)) (parts-other b text e f) ∙ heads-first b w word (parts text) ∙ ap (λ c. (b == w) && c) more

-- ---- a line

ends-first : (b : ℕ) (ps : List Text) → ends (some (onto_first b ps)) ≡ heads (codes "endprogram") (onto_first b ps)
ends-first b [] = ap ends (some-part b [] []) ∙ and_true (bytes_eq (b ∷ []) (codes "endprogram"))
ends-first b (part ∷ ps) = ap ends (some-part b part ps) ∙ by (some ps) (bytes_eq (b ∷ part) (codes "endprogram")) refl
  where
    by : (more : List Text) (c : Bool) → c ≡ bytes_eq (b ∷ part) (codes "endprogram") → ends ((b ∷ part) ∷ more) ≡ (bytes_eq (b ∷ part) (codes "endprogram") && is_none more)
    by [] c e = and_true (bytes_eq (b ∷ part) (codes "endprogram"))
    by (field ∷ more) true e = ap (λ c. c && false) e
    by (field ∷ more) false e = ap (λ c. c && false) e

letters : Letters (codes "endprogram")
letters = (omega arith, (omega arith, (omega arith, (omega arith, (omega arith, (omega arith, (omega arith, (omega arith, (omega arith, (omega arith, tt))))))))))

-- a line ends a program by its fields exactly where it does by its front
pub ends_front : (line : Text) → ends (fields_of line) ≡ ends_program line
unfolding fields_of is_alone
ends_front [] = refl
ends_front (b ∷ text) = by (b == 59) refl (is_blank b) refl (ends_front text)
  where
    by : (c : Bool) → (b == 59) ≡ c → (d : Bool) → is_blank b ≡ d → ends (some (parts text)) ≡ ends_program text
        → ends (some (parts (b ∷ text))) ≡ ends_program (b ∷ text)
    by true e d f more = subst (λ b. ends (some (parts (b ∷ text))) ≡ ends_program (b ∷ text)) (semicolon b e) refl
    by false e true f more = ap (λ ps. ends (some ps)) (parts-blank b text e f) ∙ more ∙ ap (is_alone (codes "endprogram")) (sym (past_blanks-blank b text f))
    by false e false f more =
        ap (λ ps. ends (some ps)) (parts-other b text e f)
        ∙ ends-first b (parts text)
        ∙ ap (heads (codes "endprogram")) (sym (parts-other b text e f))
        ∙ alone (codes "endprogram") (b ∷ text) letters
        ∙ ap (is_alone (codes "endprogram")) (sym (past_blanks-other b text f))

-- ---- the word as the code looks for it

-- a text that is shorter
pub alone_short : (word text : Text) → length text < length word → is_alone word text ≡ false
unfolding is_alone
alone_short [] text short = absurd (omega (arith, short))
alone_short (w ∷ word) [] short = refl
alone_short (w ∷ word) (b ∷ text) short = ap (λ c. (b == w) && c) (alone_short word text (omega (arith, short))) ∙ none (b == w)
  where
    none : (c : Bool) → (c && false) ≡ false
    none true = refl
    none false = refl

-- a text that is cut where the word ends
pub alone_cut : (word text : Text) → length word ≤ length text → is_alone word text ≡ (bytes_eq (take (length word) text) word && is_over (drop (length word) text))
unfolding is_alone
alone_cut [] text long = refl
alone_cut (w ∷ word) [] long = absurd (omega (arith, long))
alone_cut (w ∷ word) (b ∷ text) long =
    ap (λ c. (b == w) && c) (alone_cut word text (omega (arith, long)))
    ∙ sym (and_assoc (b == w) (bytes_eq (take (length word) text) word) (is_over (drop (length word) text)))
