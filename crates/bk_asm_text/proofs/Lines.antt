-- The first line of a text, and the lines after it.
use Rattle.std.proofs.Common.{◌≡◌, ℕ, suc, ◌+◌, ◌<◌, ◌≤◌, Bool, true, false, List, [], ◌∷◌, length, take, drop, Some, None, refl, ap, sym, ◌∙◌, arith, nat_lt, cond, length-drop}
use Rattle.std.specs.Prelude.{Option, ◌==◌, ◌&&◌}
use Rattle.std.specs.List.{list_all, slice_split, onto_first, position, position_or_len, prefix_len}
use Rattle.std.proofs.lemmas.Bool.Decides.{nat_tests}
use Rattle.std.proofs.lemmas.List.Quantifiers.{position-Some}
use Rattle.std.proofs.lemmas.List.Sums.{position_or_len_is, fails_before_first}
use Rattle.std.proofs.lemmas.List.Splits.{slice_split_first, slice_split_none}
use Rattle.bk_expr.specs.Text.{is_of_text}
use Rattle.bk_asm_text.specs.Statements.{without_last, lines_of}

split_found : (p : ℕ → Bool) (xs : List ℕ) (i : ℕ) → position p xs ≡ Some i → slice_split p xs ≡ take i xs ∷ slice_split p (drop (i + 1) xs)
split_found p xs i e =
    let at = position-Some p xs i 0 e in
    let first : position_or_len p xs ≡ i = position_or_len_is p xs i 0 (omega arith) at.2 (λ h. at.1) in
    rw first at (slice_split_first p xs 0 (omega arith))

past_from_none : (p : ℕ → Bool) (xs : List ℕ) (b : Bool) → nat_lt (position_or_len p xs) (length xs) ≡ b
    → cond {A = Option ℕ} b (Some (position_or_len p xs)) None ≡ None → length xs ≤ position_or_len p xs
past_from_none p xs true t e = absurd (cc)
past_from_none p xs false t e = grind (arith, nat_tests)

split_not_found : (p : ℕ → Bool) (xs : List ℕ) → position p xs ≡ None → slice_split p xs ≡ xs ∷ []
split_not_found p xs e =
    let past : length xs ≤ position_or_len p xs = past_from_none p xs (nat_lt (position_or_len p xs) (length xs)) refl e in
    slice_split_none p xs (λ k d lt. fails_before_first p xs k d (omega arith))

split_some : (p : ℕ → Bool) (xs : List ℕ) → (part : List ℕ) × (parts : List (List ℕ)) × (slice_split p xs ≡ part ∷ parts)
split_some p [] = ([], [], refl)
split_some p (x ∷ xs) =
    let more = split_some p xs in
    by (p x) more.0 more.1 more.2 where
      by : (b : Bool) (part : List ℕ) (parts : List (List ℕ)) → slice_split p xs ≡ part ∷ parts
          → (part : List ℕ) × (parts : List (List ℕ)) × (cond b ([] ∷ slice_split p xs) (onto_first x (slice_split p xs)) ≡ part ∷ parts)
      by true part parts e = ([], slice_split p xs, refl)
      by false part parts e = (x ∷ part, parts, ap (onto_first x) e)

-- a part with another behind it is a line
not_last : (line next : List ℕ) (parts : List (List ℕ)) → without_last (line ∷ next ∷ parts) ≡ line ∷ without_last (next ∷ parts)
not_last [] next parts = refl
not_last (c ∷ line) next parts = refl

pub first_line : (text : List ℕ) (place : ℕ) → position (λ b. b == 10) text ≡ Some place → lines_of text ≡ take place text ∷ lines_of (drop (place + 1) text)
unfolding lines_of
first_line text place e =
    let rest = split_some (λ b. b == 10) (drop (place + 1) text) in
    ap without_last (split_found (λ b. b == 10) text place e)
    ∙ ap (λ parts. without_last (take place text ∷ parts)) rest.2
    ∙ not_last (take place text) rest.0 rest.1
    ∙ ap (λ parts. take place text ∷ without_last parts) (sym rest.2)

-- a last line that isn't empty lacks its LF
pub only_line : (text rest : List ℕ) → position (λ b. b == 10) text ≡ None → (length text ≡ 0 → ⊥) → length rest ≡ 0 → lines_of text ≡ text ∷ lines_of rest
unfolding lines_of
only_line [] rest e some none = absurd (some refl)
only_line (c ∷ text) [] e some none = ap without_last (split_not_found (λ b. b == 10) (c ∷ text) e)
only_line (c ∷ text) (d ∷ rest) e some none = absurd (omega (arith, none))

pub no_line : (text : List ℕ) → length text ≡ 0 → lines_of text ≡ []
unfolding lines_of
no_line [] e = refl
no_line (c ∷ text) e = absurd (omega (arith, e))

-- bytes of the text, and then an LF: they are the first part
clean_part : (text after : List ℕ) → drop (prefix_len is_of_text text) text ≡ 10 ∷ after
    → slice_split (λ b. b == 10) text ≡ take (prefix_len is_of_text text) text ∷ slice_split (λ b. b == 10) after
clean_part [] after e = absurd (cc)
clean_part (x ∷ text) after e = by (is_of_text x) refl (λ h. clean_part text after h) e where
  by : (b : Bool) → is_of_text x ≡ b
      → (drop (prefix_len is_of_text text) text ≡ 10 ∷ after → slice_split (λ b. b == 10) text ≡ take (prefix_len is_of_text text) text ∷ slice_split (λ b. b == 10) after)
      → drop (cond b (1 + prefix_len is_of_text text) 0) (x ∷ text) ≡ 10 ∷ after
      → slice_split (λ b. b == 10) (x ∷ text) ≡ take (cond b (1 + prefix_len is_of_text text) 0) (x ∷ text) ∷ slice_split (λ b. b == 10) after
  by true of_text more e =
      let other : (x == 10) ≡ false = grind (arith, nat_tests, of_text) in
      let one_more : suc (prefix_len is_of_text text) ≡ 1 + prefix_len is_of_text text = omega arith in
      ap (λ b. cond b ([] ∷ slice_split (λ b. b == 10) text) (onto_first x (slice_split (λ b. b == 10) text))) other
      ∙ ap (onto_first x) (more (ap (λ k. drop k (x ∷ text)) one_more ∙ e))
      ∙ ap (λ k. take k (x ∷ text) ∷ slice_split (λ b. b == 10) after) one_more
  by false not_of_text more e = ap (slice_split (λ b. b == 10)) e

clean_first : (text after : List ℕ) → drop (prefix_len is_of_text text) text ≡ 10 ∷ after
    → lines_of text ≡ take (prefix_len is_of_text text) text ∷ lines_of after
unfolding lines_of
clean_first text after e =
    let line = take (prefix_len is_of_text text) text in
    let rest = split_some (λ b. b == 10) after in
    ap without_last (clean_part text after e)
    ∙ ap (λ parts. without_last (line ∷ parts)) rest.2
    ∙ not_last line rest.0 rest.1
    ∙ ap (λ parts. line ∷ without_last parts) (sym rest.2)

-- .. and so the first line
pub clean_line : (text after : List ℕ) (n : ℕ) → n ≡ prefix_len is_of_text text → drop n text ≡ 10 ∷ after → lines_of text ≡ take n text ∷ lines_of after
clean_line text after n is e =
    clean_first text after (ap (λ k. drop k text) (sym is) ∙ e) ∙ ap (λ k. take k text ∷ lines_of after) (sym is)

pub clean_shorter : (text after : List ℕ) (n : ℕ) → drop n text ≡ 10 ∷ after → length after < length text
clean_shorter text after n e = omega (arith, ap length e, length-drop n text)

of_text_in : (text : List ℕ) → true ≡ list_all is_of_text (take (prefix_len is_of_text text) text)
of_text_in [] = refl
of_text_in (x ∷ text) = by (is_of_text x) refl (of_text_in text) where
  by : (b : Bool) → is_of_text x ≡ b → true ≡ list_all is_of_text (take (prefix_len is_of_text text) text)
      → true ≡ list_all is_of_text (take (cond b (1 + prefix_len is_of_text text) 0) (x ∷ text))
  by true of_text more =
      let one_more : suc (prefix_len is_of_text text) ≡ 1 + prefix_len is_of_text text = omega arith in
      more
      ∙ ap (λ b. b && list_all is_of_text (take (prefix_len is_of_text text) text)) (sym of_text)
      ∙ ap (λ k. list_all is_of_text (take k (x ∷ text))) one_more
  by false not_of_text more = refl

-- the bytes of the text at the front are bytes of the text
pub clean_bytes : (text : List ℕ) (n : ℕ) → n ≡ prefix_len is_of_text text → true ≡ list_all is_of_text (take n text)
clean_bytes text n is = of_text_in text ∙ ap (λ k. list_all is_of_text (take k text)) (sym is)
