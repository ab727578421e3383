-- The lines of a program, as far as they have been passed.
use Rattle.std.proofs.Common.{◌≡◌, ℕ, ◌+◌, ◌-◌, ◌^◌, ◌≤◌, true, false, List, [], ◌∷◌, ◌++◌, length, take, Some, None, refl, sym, ap, ◌∙◌, append_assoc, length-append, arith, ◌==◌}
use Rattle.std.specs.Prelude.{min, Option, option_map}
use Rattle.std.specs.List.{join_with_byte}
use Rattle.std.proofs.lemmas.List.Splits.{join_with_byte-slice_split}
use Rattle.std.proofs.lemmas.List.{append-nil}
use Rattle.std.proofs.Math.Seq.{take-append_seam}
use Rattle.bk_report.proofs.Splitting.{split_some}
use Rattle.bk_conf.specs.Ends.{ends_program}
use Rattle.bk_conf.specs.Lines.{Text, lines_of, program_lines, text_of}
use Rattle.bk_conf.specs.Views.{lines_left, size_left, HasBody}
use Rattle.bk_conf.specs.declared.program.Body.{Body}
use Rattle.bk_conf.proofs.Ends.{ends_front}

-- so many lines before the rest of the text, none of which ends the program
pub record Passed (text rest : Text) (lines : ℕ) : Type 0 where
  pub before : List Text
  pub stands : lines_of text ≡ before ++ lines_of rest
  pub found : program_lines (lines_of text) ≡ option_map (λ more. before ++ more) (program_lines (lines_of rest))
  pub count : lines ≡ min (length before) (2 ^ 32 - 1)

same : {X : Type 0} (o : Option (List X)) → o ≡ option_map (λ more. [] ++ more) o
same None = refl
same (Some more) = refl

pub passed_start : (text : Text) → Passed text text 0
passed_start text = record { before = []; stands = refl; found = same (program_lines (lines_of text)); count = refl }

-- a line that ends no program
program_lines-more : (line : Text) (lines : List Text) → ends_program line ≡ false
    → program_lines (line ∷ lines) ≡ option_map (λ more. line ∷ more) (program_lines lines)
unfolding program_lines
program_lines-more line lines goes_on = rw (ends_front line, goes_on) refl

program_lines-end : (line : Text) (lines : List Text) → ends_program line ≡ true → program_lines (line ∷ lines) ≡ Some []
unfolding program_lines
program_lines-end line lines over = rw (ends_front line, over) refl

program_lines-none : program_lines [] ≡ None
unfolding program_lines
program_lines-none = refl

behind : (before : List Text) (line : Text) (o : Option (List Text))
    → option_map (λ more. before ++ more) (option_map (λ more. line ∷ more) o) ≡ option_map (λ more. (before ++ line ∷ []) ++ more) o
behind before line None = refl
behind before line (Some more) = ap Some (sym (append_assoc before (line ∷ []) more))

pub passed_more : (text rest : Text) (lines : ℕ) (line after : Text) → Passed text rest lines → lines_of rest ≡ line ∷ lines_of after
    → ends_program line ≡ false → Passed text after (min (lines + 1) (2 ^ 32 - 1))
passed_more text rest lines line after so_far first goes_on = record {
  before = so_far.before ++ line ∷ [];
  stands = so_far.stands ∙ ap (λ ls. so_far.before ++ ls) first ∙ sym (append_assoc so_far.before (line ∷ []) (lines_of after));
  found =
      so_far.found
      ∙ ap (λ ls. option_map (λ more. so_far.before ++ more) (program_lines ls)) first
      ∙ ap (option_map (λ more. so_far.before ++ more)) (program_lines-more line (lines_of after) goes_on)
      ∙ behind so_far.before line (program_lines (lines_of after));
  count =
      let longer = length-append so_far.before (line ∷ []) in
      omega (arith, longer, so_far.count);
}

-- the lines of a text, each with its LF, before others
join_with_byte-text_of : (before : List Text) (part : Text) (parts : List Text)
    → join_with_byte 10 (before ++ part ∷ parts) ≡ text_of before ++ join_with_byte 10 (part ∷ parts)
join_with_byte-text_of [] part parts = refl
join_with_byte-text_of (line ∷ []) part parts =
    sym (append_assoc line (10 ∷ []) (join_with_byte 10 (part ∷ parts))) ∙ ap (λ (t : Text). t ++ join_with_byte 10 (part ∷ parts)) (sym (append-nil (line ++ 10 ∷ [])))
join_with_byte-text_of (line ∷ next ∷ before) part parts =
    ap (λ more. line ++ 10 ∷ more) (join_with_byte-text_of (next ∷ before) part parts)
    ∙ sym (append_assoc (line ++ 10 ∷ []) (text_of (next ∷ before)) (join_with_byte 10 (part ∷ parts)) ∙ append_assoc line (10 ∷ []) (text_of (next ∷ before) ++ join_with_byte 10 (part ∷ parts)))

-- the text, by the lines that were passed
text_by_lines : (text rest : Text) (before : List Text) → lines_of text ≡ before ++ lines_of rest → text ≡ text_of before ++ rest
text_by_lines text rest before stands =
    let first = split_some (λ b. b == 10) rest in
    sym (join_with_byte-slice_split 10 text)
    ∙ ap (join_with_byte 10) (stands ∙ ap (λ ls. before ++ ls) first.2)
    ∙ join_with_byte-text_of before first.0 first.1
    ∙ ap (λ ls. text_of before ++ join_with_byte 10 ls) (sym first.2)
    ∙ ap (λ more. text_of before ++ more) (join_with_byte-slice_split 10 rest)

-- what is left is no longer than the text
pub passed_shorter : (text rest : Text) (lines : ℕ) → Passed text rest lines → length rest ≤ length text
passed_shorter text rest lines so_far =
    let whole : length text ≡ length (text_of so_far.before ++ rest) = ap (λ (t : Text). length t) (text_by_lines text rest so_far.before so_far.stands) in
    omega (arith, whole, length-append (text_of so_far.before) rest)

-- what stands in front
front_of : (front rest : Text) → take (length (front ++ rest) - length rest) (front ++ rest) ≡ front
front_of front rest = ap (λ n. take n (front ++ rest)) (omega (arith, length-append front rest)) ∙ take-append_seam front rest

-- the line that ends the program
pub passed_end : (text rest : Text) (lines : ℕ) (line : Text) (body : Body) → Passed text rest lines → lines_of rest ≡ line ∷ lines_left body.left
    → ends_program line ≡ true → body.text.now ≡ take (length text - length rest) text → body.lines ≡ lines → size_left body.left ≤ length text → HasBody text body
passed_end text rest lines line body so_far first over front count shorter = record {
  lines = so_far.before;
  end = line;
  found =
      so_far.found
      ∙ ap (λ ls. option_map (λ more. so_far.before ++ more) (program_lines ls)) first
      ∙ ap (option_map (λ more. so_far.before ++ more)) (program_lines-end line (lines_left body.left) over)
      ∙ ap Some (append-nil so_far.before);
  stands = so_far.stands ∙ ap (λ ls. so_far.before ++ ls) first;
  text_is =
      let whole = text_by_lines text rest so_far.before so_far.stands in
      front ∙ ap (λ t. take (length t - length rest) t) whole ∙ front_of (text_of so_far.before) rest;
  count = count ∙ so_far.count;
  shorter = shorter;
}

-- no line ends it
pub passed_none : (text rest : Text) (lines : ℕ) (line : Text) → Passed text rest lines → lines_of rest ≡ line ∷ [] → ends_program line ≡ false
    → program_lines (lines_of text) ≡ None
passed_none text rest lines line so_far first goes_on =
    so_far.found
    ∙ ap (λ ls. option_map (λ more. so_far.before ++ more) (program_lines ls)) first
    ∙ ap (option_map (λ more. so_far.before ++ more)) (program_lines-more line [] goes_on ∙ ap (option_map (λ more. line ∷ more)) program_lines-none)
