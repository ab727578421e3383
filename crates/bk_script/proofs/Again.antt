-- A script's text is read again as the script.
use Rattle.std.proofs.Common.{◌≡◌, ℕ, ◌+◌, ◌*◌, ◌^◌, ◌<◌, ◌≤◌, Bool, true, false, List, [], ◌∷◌, ◌++◌, length, Option, Some, Result, Ok, refl, sym, ap, ◌∙◌}
use Rattle.std.proofs.Common.{arith, decimal, subst, append_assoc, nat_lt, nat_le}
use Rattle.std.specs.Prelude.{◌==◌}
use Rattle.std.specs.List.{All, AllByRecursion, list_all, slice_split}
use Rattle.std.proofs.lemmas.Bool.{and_parts}
use Rattle.std.proofs.lemmas.Bool.Decides.{nat_tests}
use Rattle.std.proofs.lemmas.List.{append-nil}
use Rattle.std.proofs.lemmas.List.Elements.{All-nil, All-cons, All-append, recursion_from_All}
use Rattle.std.proofs.lemmas.List.Splits.{slice_split_at, slice_split_none}
use Rattle.bk_system.specs.declared.TypedAt.{TypedAt}
use Rattle.bk_script.specs.Limits.{most_bytes}
use Rattle.bk_system.specs.Limits.{most_slots, most_turns_of_run}
use Rattle.bk_script.specs.declared.fault.ScriptFault.{ScriptFault}
use Rattle.bk_script.specs.declared.line.Line.{Line}
use Rattle.bk_script.specs.declared.line.Line.TheVariants.{Record, Ends}
use Rattle.bk_script.specs.Fault.{fault_at}
use Rattle.bk_base.specs.Faults.{first_failing, ◌>>=◌}
use Rattle.bk_report.specs.Reading.{is_digit}
use Rattle.bk_script.specs.Fields.{is_hex, is_bytes, bytes_of}
use Rattle.bk_script.specs.Lines.{line_at, ended, line_of, last, follows, is_below, record_checks, end_checks, lines_at, script_of}
use Rattle.bk_script.specs.Script.{text_of, IsTyped, IsScript, hex_of}
use Rattle.bk_script.proofs.Numbers.{is_number-decimal, number-decimal, is_number-parts}
use Rattle.bk_script.proofs.Hex.{is_bytes-hex_of, bytes_of-hex_of, is_bytes-parts}
use Rattle.bk_script.proofs.Order.{last-push, Follow, follow_from_in_order, below-last}
use Rattle.bk_script.proofs.Parts.{lines_at-cut, script_of-short}

-- ---- a line by what it says

line_at-record : (lines turns at : ℕ) (before : List TypedAt) (said : Option Line) (rest : List (List ℕ)) (others : List TypedAt → Result (List TypedAt × ℕ) ScriptFault)
    (slot line : ℕ) (bytes : List ℕ) (passed : Unit {0})
    → said ≡ Some (Record slot line bytes) → first_failing (fault_at at) (record_checks lines before slot line) ≡ Ok passed
    → line_at lines turns at before said rest others ≡ others (before ++ record { slot = slot; line = line; bytes = bytes } ∷ [])
line_at-record lines turns at before said rest others slot line bytes passed is good =
    ap (λ s. line_at lines turns at before s rest others) is
    ∙ ap (λ r. r >>= (λ passed. others (before ++ record { slot = slot; line = line; bytes = bytes } ∷ []))) good

line_at-ends : (lines turns at : ℕ) (before : List TypedAt) (said : Option Line) (rest : List (List ℕ)) (others : List TypedAt → Result (List TypedAt × ℕ) ScriptFault)
    (slots : ℕ) (passed : Unit {0})
    → said ≡ Some (Ends slots) → first_failing (fault_at at) (end_checks turns before slots) ≡ Ok passed
    → line_at lines turns at before said rest others ≡ ended (at + 1) before slots rest
line_at-ends lines turns at before said rest others slots passed is good =
    ap (λ s. line_at lines turns at before s rest others) is
    ∙ ap (λ r. r >>= (λ passed. ended (at + 1) before slots rest)) good

-- ---- no separator in a field

none_is : (c : ℕ) (test : ℕ → Bool) → ((b : ℕ) → test b ≡ true → (b == c) ≡ false) → (text : List ℕ) → list_all test text ≡ true → All (λ b. (b == c) ≡ false) text
none_is c test apart [] h = All-nil (λ b. (b == c) ≡ false)
none_is c test apart (b ∷ text) h =
    let p = and_parts (test b) (list_all test text) h in
    All-cons (λ b. (b == c) ≡ false) b text (apart b p.0) (none_is c test apart text p.1)

digits_apart : (c : ℕ) → c < 48 → (n : ℕ) → n < 10 ^ 9 → All (λ b. (b == c) ≡ false) (decimal n)
digits_apart c low n small =
    none_is c is_digit (λ b h. grind (arith, nat_tests, h, low)) (decimal n) (is_number-parts (decimal n) (is_number-decimal n small)).2

hex_apart : (c : ℕ) → c < 48 → (x : TypedAt) → is_bytes (hex_of x.bytes) ≡ true → All (λ b. (b == c) ≡ false) (hex_of x.bytes)
hex_apart c low x h =
    none_is c is_hex (λ b h. grind (arith, nat_tests, h, low)) (hex_of x.bytes) (is_bytes-parts (hex_of x.bytes) h).3

-- ---- lines

-- a record without its LF
abbrev record_line : TypedAt → List ℕ
record_line x = decimal x.slot ++ (32 ∷ (decimal x.line ++ (32 ∷ hex_of x.bytes)))

-- the facts of a record on its line
record IsPlain (x : TypedAt) : Type 0 where
  slot : x.slot < 10 ^ 9
  line : x.line < 10 ^ 9
  hex : is_bytes (hex_of x.bytes) ≡ true
  bytes : bytes_of (hex_of x.bytes) ≡ x.bytes

line_of-record : (x : TypedAt) → IsPlain x → line_of (record_line x) ≡ Some (Record x.slot x.line x.bytes)
unfolding line_of
line_of-record x p =
    let three : slice_split (λ b. b == 32) (record_line x) ≡ decimal x.slot ∷ decimal x.line ∷ hex_of x.bytes ∷ [] =
    slice_split_at (λ b. b == 32) (decimal x.slot) 32 (decimal x.line ++ (32 ∷ hex_of x.bytes)) (digits_apart 32 (omega arith) x.slot p.slot) refl
    ∙ ap (λ more. decimal x.slot ∷ more) (
    slice_split_at (λ b. b == 32) (decimal x.line) 32 (hex_of x.bytes) (digits_apart 32 (omega arith) x.line p.line) refl
    ∙ ap (λ more. decimal x.line ∷ more) (slice_split_none (λ b. b == 32) (hex_of x.bytes) (hex_apart 32 (omega arith) x p.hex)))
    in
    rw (three, is_number-decimal x.slot p.slot, is_number-decimal x.line p.line, p.hex, number-decimal x.slot p.slot, number-decimal x.line p.line, p.bytes) refl

end_line : ℕ → List ℕ
end_line n = 69 ∷ 78 ∷ 68 ∷ 32 ∷ decimal n

line_of-end : (n : ℕ) → n < 10 ^ 9 → line_of (end_line n) ≡ Some (Ends n)
unfolding line_of end_line
line_of-end n small =
    let two : slice_split (λ b. b == 32) (end_line n) ≡ (69 ∷ 78 ∷ 68 ∷ []) ∷ decimal n ∷ [] =
    ap (λ more. (69 ∷ 78 ∷ 68 ∷ []) ∷ more) (slice_split_none (λ b. b == 32) (decimal n) (digits_apart 32 (omega arith) n small)) in
    rw (two, is_number-decimal n small, number-decimal n small) refl

record_apart : (x : TypedAt) → IsPlain x → All (λ b. (b == 10) ≡ false) (record_line x)
record_apart x p =
    let P : ℕ → Type 0 = λ b. (b == 10) ≡ false in
    All-append P (decimal x.slot) (32 ∷ (decimal x.line ++ (32 ∷ hex_of x.bytes))) (digits_apart 10 (omega arith) x.slot p.slot) (
    All-cons P 32 (decimal x.line ++ (32 ∷ hex_of x.bytes)) refl (
    All-append P (decimal x.line) (32 ∷ hex_of x.bytes) (digits_apart 10 (omega arith) x.line p.line) (
    All-cons P 32 (hex_of x.bytes) refl (hex_apart 10 (omega arith) x p.hex))))

end_apart : (n : ℕ) → n < 10 ^ 9 → All (λ b. (b == 10) ≡ false) (end_line n)
unfolding end_line
end_apart n small =
    let P : ℕ → Type 0 = λ b. (b == 10) ≡ false in
    All-cons P 69 (78 ∷ 68 ∷ 32 ∷ decimal n) refl (All-cons P 78 (68 ∷ 32 ∷ decimal n) refl (
    All-cons P 68 (32 ∷ decimal n) refl (All-cons P 32 (decimal n) refl (digits_apart 10 (omega arith) n small))))

-- ---- the text of a script, line by line

text_of-more : (x : TypedAt) (xs : List TypedAt) (slots : ℕ) → text_of (x ∷ xs) slots ≡ record_line x ++ (10 ∷ text_of xs slots)
unfolding text_of
text_of-more x xs slots = simp append_assoc

text_of-none : (slots : ℕ) → text_of [] slots ≡ end_line slots ++ (10 ∷ [])
unfolding text_of end_line
text_of-none slots = refl

-- a record that is read at its line
record IsGood (lines slots : ℕ) (x : TypedAt) : Type 0 where
  plain : IsPlain x
  slot : x.slot < most_slots
  line : x.line < lines

good_from_typed : (lines slots : ℕ) → lines < 2 ^ 8 → slots ≤ most_slots → (x : TypedAt) → IsTyped lines slots x → IsGood lines slots x
good_from_typed lines slots few_lines few x t =
    let s = t.slot in
    let l = t.line in
    record {
      plain = record {
        slot = omega (arith, s, few);
        line = omega (arith, l, few_lines);
        hex = is_bytes-hex_of x.bytes t.some t.short t.bytes;
        bytes = bytes_of-hex_of x.bytes t.bytes;
      };
      slot = omega (arith, s, few);
      line = l;
    }

all_good : (lines slots : ℕ) → lines < 2 ^ 8 → slots ≤ most_slots → (xs : List TypedAt) → AllByRecursion (IsTyped lines slots) xs → AllByRecursion (IsGood lines slots) xs
all_good lines slots few_lines few [] h = tt
all_good lines slots few_lines few (x ∷ xs) h = (good_from_typed lines slots few_lines few x h.0, all_good lines slots few_lines few xs h.1)

record_passes : (lines at : ℕ) (before : List TypedAt) (slot line : ℕ) → slot < most_slots → line < lines → follows (last before) slot line ≡ true
    → first_failing (fault_at at) (record_checks lines before slot line) ≡ Ok tt
record_passes lines at before slot line s l f =
    let a : nat_le most_slots slot ≡ false = grind (arith, nat_tests, s) in
    let b : nat_le lines line ≡ false = grind (arith, nat_tests, l) in
    rw (a, b, f) refl

end_passes : (turns at : ℕ) (before : List TypedAt) (slots : ℕ) → slots ≤ most_slots → slots * turns ≤ most_turns_of_run → is_below (last before) slots ≡ true
    → first_failing (fault_at at) (end_checks turns before slots) ≡ Ok tt
end_passes turns at before slots few within f =
    let a : nat_lt most_slots slots ≡ false = grind (arith, nat_tests, few) in
    let b : nat_lt most_turns_of_run (slots * turns) ≡ false = grind (arith, nat_tests, within) in
    rw (a, b, f) refl

again_at : (lines turns slots : ℕ) → slots ≤ most_slots → slots * turns ≤ most_turns_of_run → (xs : List TypedAt) (at : ℕ) (before : List TypedAt)
    → AllByRecursion (IsGood lines slots) xs → Follow (last before) xs → is_below (last (before ++ xs)) slots ≡ true
    → lines_at lines turns at before (slice_split (λ b. b == 10) (text_of xs slots)) ≡ Ok (before ++ xs, slots)
again_at lines turns slots few within [] at before good follow below =
    let small : slots < 10 ^ 9 = omega (arith, few) in
    let parts : slice_split (λ b. b == 10) (text_of [] slots) ≡ end_line slots ∷ slice_split (λ b. b == 10) [] =
    ap (slice_split (λ b. b == 10)) (text_of-none slots) ∙ slice_split_at (λ b. b == 10) (end_line slots) 10 [] (end_apart slots small) refl in
    let under : is_below (last before) slots ≡ true = ap (λ rs. is_below (last rs) slots) (sym (append-nil before)) ∙ below in
    ap (lines_at lines turns at before) parts
    ∙ lines_at-cut lines turns at before (end_line slots) (λ b. b == 10) []
    ∙ line_at-ends lines turns at before (line_of (end_line slots)) (slice_split (λ b. b == 10) []) (λ more. lines_at lines turns (at + 1) more (slice_split (λ b. b == 10) [])) slots tt
    (line_of-end slots small) (end_passes turns at before slots few within under)
    ∙ ap (λ rs. Ok (rs, slots)) (sym (append-nil before))
again_at lines turns slots few within (x ∷ xs) at before good follow below =
    let parts : slice_split (λ b. b == 10) (text_of (x ∷ xs) slots) ≡ record_line x ∷ slice_split (λ b. b == 10) (text_of xs slots) =
    ap (slice_split (λ b. b == 10)) (text_of-more x xs slots) ∙ slice_split_at (λ b. b == 10) (record_line x) 10 (text_of xs slots) (record_apart x good.0.plain) refl in
    let joined : (before ++ x ∷ []) ++ xs ≡ before ++ x ∷ xs = append_assoc before (x ∷ []) xs in
    let rest = again_at lines turns slots few within xs (at + 1) (before ++ x ∷ []) good.1
    (subst (λ l. Follow l xs) (sym (last-push before x)) follow.1)
    (ap (λ rs. is_below (last rs) slots) joined ∙ below) in
    ap (lines_at lines turns at before) parts
    ∙ lines_at-cut lines turns at before (record_line x) (λ b. b == 10) (text_of xs slots)
    ∙ line_at-record lines turns at before (line_of (record_line x)) (slice_split (λ b. b == 10) (text_of xs slots))
    (λ more. lines_at lines turns (at + 1) more (slice_split (λ b. b == 10) (text_of xs slots))) x.slot x.line x.bytes tt
    (line_of-record x good.0.plain) (record_passes lines at before x.slot x.line good.0.slot good.0.line follow.0)
    ∙ rest
    ∙ ap (λ rs. Ok (rs, slots)) joined

slots_of : (lines slots : ℕ) (xs : List TypedAt) → AllByRecursion (IsTyped lines slots) xs → AllByRecursion (λ x. x.slot < slots) xs
slots_of lines slots [] h = tt
slots_of lines slots (x ∷ xs) h = (h.0.slot, slots_of lines slots xs h.1)

-- a script that isn't too long is read again from its text
pub script_of-text_of : (lines turns : ℕ) (records : List TypedAt) (slots : ℕ) → lines < 2 ^ 8 → IsScript lines turns records slots
    → length (text_of records slots) ≤ most_bytes → script_of lines turns (text_of records slots) ≡ Ok (records, slots)
script_of-text_of lines turns records slots few_lines s short =
    let typed = recursion_from_All (IsTyped lines slots) records s.typed in
    let good = all_good lines slots few_lines s.few records typed in
    let below = below-last slots records (slots_of lines slots records typed) in
    script_of-short lines turns (text_of records slots) short
    ∙ again_at lines turns slots s.few s.within records 1 [] good (follow_from_in_order records s.order) below
