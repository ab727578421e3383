-- Rows by the sets of each subject: their number, and one more set in a row that has none.
use Rattle.std.proofs.Common.{◌≡◌, ℕ, zero, suc, ◌+◌, ◌*◌, ◌/◌, ◌%◌, ◌<◌, ◌≤◌, Bool, true, false, ◌||◌, List, [], ◌∷◌, ◌++◌, length, take, drop, set, get_or, replicate, refl, sym}
use Rattle.std.proofs.Common.{ap, ◌∙◌, arith, append_assoc, length-take-le, length-append, ◌-◌}
use Rattle.std.proofs.Common.{length-drop, ◌≢◌}
use Rattle.std.proofs.lemmas.List.{length-replicate, get_or-drop}
use Rattle.std.proofs.lemmas.List.Folds.{list_all_at}
use Rattle.std.specs.Prelude.{◌&&◌, ◌==◌, All, if◌then◌else◌}
use Rattle.std.specs.List.{list_all}
use Rattle.std.proofs.lemmas.Bool.{and_from, and_parts}
use Rattle.std.proofs.lemmas.Bool.Decides.{nat_tests}
use Rattle.std.proofs.lemmas.List.Elements.{All-head, All-tail}
use Rattle.std.proofs.Math.Seq.{take-suc, set-append_seam, get_or-append_seam}
use Rattle.bk_object.specs.declared.modes.Modes.{Modes}
use Rattle.bk_object.specs.Modes.{AccessMode, Read, Execute, Write, Append, no_modes, union, has}
use Rattle.bk_object.specs.Pairs.{split_pairs, joined_pairs}
use Rattle.bk_object.specs.Rows.{in_row, given}
use Rattle.bk_image.specs.Objects.{row_of}
use Rattle.bk_object.proofs.ModeLemmas.{has-union, same_modes}

pub length-split_pairs : (pairs : List ℕ) → length (split_pairs pairs) ≡ length pairs + length pairs
length-split_pairs [] = refl
length-split_pairs (pair ∷ pairs) = let rest = length-split_pairs pairs in omega (arith, rest)

-- with nothing for the subjects after those of its bytes, a row has a set for each subject
pub row_length : (pairs : List ℕ) → length pairs ≤ 32 → length (row_of pairs) ≡ 64
row_length pairs few = omega (arith, few, length-split_pairs pairs, length-append (split_pairs pairs) (replicate (64 - 2 * length pairs) no_modes), length-replicate (64 - 2 * length pairs) no_modes)

-- the modes of either, where one is empty
union_none : (modes : Modes) → modes.0 < 16 → union no_modes modes ≡ modes
union_none modes small = same_modes (union no_modes modes) modes four small (λ mode. has-union no_modes modes mode ∙ by mode)
  where
    by : (mode : AccessMode) → (has no_modes mode || has modes mode) ≡ has modes mode
    by Read = refl
    by Execute = refl
    by Write = refl
    by Append = refl

    at_most : (b : Bool) (k : ℕ) → (if b then k else 0) ≤ k
    at_most true k = omega arith
    at_most false k = omega arith

    four : (union no_modes modes).0 < 16
    four = omega (arith, at_most (has modes Read) 1, at_most (has modes Execute) 2, at_most (has modes Write) 4, at_most (has modes Append) 8)

-- the row of the first subjects, and one more
pub one_more : (sets : List Modes) (s left : ℕ) (modes : Modes) → s < length sets → modes ≡ in_row sets s → modes.0 < 16 →
    given s modes (take s sets ++ no_modes ∷ replicate left no_modes) ≡ take (suc s) sets ++ replicate left no_modes
one_more sets s left modes in_range is small =
    let front : length (take s sets) ≡ s = length-take-le s sets (omega (arith, in_range)) in
    let row = take s sets ++ no_modes ∷ replicate left no_modes in
    let none : in_row row s ≡ no_modes = ap (λ k. get_or row k no_modes) (sym front) ∙ get_or-append_seam (take s sets) no_modes (replicate left no_modes) no_modes in
    ap (λ m. set row s (union m modes)) none
    ∙ ap (set row s) (union_none modes small)
    ∙ ap (λ k. set row k modes) (sym front)
    ∙ set-append_seam (take s sets) no_modes (replicate left no_modes) modes
    ∙ sym (append_assoc (take s sets) (modes ∷ []) (replicate left no_modes))
    ∙ ap (λ m. (take s sets ++ m ∷ []) ++ replicate left no_modes) is
    ∙ ap (λ xs. xs ++ replicate left no_modes) (sym (take-suc sets s no_modes in_range))

pub take_length : {X : Type 0} (xs : List X) → take (length xs) xs ≡ xs
take_length [] = refl
take_length (x ∷ xs) = ap (λ ys. x ∷ ys) (take_length xs)

-- the bytes are got back from the sets
pub joined-split : (pairs : List ℕ) → joined_pairs (split_pairs pairs) ≡ pairs
joined-split [] = refl
joined-split (pair ∷ pairs) = λ i. byte pair i ∷ joined-split pairs i
  where
    byte : (b : ℕ) → b % 16 + 16 * (b / 16) ≡ b
    byte b = omega arith

-- each set is a half of its byte
low_half : (low high : ℕ) → low < 16 → (low + 16 * high) % 16 ≡ low
low_half low high small = omega (arith, small)

high_half : (low high : ℕ) → low < 16 → (low + 16 * high) / 16 ≡ high
high_half low high small = omega (arith, small)

-- so many sets are got back from the bytes, two to each
pub split-joined : (row : List Modes) (k n : ℕ) → n ≡ k + k → n ≤ length row → All (λ modes. modes.0 < 16) row → split_pairs (joined_pairs (take n row)) ≡ take n row
split-joined row zero zero is within four = refl
split-joined row zero (suc n) is within four = absurd (omega (arith, is))
split-joined row (suc k) zero is within four = absurd (omega (arith, is))
split-joined row (suc k) (suc zero) is within four = absurd (omega (arith, is))
split-joined [] (suc k) (suc (suc n)) is within four = absurd (omega (arith, within))
split-joined (low ∷ []) (suc k) (suc (suc n)) is within four = absurd (omega (arith, within))
split-joined (low ∷ high ∷ row) (suc k) (suc (suc n)) is within four =
    let small : low.0 < 16 = All-head (λ (modes : Modes). modes.0 < 16) low (high ∷ row) four in
    let later : All (λ (modes : Modes). modes.0 < 16) row = All-tail (λ (modes : Modes). modes.0 < 16) high row (All-tail (λ (modes : Modes). modes.0 < 16) low (high ∷ row) four) in
    let rest = split-joined row k n (omega (arith, is)) (omega (arith, within)) later in
    λ i. record { 0 = low_half low.0 high.0 small i } ∷ record { 0 = high_half low.0 high.0 small i } ∷ rest i

-- two sets make a byte
pub length-joined : (row : List Modes) (k n : ℕ) → n ≡ k + k → n ≤ length row → length (joined_pairs (take n row)) ≡ k
length-joined row zero zero is within = refl
length-joined row zero (suc n) is within = absurd (omega (arith, is))
length-joined row (suc k) zero is within = absurd (omega (arith, is))
length-joined row (suc k) (suc zero) is within = absurd (omega (arith, is))
length-joined [] (suc k) (suc (suc n)) is within = absurd (omega (arith, within))
length-joined (low ∷ []) (suc k) (suc (suc n)) is within = absurd (omega (arith, within))
length-joined (low ∷ high ∷ row) (suc k) (suc (suc n)) is within = ap suc (length-joined row k n (omega (arith, is)) (omega (arith, within)))

-- the bytes of the sets before a place, and that of the next two sets
pub joined-more : (row : List Modes) (k n : ℕ) → n ≡ k + k → suc n < length row →
    joined_pairs (take (suc (suc n)) row) ≡ joined_pairs (take n row) ++ ((in_row row n).0 + 16 * (in_row row (suc n)).0) ∷ []
joined-more [] k n is within = absurd (omega (arith, within))
joined-more (low ∷ []) k n is within = absurd (omega (arith, within))
joined-more (low ∷ high ∷ row) zero zero is within = refl
joined-more (low ∷ high ∷ row) zero (suc n) is within = absurd (omega (arith, is))
joined-more (low ∷ high ∷ row) (suc k) zero is within = absurd (omega (arith, is))
joined-more (low ∷ high ∷ row) (suc k) (suc zero) is within = absurd (omega (arith, is))
joined-more (low ∷ high ∷ row) (suc k) (suc (suc n)) is within = ap (λ (t : List ℕ). (low.0 + 16 * high.0) ∷ t) (joined-more row k n (omega (arith, is)) (omega (arith, within)))

-- sets of no modes are all the same
pub none_are : (row : List Modes) → list_all (λ modes. modes.0 == 0) row ≡ true → row ≡ replicate (length row) no_modes
none_are [] none = refl
none_are (modes ∷ row) none = λ i. record { 0 = empty i } ∷ none_are row (and_parts (modes.0 == 0) (list_all (λ modes. modes.0 == 0) row) none).1 i
  where
    empty : modes.0 ≡ 0
    empty = grind (arith, nat_tests, none)

drop_none : (n : ℕ) → drop {A = Modes} n [] ≡ []
drop_none zero = refl
drop_none (suc n) = refl

-- sets of no modes at the end pass a test that none passes, from whatever place on
pub all_before : (test : Modes → Bool) → test no_modes ≡ true → (row : List Modes) (left n : ℕ) → list_all test (drop n (row ++ replicate left no_modes)) ≡ list_all test (drop n row)
all_before test none [] zero n = refl
all_before test none [] (suc left) zero = ap (λ b. b && list_all test (replicate left no_modes)) none ∙ all_before test none [] left zero
all_before test none [] (suc left) (suc n) = all_before test none [] left n ∙ ap (list_all test) (drop_none n)
all_before test none (modes ∷ row) left zero = ap (λ b. test modes && b) (all_before test none row left zero)
all_before test none (modes ∷ row) left (suc n) = all_before test none row left n

-- no set from a place on has modes
pub none_from : (row : List Modes) (n : ℕ) → ((subject : ℕ) → n ≤ subject → subject < length row → (in_row row subject).0 ≡ 0) → list_all (λ modes. modes.0 == 0) (drop n row) ≡ true
none_from [] zero none = refl
none_from [] (suc n) none = refl
none_from (modes ∷ row) zero none =
    let empty : modes.0 ≡ 0 = none 0 (omega arith) (omega arith) in
    let here : (modes.0 == 0) ≡ true = grind (arith, nat_tests, empty) in
    and_from (modes.0 == 0) (list_all (λ modes. modes.0 == 0) row) here (none_from row zero (λ subject from below. none (suc subject) (omega arith) (omega (arith, below))))
none_from (modes ∷ row) (suc n) none = none_from row n (λ subject from below. none (suc subject) (omega (arith, from)) (omega (arith, below)))

-- one set from a place on has modes
pub some_from : (row : List Modes) (n subject : ℕ) → n ≤ subject → subject < length row → (in_row row subject).0 ≢ 0 → list_all (λ modes. modes.0 == 0) (drop n row) ≡ false
some_from row n subject from below some =
    let place : n + (subject - n) ≡ subject = omega (arith, from) in
    let there : get_or (drop n row) (subject - n) no_modes ≡ in_row row subject = get_or-drop n row (subject - n) no_modes ∙ ap (in_row row) place in
    list_all_at (λ modes. modes.0 == 0) (drop n row) (subject - n) no_modes (omega (arith, length-drop n row, below, from))
    (ap (λ (modes : Modes). modes.0 == 0) there ∙ not_zero (in_row row subject).0 some)
  where
    not_zero : (k : ℕ) → k ≢ 0 → (k == 0) ≡ false
    not_zero k some = grind (arith, nat_tests, some)
