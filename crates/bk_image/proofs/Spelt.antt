-- What is read as a part is spelt by exactly the bytes that were taken.
use Rattle.std.proofs.Common.{◌≡◌, ℕ, zero, suc, ◌+◌, ◌-◌, ◌*◌, ◌/◌, ◌%◌, ◌<◌, ◌≤◌, Bool, true, false, List, [], ◌∷◌, ◌++◌, length, take, drop, get_or, replicate, Option, Some, None}
use Rattle.std.proofs.Common.{Ok, refl, sym, ap, subst, ◌∙◌, arith, ◌==◌, length-take, length-drop}
use Rattle.std.specs.Prelude.{◌^◌, not, ◌&&◌, ◌||◌, nat_lt, is_none, unwrap_or, flat_map, if◌then◌else◌}
use Rattle.bk_space.specs.declared.Mode.TheVariants.{Supervisor, User}
use Rattle.std.specs.List.{list_all}
use Rattle.std.proofs.lemmas.Bool.{and_from, and_parts}
use Rattle.std.proofs.lemmas.Bool.Decides.{nat_tests}
use Rattle.std.proofs.lemmas.List.{take_at}
use Rattle.bk_level.specs.Levels.{Level, has_only_below}
use Rattle.bk_level.proofs.MaskLemmas.{only_first}
use Rattle.bk_level.specs.Masks.{categories_of, mask_in, mask_of-categories_of}
use Rattle.bk_level.specs.Masks as masks
use Rattle.bk_path.specs.Paths.{Path, unpack}
use Rattle.bk_path.proofs.PathLemmas.{pack-unpack}
use Rattle.bk_object.specs.Kinds.{kind_number, blocks_or_line}
use Rattle.bk_object.specs.Modes.{no_modes}
use Rattle.bk_object.specs.Pairs.{split_pairs, joined_pairs}
use Rattle.bk_object.specs.Rows.{most_subjects}
use Rattle.bk_state.specs.declared.image.Hold.{Hold}
use Rattle.bk_state.specs.declared.image.ObjectRec.{ObjectRec}
use Rattle.bk_state.specs.declared.image.SubjectRec.{SubjectRec}
use Rattle.bk_state.specs.declared.image.WindowRec.{WindowRec}
use Rattle.bk_image.specs.declared.fault.ImageField.{ImageField}
use Rattle.bk_image.specs.declared.version.Version.{Version}
use Rattle.bk_image.specs.declared.version.Version.TheVariants.{One, Two}
use Rattle.bk_image.specs.Versions.{category_words, bytes_of_row, level_size, record_size, subjects_of}
use Rattle.bk_image.specs.Parts.{Rest, Passes, ◌>>=◌, first_failing, part, checked, each_of, is_outside}
use Rattle.bk_image.specs.Numbers.{byte, word, words_of, path_in}
use Rattle.bk_image.specs.Header.{byte_at, word_at}
use Rattle.bk_image.specs.Subjects.{level_of, level_checks, level_at, schedule_checks, schedule_at, window_of, window_checks, window_at, is_mode, mode_of}
use Rattle.bk_image.specs.Subjects.{subject_of, subject_fails, subject_at}
use Rattle.bk_image.specs.Objects.{Objects, kind_of, blocks_of, row_of, object_of, count_in, object_fails, words_checks, object_at}
use Rattle.bk_image.specs.Holds.{hold_of, hold_checks, hold_at}
use Rattle.bk_image.specs.Spelling.{word_bytes, path_bytes, level_bytes, mode_number, window_bytes, subject_record, subject_bytes, kind_bytes}
use Rattle.bk_image.specs.Spelling.{words_bytes, row_bytes, object_record, object_bytes, hold_bytes}
use Rattle.bk_base.proofs.FaultLemmas.{bind_ok, ok_is}
use Rattle.bk_image.proofs.Takes.{IsBytes, IsBytes-drop, IsBytes-take, Takes-then, Takes-value, part_takes, checked_ok, Spells, checked_spells, all_take}
use Rattle.bk_image.proofs.Takes.{bytes_from, by_places, word_bytes-word, words_back}
use Rattle.bk_image.proofs.Pairs.{length-split_pairs, joined-split}

-- ---- numbers

pub byte_spells : (f : ImageField) (low high : ℕ) → Spells (λ x. x ∷ []) (byte_at f low high)
unfolding byte_at
byte_spells f low high = checked_spells (λ x. x ∷ []) 1 (λ b. (f, is_outside low high (byte b 0)) ∷ []) (λ b. byte b 0) (λ b count fit passed. by_places b 1 count)

pub word_spells : (f : ImageField) (low high : ℕ) → Spells word_bytes (word_at f low high)
unfolding word_at
word_spells f low high = checked_spells word_bytes 2 (λ b. (f, is_outside low high (word b 0)) ∷ []) (λ b. word b 0) (λ b count fit passed. word_bytes-word (byte b 0) (byte b 1) (fit 0) ∙ by_places b 2 count)

pub schedule_spells : (subjects : ℕ) (before : List ℕ) → Spells (λ x. x ∷ []) (schedule_at subjects before)
unfolding schedule_at
schedule_spells subjects before = checked_spells (λ x. x ∷ []) 1 (λ b. schedule_checks subjects (byte b 0)) (λ b. byte b 0) (λ b count fit passed. by_places b 1 count)

zero_is : (n : ℕ) → not (n == 0) ≡ false → 0 ≡ n
zero_is n h = grind (arith, nat_tests, h)

not_not : (b : Bool) → not (not b) ≡ false → b ≡ false
not_not true h = cc
not_not false h = refl

-- ---- paths

-- the words of a path that was read
path_back : (a b c d : ℕ) → a < 256 → b < 256 → c < 256 → d < 256 → is_none (unpack (a + 256 * b) (c + 256 * d)) ≡ false
    → path_bytes (unwrap_or (unpack (a + 256 * b) (c + 256 * d)) []) ≡ a ∷ b ∷ c ∷ d ∷ []
unfolding path_bytes
path_back a b c d la lb lc ld some = by (unpack (a + 256 * b) (c + 256 * d)) refl some
  where
    by : (o : Option Path) → unpack (a + 256 * b) (c + 256 * d) ≡ o → is_none o ≡ false → path_bytes (unwrap_or o []) ≡ a ∷ b ∷ c ∷ d ∷ []
    by None is h = cc
    by (Some path) is h =
        let packs = (pack-unpack (a + 256 * b) (c + 256 * d) path (omega arith) (omega arith) is).0 in
        (λ i. word_bytes (packs i).0 ++ word_bytes (packs i).1) ∙ (λ i. word_bytes-word a b la i ++ word_bytes-word c d lc i)

-- ---- levels, windows, holds

-- the words of a level, as many as the version has, make a mask of 48 bits whose first words they are
mask_back : (version : Version) (words : List ℕ) → length words ≡ category_words version → ((i : ℕ) → get_or words i 0 < 2 ^ 16) → (mask_in words < 2 ^ 48) × (take (category_words version) (masks.words_of (mask_in words)) ≡ words)
mask_back One [] count small = absurd (omega (arith, count))
mask_back One (x ∷ []) count small = (omega (arith, small 0), λ i. first i ∷ [])
  where
    first : (x + 2 ^ 16 * 0) % 2 ^ 16 ≡ x
    first = omega (arith, small 0)
mask_back One (x ∷ y ∷ words) count small = absurd (omega (arith, count))
mask_back Two [] count small = absurd (omega (arith, count))
mask_back Two (x ∷ []) count small = absurd (omega (arith, count))
mask_back Two (x ∷ y ∷ []) count small = absurd (omega (arith, count))
mask_back Two (x ∷ y ∷ z ∷ []) count small = (omega (arith, small 0, small 1, small 2), λ i. first i ∷ second i ∷ third i ∷ [])
  where
    mask : ℕ
    mask = x + 2 ^ 16 * (y + 2 ^ 16 * (z + 2 ^ 16 * 0))

    first : mask % 2 ^ 16 ≡ x
    first = omega (arith, small 0)

    second : mask / 2 ^ 16 % 2 ^ 16 ≡ y
    second = omega (arith, small 0, small 1)

    third : mask / 2 ^ 32 % 2 ^ 16 ≡ z
    third = omega (arith, small 0, small 1, small 2)
mask_back Two (x ∷ y ∷ z ∷ w ∷ words) count small = absurd (omega (arith, count))

-- the words of bytes are of 16 bits
pub words_small : (b : List ℕ) → IsBytes b → (i : ℕ) → get_or (words_of b) i 0 < 2 ^ 16
words_small [] fits i = omega arith
words_small (low ∷ []) fits i = omega arith
words_small (low ∷ high ∷ b) fits zero = omega (arith, fits 0, fits 1)
words_small (low ∷ high ∷ b) fits (suc i) = words_small b (λ k. fits (suc (suc k))) i

level_back : (version : Version) (b : List ℕ) → length b ≡ level_size version → IsBytes b → not (byte b 1 == 0) ≡ false → level_bytes version (level_of b) ≡ b
level_back version [] count fits zero_byte = absurd (omega (arith, count))
level_back version (x ∷ []) count fits zero_byte = absurd (omega (arith, count))
level_back version (x ∷ y ∷ b) count fits zero_byte =
    let words = words_back (category_words version) b (omega (arith, count)) (λ i. fits (suc (suc i))) in
    let mask = mask_back version (words_of b) words.1 (words_small b (λ i. fits (suc (suc i)))) in
    let same = mask_of-categories_of (mask_in (words_of b)) mask.0 in
    (λ i. x ∷ zero_is y zero_byte i ∷ words_bytes (take (category_words version) (masks.words_of (same i))))
    ∙ ap (λ (t : List ℕ). x ∷ y ∷ words_bytes t) mask.1
    ∙ ap (λ (t : List ℕ). x ∷ y ∷ t) words.0

pub level_spells : (version : Version) (before : List Level) → Spells (level_bytes version) (level_at version before)
unfolding level_at
level_spells version before = checked_spells (level_bytes version) (level_size version) (λ b. level_checks before (byte b 1 == 0) (level_of b)) level_of (λ b count fit passed.
    level_back version b count fit passed.0)

-- a level that was read in version 1 has only categories below 16
pub level_said : (before : List Level) (rest : Rest) (x : Level × Rest) → IsBytes rest.bytes → level_at One before rest ≡ Ok x → has_only_below 16 x.0 ≡ true
unfolding level_at
level_said before rest x fits e =
    let c = checked_ok 4 (λ b. level_checks before (byte b 1 == 0) (level_of b)) level_of rest x fits e in
    subst (λ (level : Level). has_only_below 16 level ≡ true) c.is (first_only c.bytes c.count c.fit)
  where
    first_only : (b : List ℕ) → length b ≡ 4 → IsBytes b → has_only_below 16 (level_of b) ≡ true
    first_only b count fit =
        let small : word b 2 < 2 ^ 16 = omega (arith, fit 2, fit 3) in
        let mask : mask_in (words_of (drop 2 (bytes_from 0 4 b))) ≡ mask_in (word b 2 ∷ 0 ∷ 0 ∷ []) = omega arith in
        subst (λ c. has_only_below 16 (level_of c) ≡ true) (by_places b 4 count)
        (ap (λ m. list_all (λ category. nat_lt category 16) (categories_of m)) mask ∙ sym (only_first (word b 2) 0 0 small (omega arith) (omega arith)))

pub two_is_not_one : Two ≡ One → ⊥
two_is_not_one is = cc

pub all_push : {X : Type 0} (test : X → Bool) (xs : List X) (x : X) → list_all test xs ≡ true → test x ≡ true → list_all test (xs ++ x ∷ []) ≡ true
all_push test [] x all one = and_from (test x) true one refl
all_push test (y ∷ xs) x all one = and_from (test y) (list_all test (xs ++ x ∷ [])) (and_parts (test y) (list_all test xs) all).0 (all_push test xs x (and_parts (test y) (list_all test xs) all).1 one)

pub window_spells : (before : List WindowRec) → Spells window_bytes (window_at before)
unfolding window_at
window_spells before = checked_spells window_bytes 5 (λ b. window_checks before (not (is_none (path_in b 1))) (window_of b)) window_of (λ b count fit passed.
    ap (λ (t : List ℕ). byte b 0 ∷ t) (path_back (byte b 1) (byte b 2) (byte b 3) (byte b 4) (fit 1) (fit 2) (fit 3) (fit 4) (not_not (is_none (path_in b 1)) passed.1.1.0)) ∙ by_places b 5 count)

pub hold_spells : (levels : List Level) (subjects : List SubjectRec) (objects : Objects) (before : List Hold) → Spells hold_bytes (hold_at levels subjects objects before)
unfolding hold_at
hold_spells levels subjects objects before = checked_spells hold_bytes 6 (λ b. hold_checks levels subjects objects before (not (is_none (path_in b 2))) (hold_of b)) hold_of (λ b count fit passed.
    ap (λ (t : List ℕ). byte b 0 ∷ byte b 1 ∷ t) (path_back (byte b 2) (byte b 3) (byte b 4) (byte b 5) (fit 2) (fit 3) (fit 4) (fit 5) (not_not (is_none (path_in b 2)) passed.1.1.0)) ∙ by_places b 6 count)

-- ---- subjects

mode_back : (n : ℕ) → is_mode n ≡ true → mode_number (mode_of n) ≡ n
mode_back n is = by (n == 1) refl is
  where
    by : (one : Bool) → (n == 1) ≡ one → (one || n == 3) ≡ true → mode_number (if one then Supervisor else User) ≡ n
    by true e h = grind (arith, nat_tests, e)
    by false e h = grind (arith, nat_tests, h)

and_first : (a b : Bool) → not (a && b) ≡ false → a ≡ true
and_first a b both = grind (arith, both)

and_second : (a b : Bool) → not (a && b) ≡ false → b ≡ true
and_second a b both = grind (arith, both)

-- the pieces of 39 bytes
subject_pieces : (b : List ℕ) → length b ≡ 39 →
    (byte b 0 ∷ byte b 1 ∷ byte b 2 ∷ byte b 3 ∷ []) ++ take 12 (drop 4 b) ++ (byte b 16 ∷ byte b 17 ∷ []) ++ (byte b 18 ∷ byte b 19 ∷ [])
    ++ (byte b 20 ∷ byte b 21 ∷ []) ++ take 16 (drop 22 b) ++ (byte b 38 ∷ []) ≡ b
subject_pieces b count = subst pieces (by_places b 39 count) refl
  where
    pieces : List ℕ → Type 0
    pieces c = (byte c 0 ∷ byte c 1 ∷ byte c 2 ∷ byte c 3 ∷ []) ++ take 12 (drop 4 c) ++ (byte c 16 ∷ byte c 17 ∷ []) ++ (byte c 18 ∷ byte c 19 ∷ [])
        ++ (byte c 20 ∷ byte c 21 ∷ []) ++ take 16 (drop 22 c) ++ (byte c 38 ∷ []) ≡ c

-- n bytes from a place on, where there are as many
piece_length : (at n : ℕ) (b : List ℕ) → at + n ≤ length b → length (take n (drop at b)) ≡ n
piece_length at n b long = omega (arith, length-take n (drop at b), length-drop at b)

subject_back : (levels : List Level) (b : List ℕ) (windows : List WindowRec) → length b ≡ 39 → IsBytes b → Passes (subject_fails levels b) → length windows ≡ byte b 38 → subject_record (subject_of b windows) ≡ b
subject_back levels b windows count fit passed windows_are =
    let modes = passed.1.1.1.0 in
    let mode = mode_back (byte b 2) (and_first (is_mode (byte b 2)) (is_mode (byte b 3)) modes) in
    let previous = mode_back (byte b 3) (and_second (is_mode (byte b 2)) (is_mode (byte b 3)) modes) in
    let regs = (words_back 6 (take 12 (drop 4 b)) (piece_length 4 12 b (omega (arith, count))) (IsBytes-take 12 (drop 4 b) (IsBytes-drop 4 b fit))).0 in
    let entries = (words_back 8 (take 16 (drop 22 b)) (piece_length 22 16 b (omega (arith, count))) (IsBytes-take 16 (drop 22 b) (IsBytes-drop 22 b fit))).0 in
    let user = word_bytes-word (byte b 16) (byte b 17) (fit 16) in
    let supervisor = word_bytes-word (byte b 18) (byte b 19) (fit 18) in
    let pc = word_bytes-word (byte b 20) (byte b 21) (fit 20) in
    (λ i. (byte b 0 ∷ byte b 1 ∷ mode i ∷ previous i ∷ []) ++ regs i ++ user i ++ supervisor i ++ pc i ++ entries i ++ (windows_are i ∷ [])) ∙ subject_pieces b count

pub subject_spells : (levels : List Level) (before : List SubjectRec) → Spells subject_bytes (subject_at levels before)
unfolding subject_at
subject_spells levels before rest x fits e =
    let a = bind_ok (checked 39 (subject_fails levels) (λ b. b) rest) (λ b. each_of window_at (byte b.0 38) [] b.1 >>= λ windows. Ok (subject_of b.0 windows.0, windows.1)) x e in
    let w = bind_ok (each_of window_at (byte a.0.0 38) [] a.0.1) (λ windows. Ok (subject_of a.0.0 windows.0, windows.1)) x a.2 in
    let q = ok_is (subject_of a.0.0 w.0.0, w.0.1) x w.2 in
    let c = checked_ok 39 (subject_fails levels) (λ b. b) rest a.0 fits a.1 in
    let t = all_take window_bytes window_at window_spells (byte a.0.0 38) a.0.1 w.0 c.takes.fits w.1 in
    let same : c.bytes ≡ a.0.0 = c.is in
    let windows : length w.0.0 ≡ byte c.bytes 38 = t.0 ∙ ap (λ b. byte b 38) (sym same) in
    let front : subject_record (subject_of a.0.0 w.0.0) ≡ c.bytes = ap (λ b. subject_record (subject_of b w.0.0)) (sym same) ∙ subject_back levels c.bytes w.0.0 c.count c.fit c.passed windows in
    let both = Takes-then rest c.bytes a.0.1 (flat_map window_bytes w.0.0) w.0.1 c.takes t.1 in
    let text : subject_bytes (subject_of a.0.0 w.0.0) ≡ c.bytes ++ flat_map window_bytes w.0.0 = ap (λ (f : List ℕ). f ++ flat_map window_bytes w.0.0) front in
    Takes-value subject_bytes rest (c.bytes ++ flat_map window_bytes w.0.0) (subject_of a.0.0 w.0.0, w.0.1) x q text both

-- ---- objects

kind_back : (n line : ℕ) → not (not (nat_lt 3 n)) ≡ false → (kind_number (kind_of n line) ≡ n) × (blocks_or_line (kind_of n line) (blocks_of (kind_of n line) line) ≡ line)
kind_back zero line le = (refl, refl)
kind_back (suc zero) line le = (refl, refl)
kind_back (suc (suc zero)) line le = (refl, refl)
kind_back (suc (suc (suc zero))) line le = (refl, refl)
kind_back (suc (suc (suc (suc n)))) line le = absurd (grind (arith, nat_tests, le))

-- the bytes of a row are got back from its sets
row_back : (version : Version) (pairs : List ℕ) → length pairs ≡ bytes_of_row version → row_bytes version (row_of pairs) ≡ pairs
unfolding row_bytes
row_back version pairs whole =
    ap joined_pairs (take_at (split_pairs pairs) (replicate (most_subjects - 2 * length pairs) no_modes) (subjects_of version) (omega (arith, length-split_pairs pairs, whole))) ∙ joined-split pairs

-- the bytes are these pieces
abbrev IsPieces : (n : ℕ) → List ℕ → Type 0
IsPieces n b =
    (byte b 0 ∷ byte b 1 ∷ byte b 2 ∷ byte b 3 ∷ []) ++ (byte b 4 ∷ byte b 5 ∷ byte b 6 ∷ byte b 7 ∷ []) ++ (byte b 8 ∷ byte b 9 ∷ []) ++ take n (drop 10 b)
    ++ (byte b (10 + n) ∷ byte b (10 + n + 1) ∷ []) ≡ b

object_pieces : (version : Version) (b : List ℕ) → length b ≡ record_size version → IsPieces (bytes_of_row version) b
object_pieces One b count = subst (IsPieces 16) (by_places b 28 count) refl
object_pieces Two b count = subst (IsPieces 32) (by_places b 44 count) refl

object_back : (version : Version) (levels : List Level) (subjects lines : ℕ) (before : List ObjectRec) (b words : List ℕ) → length b ≡ record_size version → IsBytes b → Passes (object_fails version levels subjects lines before b) → length words ≡ count_in version b → object_record version (object_of version b words) ≡ b
unfolding kind_bytes
object_back version levels subjects lines before b words count fit passed words_are =
    let path = path_back (byte b 0) (byte b 1) (byte b 2) (byte b 3) (fit 0) (fit 1) (fit 2) (fit 3) (not_not (is_none (path_in b 0)) passed.0) in
    let kind = kind_back (byte b 4) (byte b 5) passed.1.1.1.0 in
    let zero_byte = zero_is (byte b 7) passed.1.1.1.1.1.1.1.1.0 in
    let quota = word_bytes-word (byte b 8) (byte b 9) (fit 8) in
    let n = bytes_of_row version in
    let row = row_back version (take n (drop 10 b)) (piece_length 10 n b (omega (arith, count))) in
    let words = ap word_bytes words_are ∙ word_bytes-word (byte b (10 + n)) (byte b (10 + n + 1)) (fit (10 + n)) in
    (λ i. path i ++ (kind.0 i ∷ kind.1 i ∷ byte b 6 ∷ zero_byte i ∷ []) ++ quota i ++ row i ++ words i) ∙ object_pieces version b count

pub object_spells : (version : Version) (levels : List Level) (subjects lines : ℕ) (before : List ObjectRec) → Spells (object_bytes version) (object_at version levels subjects lines before)
unfolding object_at object_bytes
object_spells version levels subjects lines before rest x fits e =
    let a = bind_ok (checked (record_size version) (object_fails version levels subjects lines before) (λ b. b) rest) (λ b. part (2 * count_in version b.0) b.1 >>= λ w. first_failing rest.at (words_checks (words_of w.0)) >>= λ passed. Ok (object_of version b.0 (words_of w.0), w.1)) x e in
    let d = bind_ok (part (2 * count_in version a.0.0) a.0.1) (λ w. first_failing rest.at (words_checks (words_of w.0)) >>= λ passed. Ok (object_of version a.0.0 (words_of w.0), w.1)) x a.2 in
    let f = bind_ok (first_failing rest.at (words_checks (words_of d.0.0))) (λ passed. Ok (object_of version a.0.0 (words_of d.0.0), d.0.1)) x d.2 in
    let q = ok_is (object_of version a.0.0 (words_of d.0.0), d.0.1) x f.2 in
    let c = checked_ok (record_size version) (object_fails version levels subjects lines before) (λ b. b) rest a.0 fits a.1 in
    let t = part_takes (2 * count_in version a.0.0) a.0.1 d.0 c.takes.fits d.1 in
    let same : c.bytes ≡ a.0.0 = c.is in
    let words = words_back (count_in version a.0.0) d.0.0 t.1 t.2 in
    let words_are : length (words_of d.0.0) ≡ count_in version c.bytes = words.1 ∙ ap (count_in version) (sym same) in
    let front : object_record version (object_of version a.0.0 (words_of d.0.0)) ≡ c.bytes = ap (λ b. object_record version (object_of version b (words_of d.0.0))) (sym same) ∙ object_back version levels subjects lines before c.bytes (words_of d.0.0) c.count c.fit c.passed words_are in
    let both = Takes-then rest c.bytes a.0.1 d.0.0 d.0.1 c.takes t.0 in
    let text : object_bytes version (object_of version a.0.0 (words_of d.0.0)) ≡ c.bytes ++ d.0.0 = λ i. front i ++ words.0 i in
    Takes-value (object_bytes version) rest (c.bytes ++ d.0.0) (object_of version a.0.0 (words_of d.0.0), d.0.1) x q text both
