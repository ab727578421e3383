-- What is spelt is read as itself, if it is read.
use Rattle.std.proofs.Common.{◌≡◌, ℕ, ◌+◌, ◌*◌, ◌/◌, ◌%◌, ◌^◌, true, List, [], ◌∷◌, ◌++◌, length, take, drop, Result, Ok, Err, refl, sym, ap, subst, ◌∙◌, append_assoc}
use Rattle.std.proofs.Common.{arith, ◌==◌}
use Rattle.std.specs.Prelude.{not, nat_lt, is_none, unwrap_or, flat_map, All}
use Rattle.std.specs.List.{list_all}
use Rattle.std.proofs.lemmas.Bool.{and_parts}
use Rattle.std.proofs.lemmas.Bool.Decides.{nat_tests}
use Rattle.std.proofs.lemmas.List.{append-nil, take_at, drop_at}
use Rattle.std.proofs.lemmas.List.Concat.{flat_map-cons}
use Rattle.std.proofs.lemmas.List.Elements.{All-head, All-tail}
use Rattle.bk_level.specs.Levels.{Level, has_only_below}
use Rattle.bk_level.specs.Masks.{mask_of, mask_in, categories_of}
use Rattle.bk_level.specs.Masks as masks
use Rattle.bk_level.proofs.MaskLemmas.{only_first}
use Rattle.bk_path.specs.Paths.{Path, IsPath, pack, unpack}
use Rattle.bk_path.proofs.PathLemmas.{unpack-pack}
use Rattle.bk_space.specs.declared.Mode.{Mode}
use Rattle.bk_space.specs.declared.Mode.TheVariants.{Supervisor, User}
use Rattle.bk_state.specs.declared.image.Hold.{Hold}
use Rattle.bk_state.specs.declared.image.SubjectRec.{SubjectRec}
use Rattle.bk_state.specs.declared.image.WindowRec.{WindowRec}
use Rattle.bk_image.specs.declared.fault.ImageFault.{ImageFault}
use Rattle.bk_image.specs.declared.fault.ImageField.{ImageField}
use Rattle.bk_image.specs.declared.version.Version.{Version}
use Rattle.bk_image.specs.declared.version.Version.TheVariants.{One, Two}
use Rattle.bk_image.specs.Versions.{category_words, level_size}
use Rattle.bk_image.specs.Parts.{Rest, Reads, Check, ◌>>=◌, first_failing, part, checked, each_of, is_outside}
use Rattle.bk_image.specs.Numbers.{byte, word, words_of, path_in}
use Rattle.bk_image.specs.Header.{byte_at, word_at}
use Rattle.bk_image.specs.Subjects.{level_of, level_checks, level_at, schedule_checks, schedule_at, window_of, window_checks, window_at, mode_of, subject_of}
use Rattle.bk_image.specs.Subjects.{subject_fails, subject_at}
use Rattle.bk_image.specs.Objects.{Objects}
use Rattle.bk_image.specs.Holds.{hold_of, hold_checks, hold_at}
use Rattle.bk_image.specs.Spelling.{word_bytes, words_bytes, path_bytes, level_bytes, mode_number, window_bytes, subject_record, subject_bytes, hold_bytes}
use Rattle.bk_image.specs.Writing.{LevelFits, WindowFits, SubjectFits, HoldFits}
use Rattle.bk_base.proofs.FaultLemmas.{bind_ok, ok_is}
use Rattle.bk_image.proofs.Takes.{part_ok, bytes_from, by_places}
use Rattle.bk_base.specs.Parts.{from}

-- p reads nothing but x, with those bytes left
pub record Only {X : Type 0} (x : X) (more : List ℕ) (p : Reads X) : Type 0 where
  pub is : (y : X × Rest) → p ≡ Ok y → (x ≡ y.0) × (more ≡ y.1.bytes)

pub only_then : {A B : Type 0} (a : A) (rest : List ℕ) (p : Reads A) (g : A × Rest → Reads B) (b : B) (more : List ℕ) → Only a rest p → ((at : ℕ) → Only b more (g (a, from at rest))) → Only b more (p >>= g)
only_then {B = B} a rest p g b more first second = record {
  is = λ y e.
      let d = bind_ok p g y e in
      let f = first.is d.0 d.1 in
      (second d.0.1.at).is y ((λ i. g (f.0 i, from d.0.1.at (f.1 i))) ∙ d.2);
}

pub only_checked : {B : Type 0} (c : Result (Unit {0}) ImageFault) (b : B) (more : List ℕ) (p : Reads B) → Only b more p → Only b more (c >>= λ passed. p)
only_checked (Ok u) b more p h = h
only_checked (Err d) b more p h = record { is = λ y e. absurd cc }

pub only_done : {B : Type 0} (b c : B) (at : ℕ) (more : List ℕ) → b ≡ c → Only b more (Ok (c, from at more))
only_done b c at more same = record { is = λ y e. let q = ok_is (c, from at more) y e in (same ∙ (λ i. (q i).0), λ i. (q i).1.bytes) }

pub part_only : (n at : ℕ) (text more : List ℕ) → length text ≡ n → Only text more (part n (from at (text ++ more)))
part_only n at text more count = record {
  is = λ y e.
      let p = part_ok n (from at (text ++ more)) y e in
      let t : take n (text ++ more) ≡ text = take_at text more n count in
      let d : drop n (text ++ more) ≡ more = drop_at text more n count in
      (sym t ∙ (λ i. (p.2 i).0), sym d ∙ (λ i. (p.2 i).1.bytes));
}

pub checked_only : {X : Type 0} (n : ℕ) (checks : List ℕ → List Check) (value : List ℕ → X) (x : X) (at : ℕ) (text more : List ℕ) → length text ≡ n → value text ≡ x → Only x more (checked n checks value (from at (text ++ more)))
checked_only n checks value x at text more count back =
    only_then text more (part n (from at (text ++ more))) (λ p. first_failing at (checks p.0) >>= λ passed. Ok (value p.0, p.1)) x more (part_only n at text more count) (λ end.
    only_checked (first_failing at (checks text)) x more (Ok (value text, from end more)) (only_done x (value text) end more (sym back)))

-- the spelling of what fits is read as itself, if it is read
abbrev pub Rereads : {X : Type 0} → (X → Type 0) → (X → List ℕ) → (Rest → Reads X) → Type 0
Rereads {X = X} fits text read = (x : X) → fits x → (at : ℕ) (more : List ℕ) → Only x more (read (from at (text x ++ more)))

each_only : {X : Type 0} (fits : X → Type 0) (text : X → List ℕ) (next : List X → Rest → Reads X) → ((before : List X) → Rereads fits text (next before))
    → (xs : List X) → All fits xs → (before : List X) (at : ℕ) (more : List ℕ) → Only (before ++ xs) more (each_of next (length xs) before (from at (flat_map text xs ++ more)))
unfolding each_of
each_only fits text next one [] fit before at more = only_done (before ++ []) before at more (append-nil before)
each_only {X = X} fits text next one (x ∷ xs) fit before at more =
    let bytes : flat_map text (x ∷ xs) ++ more ≡ text x ++ (flat_map text xs ++ more) = ap (λ (t : List ℕ). t ++ more) (flat_map-cons text x xs) ∙ append_assoc (text x) (flat_map text xs) more in
    let rest = flat_map text xs ++ more in
    let g = λ (y : X × Rest). each_of next (length xs) (before ++ y.0 ∷ []) y.1 in
    let whole : before ++ x ∷ xs ≡ (before ++ x ∷ []) ++ xs = sym (append_assoc before (x ∷ []) xs) in
    subst (λ (t : List ℕ). Only (before ++ x ∷ xs) more (next before (from at t) >>= g)) (sym bytes)
    (subst (λ (z : List X). Only z more (next before (from at (text x ++ rest)) >>= g)) (sym whole)
    (only_then x rest (next before (from at (text x ++ rest))) g ((before ++ x ∷ []) ++ xs) more (one before x (All-head fits x xs fit) at rest) (λ end.
    each_only fits text next one xs (All-tail fits x xs fit) (before ++ x ∷ []) end more)))

-- the same, where nothing stands before
pub all_only : {X : Type 0} (fits : X → Type 0) (text : X → List ℕ) (next : List X → Rest → Reads X) → ((before : List X) → Rereads fits text (next before))
    → (xs : List X) → All fits xs → (at : ℕ) (more : List ℕ) → Only xs more (each_of next (length xs) [] (from at (flat_map text xs ++ more)))
all_only fits text next one xs fit at more = each_only fits text next one xs fit [] at more

-- ---- numbers and paths

-- nothing is asked
abbrev pub Any : {X : Type 0} → X → Type 0
Any x = Unit {0}

pub word_back : (n : ℕ) → n % 256 + 256 * (n / 256) ≡ n
word_back n = omega arith

pub words_again : (words : List ℕ) → words_of (words_bytes words) ≡ words
words_again [] = refl
words_again (w ∷ words) = λ i. word_back w i ∷ words_again words i

pub words_count : (words : List ℕ) → length (words_bytes words) ≡ 2 * length words
words_count [] = refl
words_count (w ∷ words) = omega (arith, words_count words)

-- a path is got back from its words
pub path_again : (path : Path) → IsPath path → unwrap_or (unpack ((pack path).0 % 256 + 256 * ((pack path).0 / 256)) ((pack path).1 % 256 + 256 * ((pack path).1 / 256))) [] ≡ path
path_again path is = (λ i. unwrap_or (unpack (word_back (pack path).0 i) (word_back (pack path).1 i)) []) ∙ ap (λ o. unwrap_or o []) (unpack-pack path is)

pub byte_only : (f : ImageField) (low high : ℕ) → Rereads Any (λ x. x ∷ []) (byte_at f low high)
unfolding byte_at
byte_only f low high x fit at more = checked_only 1 (λ b. (f, is_outside low high (byte b 0)) ∷ []) (λ b. byte b 0) x at (x ∷ []) more refl refl

pub word_only : (f : ImageField) (low high : ℕ) → Rereads Any word_bytes (word_at f low high)
unfolding word_at
word_only f low high x fit at more = checked_only 2 (λ b. (f, is_outside low high (word b 0)) ∷ []) (λ b. word b 0) x at (word_bytes x) more refl (word_back x)

pub schedule_only : (subjects : ℕ) (before : List ℕ) → Rereads Any (λ x. x ∷ []) (schedule_at subjects before)
unfolding schedule_at
schedule_only subjects before x fit at more = checked_only 1 (λ b. schedule_checks subjects (byte b 0)) (λ b. byte b 0) x at (x ∷ []) more refl refl

-- ---- levels, windows, holds

-- what is asked of a level for its spelling to be read as itself: in version 1, that it has only categories below 16
abbrev pub LevelIsSpelt : Version → Level → Type 0
LevelIsSpelt One level = LevelFits level × (has_only_below 16 level ≡ true)
LevelIsSpelt Two level = LevelFits level

-- the words of a mask make it again, in version 1 where the categories are below 16
mask_again : (version : Version) (level : Level) → LevelIsSpelt version level → mask_in (words_of (words_bytes (take (category_words version) (masks.words_of (mask_of level.categories))))) ≡ mask_of level.categories
mask_again One level fit =
    let mask = mask_of level.categories in
    let x = mask % 2 ^ 16 in
    let y = mask / 2 ^ 16 % 2 ^ 16 in
    let z = mask / 2 ^ 32 % 2 ^ 16 in
    let small = fit.0.small in
    let same : mask_in (x ∷ y ∷ z ∷ []) ≡ mask = omega (arith, small) in
    let first : list_all (λ category. nat_lt category 16) (categories_of (mask_in (x ∷ y ∷ z ∷ []))) ≡ true = ap (λ m. list_all (λ category. nat_lt category 16) (categories_of m)) same ∙ ap (λ categories. list_all (λ category. nat_lt category 16) categories) fit.0.back ∙ fit.1 in
    let none = and_parts (y == 0) (z == 0) (only_first x y z (omega arith) (omega arith) (omega arith) ∙ first) in
    let second : y ≡ 0 = grind (arith, nat_tests, none.0) in
    let third : z ≡ 0 = grind (arith, nat_tests, none.1) in
    ap mask_in (words_again (x ∷ [])) ∙ omega (arith, same, second, third)
mask_again Two level fit =
    let small = fit.small in
    ap mask_in (words_again (masks.words_of (mask_of level.categories))) ∙ omega (arith, small)

level_fits : (version : Version) (level : Level) → LevelIsSpelt version level → LevelFits level
level_fits One level fit = fit.0
level_fits Two level fit = fit

pub level_only : (version : Version) (before : List Level) → Rereads (LevelIsSpelt version) (level_bytes version) (level_at version before)
unfolding level_at
level_only version before x fit at more =
    checked_only (level_size version) (λ b. level_checks before (byte b 1 == 0) (level_of b)) level_of x at (level_bytes version x) more (size version)
    (λ i. record { class = x.class; categories = (ap categories_of (mask_again version x fit) ∙ (level_fits version x fit).back) i })
  where
    size : (v : Version) → length (level_bytes v x) ≡ level_size v
    size One = refl
    size Two = refl

pub window_only : (before : List WindowRec) → Rereads WindowFits window_bytes (window_at before)
unfolding window_at path_bytes
window_only before x fit at more =
    checked_only 5 (λ b. window_checks before (not (is_none (path_in b 1))) (window_of b)) window_of x at (window_bytes x) more refl
    (λ i. record { index = x.index; path = path_again x.path fit i })

pub hold_only : (levels : List Level) (subjects : List SubjectRec) (objects : Objects) (before : List Hold) → Rereads HoldFits hold_bytes (hold_at levels subjects objects before)
unfolding hold_at path_bytes
hold_only levels subjects objects before x fit at more =
    checked_only 6 (λ b. hold_checks levels subjects objects before (not (is_none (path_in b 2))) (hold_of b)) hold_of x at (hold_bytes x) more refl
    (λ i. record { subject = x.subject; modes = x.modes; path = path_again x.path fit i })

-- ---- subjects

mode_again : (mode : Mode) → mode_of (mode_number mode) ≡ mode
mode_again Supervisor = refl
mode_again User = refl

-- what is read of a subject's record
record SubjectAgain (s : SubjectRec) : Type 0 where
  count : length (subject_record s) ≡ 39
  windows : byte (subject_record s) 38 ≡ length s.windows
  value : subject_of (subject_record s) s.windows ≡ s

abbrev by_registers : SubjectRec → SubjectRec
by_registers s = record s { regs = bytes_from 0 6 s.regs; entries = bytes_from 0 8 s.entries }

subject_again : (s : SubjectRec) → SubjectFits s → SubjectAgain s
subject_again s fit = subst SubjectAgain same (record {
  count = refl;
  windows = refl;
  value = λ i. record s {
    mode = mode_again s.mode i;
    previous = mode_again s.previous i;
    regs = r 0 i ∷ r 1 i ∷ r 2 i ∷ r 3 i ∷ r 4 i ∷ r 5 i ∷ [];
    user_sp = word_back s.user_sp i;
    super_sp = word_back s.super_sp i;
    pc = word_back s.pc i;
    entries = f 0 i ∷ f 1 i ∷ f 2 i ∷ f 3 i ∷ f 4 i ∷ f 5 i ∷ f 6 i ∷ f 7 i ∷ [];
  };
})
  where
    same : by_registers s ≡ s
    same = λ i. record s { regs = by_places s.regs 6 fit.regs i; entries = by_places s.entries 8 fit.entries i }

    r : (k : ℕ) → byte s.regs k % 256 + 256 * (byte s.regs k / 256) ≡ byte s.regs k
    r k = word_back (byte s.regs k)

    f : (k : ℕ) → byte s.entries k % 256 + 256 * (byte s.entries k / 256) ≡ byte s.entries k
    f k = word_back (byte s.entries k)

pub subject_only : (levels : List Level) (before : List SubjectRec) → Rereads SubjectFits subject_bytes (subject_at levels before)
unfolding subject_at
subject_only levels before x fit at more =
    let b = subject_record x in
    let windows = flat_map window_bytes x.windows in
    let again = subject_again x fit in
    let g : List WindowRec × Rest → Reads SubjectRec = λ w. Ok (subject_of b w.0, w.1) in
    let k : List ℕ × Rest → Reads SubjectRec = λ b. each_of window_at (byte b.0 38) [] b.1 >>= λ w. Ok (subject_of b.0 w.0, w.1) in
    subst (λ (t : List ℕ). Only x more (checked 39 (subject_fails levels) (λ b. b) (from at t) >>= k)) (sym (append_assoc b windows more))
    (only_then b (windows ++ more) (checked 39 (subject_fails levels) (λ b. b) (from at (b ++ (windows ++ more)))) k x more (checked_only 39 (subject_fails levels) (λ b. b) b at b (windows ++ more) again.count refl) (λ next.
    subst (λ n. Only x more (each_of window_at n [] (from next (windows ++ more)) >>= g)) (sym again.windows)
    (only_then x.windows more (each_of window_at (length x.windows) [] (from next (windows ++ more))) g x more (all_only WindowFits window_bytes window_at window_only x.windows fit.windows next more) (λ end.
    only_done x (subject_of b x.windows) end more (sym again.value)))))
