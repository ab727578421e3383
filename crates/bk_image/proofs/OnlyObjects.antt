-- What is spelt as an object is read as that object, if it is read.
use Rattle.std.proofs.Common.{◌≡◌, ℕ, ◌+◌, ◌-◌, ◌*◌, ◌/◌, ◌%◌, ◌≤◌, true, List, ◌++◌, length, take, drop, replicate, length-drop, Ok, refl, sym, ap, subst, ◌∙◌, append_assoc, arith}
use Rattle.std.proofs.lemmas.Bool.Decides.{nat_tests}
use Rattle.std.proofs.lemmas.List.{take-append-drop}
use Rattle.bk_level.specs.Levels.{Level}
use Rattle.bk_path.specs.Paths.{IsPath}
use Rattle.bk_object.specs.Kinds.{kind_number, blocks_or_line}
use Rattle.bk_object.specs.Pairs.{split_pairs, joined_pairs}
use Rattle.bk_object.specs.Modes.{no_modes}
use Rattle.bk_object.specs.declared.modes.Modes.{Modes}
use Rattle.bk_object.specs.declared.kind.Kind.{Kind}
use Rattle.bk_object.specs.declared.kind.Kind.TheVariants.{Directory, Segment, Mailbox, Line}
use Rattle.bk_state.specs.declared.image.ObjectRec.{ObjectRec}
use Rattle.bk_image.specs.declared.version.Version.{Version}
use Rattle.bk_image.specs.declared.version.Version.TheVariants.{One, Two}
use Rattle.bk_image.specs.Versions.{bytes_of_row, record_size, subjects_of}
use Rattle.bk_image.specs.Parts.{Rest, Reads, ◌>>=◌, first_failing, part, checked}
use Rattle.bk_image.specs.Numbers.{word, words_of}
use Rattle.bk_image.specs.Objects.{kind_of, blocks_of, row_of, fits_subjects, object_of, count_in, object_fails, words_checks, object_at}
use Rattle.bk_image.specs.Spelling.{word_bytes, words_bytes, path_bytes, kind_bytes, row_bytes, object_record, object_bytes}
use Rattle.bk_image.specs.Writing.{RowFits, blocks_fit}
use Rattle.bk_base.specs.Parts.{from}
use Rattle.bk_image.proofs.Takes.{bytes_from, by_places}
use Rattle.bk_image.proofs.Pairs.{split-joined, length-joined, none_are}
use Rattle.bk_image.proofs.Only.{Only, only_then, only_checked, only_done, part_only, checked_only, Rereads, word_back, words_again, words_count, path_again}

kind_again : (kind : Kind) (blocks : ℕ) → blocks_fit kind blocks ≡ true →
    (kind_of (kind_number kind) (blocks_or_line kind blocks) ≡ kind) × (blocks_of (kind_of (kind_number kind) (blocks_or_line kind blocks)) (blocks_or_line kind blocks) ≡ blocks)
kind_again Directory blocks fit = (refl, refl)
kind_again Segment blocks fit = (refl, refl)
kind_again Mailbox blocks fit = (refl, refl)
kind_again (Line n) blocks fit = (refl, grind (arith, nat_tests, fit))

at_most : (version : Version) → 2 * bytes_of_row version ≤ 64
at_most One = omega arith
at_most Two = omega arith

-- a row is got back from its bytes, where the subjects that they have no place for have no modes
row_again : (version : Version) (row : List Modes) → RowFits row → fits_subjects (subjects_of version) row ≡ true → row_of (row_bytes version row) ≡ row
unfolding row_bytes
row_again version row fit rest =
    let n = bytes_of_row version in
    let two : 2 * n ≡ n + n = omega arith in
    let within : 2 * n ≤ length row = omega (arith, fit.whole, at_most version) in
    let front = split-joined row n (2 * n) two within fit.sets in
    let count : length (joined_pairs (take (2 * n) row)) ≡ n = length-joined row n (2 * n) two within in
    let left : length (drop (2 * n) row) ≡ 64 - 2 * n = omega (arith, fit.whole, length-drop (2 * n) row) in
    ap (λ (k : ℕ). split_pairs (joined_pairs (take (2 * n) row)) ++ replicate (64 - 2 * k) no_modes) count
    ∙ (λ i. front i ++ replicate (sym left i) no_modes)
    ∙ ap (λ (sets : List Modes). take (2 * n) row ++ sets) (sym (none_are (drop (2 * n) row) rest))
    ∙ take-append-drop (2 * n) row

-- what is asked of an object for its spelling to be read as itself; a line has no blocks
pub record ObjectIsSpelt (version : Version) (o : ObjectRec) : Type 0 where
  pub path : IsPath o.path
  pub row : RowFits o.facts.row
  pub rest : fits_subjects (subjects_of version) o.facts.row ≡ true
  pub blocks : blocks_fit o.facts.kind o.facts.blocks ≡ true

-- a record by the bytes of its row: where its row and the count behind it stand, and how long it is
record Placed (n : ℕ) (row : List ℕ) (b : List ℕ) (count : ℕ) : Type 0 where
  row_is : take n (drop 10 b) ≡ row
  count_is : word b (10 + n) ≡ count % 256 + 256 * (count / 256)
  size : length b ≡ 12 + n

placed : (version : Version) (path kind quota row : List ℕ) (count : ℕ) → length path ≡ 4 → length kind ≡ 4 → length quota ≡ 2 → length row ≡ bytes_of_row version →
    Placed (bytes_of_row version) row (path ++ kind ++ quota ++ row ++ word_bytes count) count
placed version path kind quota row count path_four kind_four quota_two whole =
    subst (λ p. Placed (bytes_of_row version) row (p ++ kind ++ quota ++ row ++ word_bytes count) count) (by_places path 4 path_four)
    (subst (λ k. Placed (bytes_of_row version) row (bytes_from 0 4 path ++ k ++ quota ++ row ++ word_bytes count) count) (by_places kind 4 kind_four)
    (subst (λ q. Placed (bytes_of_row version) row (bytes_from 0 4 path ++ bytes_from 0 4 kind ++ q ++ row ++ word_bytes count) count) (by_places quota 2 quota_two)
    (by version row whole)))
  where
    by : (v : Version) (r : List ℕ) → length r ≡ bytes_of_row v → Placed (bytes_of_row v) r (bytes_from 0 4 path ++ bytes_from 0 4 kind ++ bytes_from 0 2 quota ++ r ++ word_bytes count) count
    by One r is = subst (λ (t : List ℕ). Placed 16 t (bytes_from 0 4 path ++ bytes_from 0 4 kind ++ bytes_from 0 2 quota ++ t ++ word_bytes count) count) (by_places r 16 is) (record { row_is = refl; count_is = refl; size = refl })
    by Two r is = subst (λ (t : List ℕ). Placed 32 t (bytes_from 0 4 path ++ bytes_from 0 4 kind ++ bytes_from 0 2 quota ++ t ++ word_bytes count) count) (by_places r 32 is) (record { row_is = refl; count_is = refl; size = refl })

-- the row's bytes are as many as the version has
row_count : (version : Version) (row : List Modes) → RowFits row → length (row_bytes version row) ≡ bytes_of_row version
unfolding row_bytes
row_count version row fit = let n = bytes_of_row version in length-joined row n (2 * n) (omega arith) (omega (arith, fit.whole, at_most version))

object_placed : (version : Version) (o : ObjectRec) → ObjectIsSpelt version o → Placed (bytes_of_row version) (row_bytes version o.facts.row) (object_record version o) (length o.words)
unfolding path_bytes kind_bytes
object_placed version o is = placed version (path_bytes o.path) (kind_bytes o.facts) (word_bytes o.facts.quota) (row_bytes version o.facts.row) (length o.words) refl refl refl (row_count version o.facts.row is.row)

object_again : (version : Version) (o : ObjectRec) → ObjectIsSpelt version o → object_of version (object_record version o) o.words ≡ o
unfolding path_bytes kind_bytes
object_again version o is =
    let path = path_again o.path is.path in
    let kind = kind_again o.facts.kind o.facts.blocks is.blocks in
    let quota = word_back o.facts.quota in
    let row = ap row_of (object_placed version o is).row_is ∙ row_again version o.facts.row is.row is.rest in
    λ i. record o { path = path i; facts = record o.facts { kind = kind.0 i; blocks = kind.1 i; quota = quota i; row = row i } }

pub object_only : (version : Version) (levels : List Level) (subjects lines : ℕ) (before : List ObjectRec) → Rereads (ObjectIsSpelt version) (object_bytes version) (object_at version levels subjects lines before)
unfolding object_at object_bytes
object_only version levels subjects lines before x fit at more =
    let b = object_record version x in
    let c = words_bytes x.words in
    let words : List ℕ → List ℕ × Rest → Reads ObjectRec = λ b w. first_failing at (words_checks (words_of w.0)) >>= λ passed. Ok (object_of version b (words_of w.0), w.1) in
    let k : List ℕ × Rest → Reads ObjectRec = λ b. part (2 * count_in version b.0) b.1 >>= words b.0 in
    let place = object_placed version x fit in
    let count : length c ≡ 2 * count_in version b = omega (arith, place.count_is, word_back (length x.words), words_count x.words) in
    let value : x ≡ object_of version b (words_of c) = sym (ap (object_of version b) (words_again x.words) ∙ object_again version x fit) in
    subst (λ (t : List ℕ). Only x more (checked (record_size version) (object_fails version levels subjects lines before) (λ b. b) (from at t) >>= k)) (sym (append_assoc b c more))
    (only_then b (c ++ more) (checked (record_size version) (object_fails version levels subjects lines before) (λ b. b) (from at (b ++ (c ++ more)))) k x more (checked_only (record_size version) (object_fails version levels subjects lines before) (λ b. b) b at b (c ++ more) place.size refl) (λ next.
    only_then c more (part (2 * count_in version b) (from next (c ++ more))) (words b) x more (part_only (2 * count_in version b) next c more count) (λ end.
    only_checked (first_failing at (words_checks (words_of c))) x more (Ok (object_of version b (words_of c), from end more)) (only_done x (object_of version b (words_of c)) end more value))))
