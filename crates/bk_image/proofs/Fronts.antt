-- An image is read from the front of the bytes: what was read is read again from that front, whatever follows it, and what
-- follows as many bytes as an image has at most decides nothing.
use Rattle.std.proofs.Common.{◌≡◌, ℕ, ◌*◌, ◌≤◌, List, [], ◌∷◌, ◌++◌, length, take, Ok, subst, ◌==◌}
use Rattle.std.specs.Prelude.{not, is_none}
use Rattle.bk_level.specs.Levels.{Level}
use Rattle.bk_state.specs.declared.image.Image.{Image}
use Rattle.bk_state.specs.declared.image.Hold.{Hold}
use Rattle.bk_state.specs.declared.image.ObjectRec.{ObjectRec}
use Rattle.bk_state.specs.declared.image.SubjectRec.{SubjectRec}
use Rattle.bk_state.specs.declared.image.WindowRec.{WindowRec}
use Rattle.bk_level.specs.Levels.{most_levels}
use Rattle.bk_image.specs.Limits.{most_bytes}
use Rattle.bk_state.specs.Limits.{most_turns, most_lines, most_places, most_objects, most_holds}
use Rattle.bk_image.specs.declared.fault.ImageField.{ImageField}
use Rattle.bk_image.specs.declared.fault.ImageField.TheVariants as field
use Rattle.bk_image.specs.declared.version.Version.{Version}
use Rattle.bk_image.specs.Versions.{version_of, subjects_of, level_size, record_size}
use Rattle.bk_image.specs.Parts.{Rest, from, Reads, image_format, ◌>>=◌, first_failing, part, checked, each_of, is_outside}
use Rattle.bk_image.specs.Numbers.{byte, word, words_of, path_in}
use Rattle.bk_image.specs.Header.{is_magic, magic_at, byte_at, word_at, header_at}
use Rattle.bk_image.specs.Subjects.{level_of, level_checks, level_at, after_levels, schedule_checks, schedule_at, window_of, window_checks, window_at, subject_of}
use Rattle.bk_image.specs.Subjects.{subject_fails, subject_at}
use Rattle.bk_image.specs.Objects.{Objects, objects_in, object_of, count_in, object_fails, words_checks, object_at, after_objects}
use Rattle.bk_image.specs.Holds.{hold_of, hold_checks, hold_at}
use Rattle.bk_image.specs.Image.{image_at, image_of, IsImage}
use Rattle.bk_base.proofs.Fronts.{Framed, Answers, OfFronts, fronts_then, fronts_checked, fronts_done, fronts_each, fronts_part, fronts_of_checked, first_again}
use Rattle.bk_base.proofs.Fronts.{first_apart, first_cut, first_short}
use Rattle.bk_image.proofs.Steps as step

-- ---- the kinds of part

magic_fronts : OfFronts most_bytes magic_at
unfolding magic_at
magic_fronts = fronts_of_checked image_format 4 (λ b. (field.Magic, not (is_magic b)) ∷ []) (λ b. tt)

byte_fronts : (f : ImageField) (low high : ℕ) → OfFronts most_bytes (byte_at f low high)
unfolding byte_at
byte_fronts f low high = fronts_of_checked image_format 1 (λ b. (f, is_outside low high (byte b 0)) ∷ []) (λ b. byte b 0)

word_fronts : (f : ImageField) (low high : ℕ) → OfFronts most_bytes (word_at f low high)
unfolding word_at
word_fronts f low high = fronts_of_checked image_format 2 (λ b. (f, is_outside low high (word b 0)) ∷ []) (λ b. word b 0)

level_fronts : (version : Version) (before : List Level) → OfFronts most_bytes (level_at version before)
unfolding level_at
level_fronts version before = fronts_of_checked image_format (level_size version) (λ b. level_checks before (byte b 1 == 0) (level_of b)) level_of

schedule_fronts : (subjects : ℕ) (before : List ℕ) → OfFronts most_bytes (schedule_at subjects before)
unfolding schedule_at
schedule_fronts subjects before = fronts_of_checked image_format 1 (λ b. schedule_checks subjects (byte b 0)) (λ b. byte b 0)

window_fronts : (before : List WindowRec) → OfFronts most_bytes (window_at before)
unfolding window_at
window_fronts before = fronts_of_checked image_format 5 (λ b. window_checks before (not (is_none (path_in b 1))) (window_of b)) window_of

hold_fronts : (levels : List Level) (subjects : List SubjectRec) (objects : Objects) (before : List Hold) → OfFronts most_bytes (hold_at levels subjects objects before)
unfolding hold_at
hold_fronts levels subjects objects before = fronts_of_checked image_format 6 (λ b. hold_checks levels subjects objects before (not (is_none (path_in b 2))) (hold_of b)) hold_of

subject_fronts : (levels : List Level) (before : List SubjectRec) → OfFronts most_bytes (subject_at levels before)
unfolding subject_at
subject_fronts levels before at =
    fronts_then most_bytes at (λ bytes. checked 39 (subject_fails levels) (λ b. b) (from at bytes)) (λ b. each_of window_at (byte b.0 38) [] b.1 >>= λ windows. Ok (subject_of b.0 windows.0, windows.1)) (fronts_of_checked image_format 39 (subject_fails levels) (λ b. b) at) (λ b next.
    fronts_then most_bytes next (λ bytes. each_of window_at (byte b 38) [] (from next bytes)) (λ windows. Ok (subject_of b windows.0, windows.1)) (fronts_each most_bytes window_at window_fronts (byte b 38) [] next) (λ windows end.
    fronts_done most_bytes end (subject_of b windows)))

object_fronts : (version : Version) (levels : List Level) (subjects lines : ℕ) (before : List ObjectRec) → OfFronts most_bytes (object_at version levels subjects lines before)
unfolding object_at
object_fronts version levels subjects lines before at =
    let words : List ℕ → List ℕ × Rest → Reads ObjectRec = λ b w. first_failing at (words_checks (words_of w.0)) >>= λ passed. Ok (object_of version b (words_of w.0), w.1) in
    fronts_then most_bytes at (λ bytes. checked (record_size version) (object_fails version levels subjects lines before) (λ b. b) (from at bytes)) (λ b. part (2 * count_in version b.0) b.1 >>= words b.0) (fronts_of_checked image_format (record_size version) (object_fails version levels subjects lines before) (λ b. b) at) (λ b next.
    fronts_then most_bytes next (λ bytes. part (2 * count_in version b) (from next bytes)) (words b) (fronts_part image_format (2 * count_in version b) next) (λ w end.
    fronts_checked most_bytes end (first_failing at (words_checks (words_of w))) (λ bytes. Ok (object_of version b (words_of w), from end bytes)) (fronts_done most_bytes end (object_of version b (words_of w)))))

header_fronts : OfFronts most_bytes header_at
unfolding header_at
header_fronts at =
    fronts_then most_bytes at (λ bytes. magic_at (from at bytes)) step.from_magic (magic_fronts at) (λ m at.
    fronts_then most_bytes at (λ bytes. word_at field.Version 1 2 (from at bytes)) step.from_version (word_fronts field.Version 1 2 at) (λ v at.
    fronts_then most_bytes at (λ bytes. word_at field.Turns 1 most_turns (from at bytes)) (step.from_turns (version_of v)) (word_fronts field.Turns 1 most_turns at) (λ t at.
    fronts_then most_bytes at (λ bytes. byte_at field.Counts 1 most_levels (from at bytes)) (step.from_levels (version_of v) t) (byte_fronts field.Counts 1 most_levels at) (λ l at.
    fronts_then most_bytes at (λ bytes. byte_at field.Counts 1 (subjects_of (version_of v)) (from at bytes)) (step.from_subjects (version_of v) t l) (byte_fronts field.Counts 1 (subjects_of (version_of v)) at) (λ s at.
    fronts_then most_bytes at (λ bytes. byte_at field.Counts 0 most_lines (from at bytes)) (step.from_lines (version_of v) t l s) (byte_fronts field.Counts 0 most_lines at) (λ n at.
    fronts_then most_bytes at (λ bytes. byte_at field.Counts 1 most_places (from at bytes)) (step.from_schedule (version_of v) t l s n) (byte_fronts field.Counts 1 most_places at) (λ c at.
    fronts_then most_bytes at (λ bytes. word_at field.Counts 1 most_objects (from at bytes)) (step.from_objects (version_of v) t l s n c) (word_fronts field.Counts 1 most_objects at) (λ o at.
    fronts_then most_bytes at (λ bytes. word_at field.Counts 0 most_holds (from at bytes)) (step.from_holds (version_of v) t l s n c o) (word_fronts field.Counts 0 most_holds at) (λ h at.
    fronts_done most_bytes at (step.counted (version_of v) t l s n c o h))))))))))

-- ---- the image

pub image_at_fronts : OfFronts most_bytes image_at
unfolding image_at
image_at_fronts at =
    fronts_then most_bytes at (λ bytes. header_at (from at bytes)) step.image_from_header (header_fronts at) (λ h at.
    fronts_then most_bytes at (λ bytes. each_of (level_at h.version) h.levels [] (from at bytes)) (step.image_from_levels h) (fronts_each most_bytes (level_at h.version) (level_fronts h.version) h.levels [] at) (λ l at.
    fronts_checked most_bytes at (after_levels h.version h.subjects l) (λ bytes. step.image_from_said h l (from at bytes))
    (fronts_then most_bytes at (λ bytes. each_of (schedule_at h.subjects) h.schedule [] (from at bytes)) (step.image_from_schedule h l) (fronts_each most_bytes (schedule_at h.subjects) (schedule_fronts h.subjects) h.schedule [] at) (λ c at.
    fronts_then most_bytes at (λ bytes. each_of (subject_at l) h.subjects [] (from at bytes)) (step.image_from_subjects h l c) (fronts_each most_bytes (subject_at l) (subject_fronts l) h.subjects [] at) (λ s start.
    fronts_then most_bytes start (λ bytes. each_of (object_at h.version l h.subjects h.lines) h.objects [] (from start bytes)) (step.image_from_objects h l c s start) (fronts_each most_bytes (object_at h.version l h.subjects h.lines) (object_fronts h.version l h.subjects h.lines) h.objects [] start) (λ o at.
    fronts_checked most_bytes at (after_objects h.version h.lines o start) (λ bytes. step.image_from_checks h l c s o (from at bytes))
    (fronts_then most_bytes at (λ bytes. each_of (hold_at l s (objects_in o)) h.holds [] (from at bytes)) (step.image_from_holds h l c s o) (fronts_each most_bytes (hold_at l s (objects_in o)) (hold_fronts l s (objects_in o)) h.holds [] at) (λ d at.
    fronts_done most_bytes at (step.made h.turns h.lines l c s o d)))))))))

-- an image that was read took a front of the bytes
pub image_framed : (bytes : List ℕ) (x : Image × Rest) → image_at (from 0 bytes) ≡ Ok x → Framed most_bytes 0 (λ b. image_at (from 0 b)) bytes x
image_framed bytes x e = subst (λ r. Answers most_bytes 0 (λ b. image_at (from 0 b)) bytes r) e (image_at_fronts 0 bytes)

-- an image is read again from the bytes that it took, whatever follows them
pub image_grows : (bytes : List ℕ) (image : Image) (n : ℕ) → image_of bytes ≡ Ok (image, n) → (more : List ℕ) → image_of (take n bytes ++ more) ≡ Ok (image, n)
unfolding image_of
image_grows bytes image n e more = first_again most_bytes image_at image_at_fronts bytes image n e more

-- no image's bytes are a proper prefix of another's
pub no_prefix : (a b more : List ℕ) (v w : Image) → IsImage a v → IsImage b w → b ≡ a ++ more → (b ≡ a) × (v ≡ w)
unfolding image_of
no_prefix a b more v w first second e = first_apart most_bytes image_at image_at_fronts a b more v w first second e

-- what follows as many bytes as an image has at most decides nothing
pub image_cut : (bytes more : List ℕ) → most_bytes ≤ length bytes → image_of (bytes ++ more) ≡ image_of bytes
unfolding image_of
image_cut bytes more h = first_cut most_bytes image_at image_at_fronts bytes more h

-- an image has at most so many bytes
pub image_short : (bytes : List ℕ) (image : Image) (n : ℕ) → image_of bytes ≡ Ok (image, n) → n ≤ most_bytes
unfolding image_of
image_short bytes image n e = first_short most_bytes image_at image_at_fronts bytes image n e
