-- What is still read of a header, and of an image, after each of its parts.
use Rattle.std.proofs.Common.{ℕ, List, [], Ok}
use Rattle.bk_level.specs.Levels.{Level}
use Rattle.bk_state.specs.declared.image.Image.{Image}
use Rattle.bk_state.specs.declared.image.Hold.{Hold}
use Rattle.bk_state.specs.declared.image.ObjectRec.{ObjectRec}
use Rattle.bk_state.specs.declared.image.SubjectRec.{SubjectRec}
use Rattle.bk_level.specs.Levels.{most_levels}
use Rattle.bk_state.specs.Limits.{most_turns, most_lines, most_places, most_objects, most_holds}
use Rattle.bk_image.specs.declared.fault.ImageField.TheVariants as field
use Rattle.bk_image.specs.declared.version.Version.{Version}
use Rattle.bk_image.specs.Versions.{version_of, subjects_of}
use Rattle.bk_image.specs.Parts.{Rest, Reads, ◌>>=◌, each_of}
use Rattle.bk_image.specs.Header.{Header, byte_at, word_at}
use Rattle.bk_image.specs.Subjects.{level_at, after_levels, schedule_at, subject_at}
use Rattle.bk_image.specs.Objects.{objects_in, object_at, after_objects}
use Rattle.bk_image.specs.Holds.{hold_at}

-- ---- the header

abbrev pub counted : (version : Version) (turns levels subjects lines schedule objects holds : ℕ) → Header
counted version turns levels subjects lines schedule objects holds = record { version = version; turns = turns; levels = levels; subjects = subjects; lines = lines; schedule = schedule; objects = objects; holds = holds }

abbrev pub from_holds : (version : Version) (turns levels subjects lines schedule objects : ℕ) → ℕ × Rest → Reads Header
from_holds version turns levels subjects lines schedule objects x = Ok (counted version turns levels subjects lines schedule objects x.0, x.1)

abbrev pub from_objects : (version : Version) (turns levels subjects lines schedule : ℕ) → ℕ × Rest → Reads Header
from_objects version turns levels subjects lines schedule x = word_at field.Counts 0 most_holds x.1 >>= from_holds version turns levels subjects lines schedule x.0

abbrev pub from_schedule : (version : Version) (turns levels subjects lines : ℕ) → ℕ × Rest → Reads Header
from_schedule version turns levels subjects lines x = word_at field.Counts 1 most_objects x.1 >>= from_objects version turns levels subjects lines x.0

abbrev pub from_lines : (version : Version) (turns levels subjects : ℕ) → ℕ × Rest → Reads Header
from_lines version turns levels subjects x = byte_at field.Counts 1 most_places x.1 >>= from_schedule version turns levels subjects x.0

abbrev pub from_subjects : (version : Version) (turns levels : ℕ) → ℕ × Rest → Reads Header
from_subjects version turns levels x = byte_at field.Counts 0 most_lines x.1 >>= from_lines version turns levels x.0

abbrev pub from_levels : (version : Version) (turns : ℕ) → ℕ × Rest → Reads Header
from_levels version turns x = byte_at field.Counts 1 (subjects_of version) x.1 >>= from_subjects version turns x.0

abbrev pub from_turns : (version : Version) → ℕ × Rest → Reads Header
from_turns version x = byte_at field.Counts 1 most_levels x.1 >>= from_levels version x.0

abbrev pub from_version : ℕ × Rest → Reads Header
from_version x = word_at field.Turns 1 most_turns x.1 >>= from_turns (version_of x.0)

abbrev pub from_magic : Unit {0} × Rest → Reads Header
from_magic x = word_at field.Version 1 2 x.1 >>= from_version

-- ---- the image

abbrev pub made : (turns lines : ℕ) → List Level → List ℕ → List SubjectRec → List ObjectRec → List Hold → Image
made turns lines levels schedule subjects objects holds = record { turns = turns; levels = levels; lines = lines; schedule = schedule; subjects = subjects; objects = objects; holds = holds }

abbrev pub image_from_holds : Header → List Level → List ℕ → List SubjectRec → List ObjectRec → List Hold × Rest → Reads Image
image_from_holds h levels schedule subjects objects x = Ok (made h.turns h.lines levels schedule subjects objects x.0, x.1)

abbrev pub image_from_checks : Header → List Level → List ℕ → List SubjectRec → List ObjectRec → Rest → Reads Image
image_from_checks h levels schedule subjects objects rest = each_of (hold_at levels subjects (objects_in objects)) h.holds [] rest >>= image_from_holds h levels schedule subjects objects

abbrev pub image_from_objects : Header → List Level → List ℕ → List SubjectRec → (start : ℕ) → List ObjectRec × Rest → Reads Image
image_from_objects h levels schedule subjects start x = after_objects h.version h.lines x.0 start >>= λ passed. image_from_checks h levels schedule subjects x.0 x.1

abbrev pub image_from_subjects : Header → List Level → List ℕ → List SubjectRec × Rest → Reads Image
image_from_subjects h levels schedule x = each_of (object_at h.version levels h.subjects h.lines) h.objects [] x.1 >>= image_from_objects h levels schedule x.0 x.1.at

abbrev pub image_from_schedule : Header → List Level → List ℕ × Rest → Reads Image
image_from_schedule h levels x = each_of (subject_at levels) h.subjects [] x.1 >>= image_from_subjects h levels x.0

abbrev pub image_from_said : Header → List Level → Rest → Reads Image
image_from_said h levels rest = each_of (schedule_at h.subjects) h.schedule [] rest >>= image_from_schedule h levels

abbrev pub image_from_levels : Header → List Level × Rest → Reads Image
image_from_levels h x = after_levels h.version h.subjects x.0 >>= λ said. image_from_said h x.0 x.1

abbrev pub image_from_header : Header × Rest → Reads Image
image_from_header x = each_of (level_at x.0.version) x.0.levels [] x.1 >>= image_from_levels x.0
