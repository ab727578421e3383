-- What holds of an image in which no fault was found: all of its checks passed, as statements about the value alone.
use Rattle.std.specs.Prelude.{◌≡◌, ◌≤◌, true, false, List, [], ◌∷◌, ◌++◌, length}
use Rattle.bk_level.specs.Levels.{most_levels}
use Rattle.bk_object.specs.Rows.{most_subjects}
use Rattle.bk_process.specs.NewProcess.{entries_of_process, general_registers}
use Rattle.bk_state.specs.declared.image.Image.{Image}
use Rattle.bk_state.specs.declared.image.ObjectRec.{ObjectRec}
use Rattle.bk_state.specs.declared.image.SubjectRec.{SubjectRec}
use Rattle.bk_image.specs.declared.fault.ImageField.TheVariants as field
use Rattle.bk_state.specs.Limits.{most_turns, most_lines, most_places, most_objects, most_holds}
use Rattle.bk_image.specs.Parts.{Check, Passes}
use Rattle.bk_image.specs.Subjects.{level_checks, schedule_checks, subject_checks, window_checks}
use Rattle.bk_image.specs.Objects.{Told, objects_in, object_checks, words_checks, is_over, lacks_lines}
use Rattle.bk_image.specs.Holds.{hold_checks}

-- each part passed its checks after those before it
abbrev pub EachPasses : {X : Type 0} → (List X → X → List Check) → List X → Type 0
EachPasses {X} checks parts = (front : List X) (x : X) (tail : List X) → front ++ x ∷ tail ≡ parts → Passes (checks front x)

-- what the bytes of an object tell that was accepted
abbrev pub told_of : ObjectRec → Told
told_of o = record { path = true; kind = true; zero = true; count = length o.words }

-- the counts are in their ranges
pub record IsCounted (image : Image) : Type 0 where
  pub some_turns : 1 ≤ image.turns
  pub turns : image.turns ≤ most_turns
  pub some_levels : 1 ≤ length image.levels
  pub levels : length image.levels ≤ most_levels
  pub some_subjects : 1 ≤ length image.subjects
  pub subjects : length image.subjects ≤ most_subjects
  pub lines : image.lines ≤ most_lines
  pub some_places : 1 ≤ length image.schedule
  pub places : length image.schedule ≤ most_places
  pub some_objects : 1 ≤ length image.objects
  pub objects : length image.objects ≤ most_objects
  pub holds : length image.holds ≤ most_holds

-- each row has a set for every subject that there can be, and each subject all its registers and fault entries
pub record HasPlaces (image : Image) : Type 0 where
  pub rows : (front : List ObjectRec) (o : ObjectRec) (tail : List ObjectRec) → front ++ o ∷ tail ≡ image.objects → length o.facts.row ≡ most_subjects
  pub subjects : (front : List SubjectRec) (subject : SubjectRec) (tail : List SubjectRec) → front ++ subject ∷ tail ≡ image.subjects →
      (length subject.regs ≡ general_registers) × (length subject.entries ≡ entries_of_process)

-- what holds of the value of an image that was read
pub record IsAccepted (image : Image) : Type 0 where
  pub counts : IsCounted image
  pub places : HasPlaces image
  -- each level, each place of the schedule, each subject and each of its windows
  pub levels : EachPasses (λ before level. level_checks before true level) image.levels
  pub schedule : EachPasses (λ before subject. schedule_checks (length image.subjects) subject) image.schedule
  pub subjects : EachPasses (λ before subject. subject_checks image.levels true (length subject.windows) subject) image.subjects
  pub windows : (front : List SubjectRec) (subject : SubjectRec) (tail : List SubjectRec) → front ++ subject ∷ tail ≡ image.subjects →
      EachPasses (λ before window. window_checks before true window) subject.windows
  -- each object and its words
  pub objects : EachPasses (λ before o. object_checks image.levels (length image.subjects) image.lines before (told_of o) o) image.objects
  pub words : EachPasses (λ before o. words_checks o.words) image.objects
  -- no cell is used over its limit, and there are as many line objects as lines
  pub quotas : EachPasses (λ before o. (field.Quota, is_over (objects_in image.objects) o) ∷ []) image.objects
  pub lines : lacks_lines image.lines image.objects ≡ false
  -- each hold
  pub holds : EachPasses (λ before hold. hold_checks image.levels image.subjects (objects_in image.objects) before true hold) image.holds
