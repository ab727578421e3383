-- The parts of the generated image, each read from the bytes of it and of what follows: all of it is computed.
use Rattle.std.proofs.Common.{◌≡◌, ℕ, List, [], ◌++◌, Ok, refl, ap, ◌∙◌}
use Rattle.std.specs.Prelude.{flat_map}
use Rattle.bk_base.specs.Parts.{from, part as part_of, each_of}
use Rattle.bk_level.specs.Masks.{categories_of}
use Rattle.bk_state.specs.declared.image.Hold.{Hold}
use Rattle.bk_state.specs.declared.image.ObjectRec.{ObjectRec}
use Rattle.bk_image.specs.declared.version.Version.TheVariants.{One}
use Rattle.bk_image.specs.Parts.{Rest, Reads}
use Rattle.bk_image.specs.Header.{Header, magic_at, byte_at, word_at, header_at}
use Rattle.bk_image.specs.Subjects.{level_at, after_levels, schedule_at, window_at, subject_at}
use Rattle.bk_image.specs.Objects.{objects_in, object_at}
use Rattle.bk_image.specs.Holds.{hold_at}
use Rattle.bk_image.specs.Spelling.{path_bytes, kind_bytes, row_bytes, header_bytes, level_bytes, subject_bytes, object_bytes, hold_bytes, spelling}
use Rattle.bk_gen.specs.Subjects.{numbers_below, subjects_made, generated_levels, generated_subjects, holds_of, generated_holds}
use Rattle.bk_gen.specs.Objects.{granting, group, generated_objects}
use Rattle.bk_gen.specs.Image.{generated_image}
use Rattle.bk_gen.proofs.Found.{object_by, object_at_is, hold_by, hold_at_is}

-- ---- the bytes from each kind of part on

unfoldable pub from_holds : List ℕ
from_holds = flat_map hold_bytes generated_holds

unfoldable pub from_objects : List ℕ
from_objects = flat_map (object_bytes One) generated_objects ++ from_holds

unfoldable pub from_subjects : List ℕ
from_subjects = flat_map subject_bytes generated_subjects ++ from_objects

unfoldable pub from_schedule : List ℕ
from_schedule = numbers_below subjects_made ++ from_subjects

unfoldable pub from_levels : List ℕ
from_levels = flat_map (level_bytes One) generated_levels ++ from_schedule

-- how many there are of each kind of part
abbrev pub counts : Header
counts = record { version = One; turns = 64; levels = 4; subjects = 8; lines = 4; schedule = 8; objects = 279; holds = 24 }

-- ---- what is read

pub spelling_is : spelling generated_image ≡ header_bytes counts ++ from_levels
unfolding spelling generated_image from_levels from_schedule from_subjects from_objects from_holds generated_levels generated_subjects generated_holds holds_of generated_objects group granting object_bytes path_bytes kind_bytes row_bytes
spelling_is = refl

pub header_is : header_at (from 0 (header_bytes counts ++ from_levels)) ≡ Ok (counts, from 16 from_levels)
unfolding header_at magic_at byte_at word_at part_of from_levels from_schedule from_subjects from_objects from_holds generated_levels generated_subjects generated_holds holds_of generated_objects group granting object_bytes path_bytes kind_bytes row_bytes
header_is = refl

pub levels_are : each_of (level_at One) 4 [] (from 16 from_levels) ≡ Ok (generated_levels, from 32 from_schedule)
unfolding each_of level_at categories_of part_of from_levels from_schedule from_subjects from_objects from_holds generated_levels generated_subjects generated_holds holds_of generated_objects group granting object_bytes path_bytes kind_bytes row_bytes
levels_are = refl

pub said_is : after_levels One 8 generated_levels ≡ Ok tt
unfolding after_levels
said_is = refl

pub schedule_is : each_of (schedule_at 8) 8 [] (from 32 from_schedule) ≡ Ok (numbers_below subjects_made, from 40 from_subjects)
unfolding each_of schedule_at part_of from_schedule from_subjects from_objects from_holds generated_subjects generated_holds holds_of generated_objects group granting object_bytes path_bytes kind_bytes row_bytes
schedule_is = refl

pub subjects_are : each_of (subject_at generated_levels) 8 [] (from 40 from_subjects) ≡ Ok (generated_subjects, from 392 from_objects)
unfolding each_of subject_at window_at part_of from_subjects from_objects from_holds generated_levels generated_subjects generated_holds holds_of generated_objects group granting object_bytes path_bytes kind_bytes row_bytes
subjects_are = refl

objects_by : each_of (object_by One generated_levels 8 4) 279 [] (from 392 from_objects) ≡ Ok (generated_objects, from 8744 from_holds)
unfolding each_of part_of from_objects from_holds generated_levels generated_holds holds_of generated_objects group granting object_bytes path_bytes kind_bytes row_bytes
objects_by = refl

pub objects_are : each_of (object_at One generated_levels 8 4) 279 [] (from 392 from_objects) ≡ Ok (generated_objects, from 8744 from_holds)
objects_are = ap (λ (next : List ObjectRec → Rest → Reads ObjectRec). each_of next 279 [] (from 392 from_objects)) (object_at_is One generated_levels 8 4) ∙ objects_by

holds_by : each_of (hold_by generated_levels generated_subjects generated_objects) 24 [] (from 8744 from_holds) ≡ Ok (generated_holds, from 8888 [])
unfolding each_of part_of from_holds generated_levels generated_subjects generated_holds holds_of generated_objects group granting path_bytes
holds_by = refl

pub holds_are : each_of (hold_at generated_levels generated_subjects (objects_in generated_objects)) 24 [] (from 8744 from_holds) ≡ Ok (generated_holds, from 8888 [])
holds_are = ap (λ (next : List Hold → Rest → Reads Hold). each_of next 24 [] (from 8744 from_holds)) (hold_at_is generated_levels generated_subjects generated_objects) ∙ holds_by
