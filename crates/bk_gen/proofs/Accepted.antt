-- The generated image is read from its spelling; so it is accepted, and its state is secure.
use Rattle.std.proofs.Common.{◌≡◌, ℕ, Bool, true, cond, List, [], ◌++◌, length, Result, Ok, refl, sym, ap, ◌∙◌}
use Rattle.bk_base.specs.Parts.{from}
use Rattle.bk_level.specs.Levels.{Level}
use Rattle.bk_state.specs.Secure.{Secure}
use Rattle.bk_state.specs.Start.{state_of}
use Rattle.bk_state.specs.declared.image.Hold.{Hold}
use Rattle.bk_state.specs.declared.image.Image.{Image}
use Rattle.bk_state.specs.declared.image.ObjectRec.{ObjectRec}
use Rattle.bk_state.specs.declared.image.SubjectRec.{SubjectRec}
use Rattle.bk_image.specs.declared.fault.ImageFault.{ImageFault}
use Rattle.bk_image.specs.declared.fault.ImageField.TheVariants as field
use Rattle.bk_image.specs.Parts.{Reads, ◌>>=◌, fault}
use Rattle.bk_image.specs.Header.{Header}
use Rattle.bk_image.specs.Accepted.{IsAccepted}
use Rattle.bk_image.specs.Image.{image_at, image_of, IsImage}
use Rattle.bk_image.specs.Spelling.{path_bytes, kind_bytes, row_bytes, object_bytes, header_bytes, spelling}
use Rattle.bk_image.specs.Writing.{counts_fit, written_image}
use Rattle.bk_image.proofs.Steps as step
use Rattle.bk_image.proofs.Passed.{image_accepted, image_secure}
use Rattle.bk_gen.specs.Subjects.{numbers_below, subjects_made, generated_levels, generated_subjects, holds_of, generated_holds}
use Rattle.bk_gen.specs.Objects.{granting, group, generated_objects}
use Rattle.bk_gen.specs.Image.{generated_image}
use Rattle.bk_gen.proofs.ReadParts.{counts, from_levels, from_schedule, from_subjects, from_objects, from_holds}
use Rattle.bk_gen.proofs.ReadParts.{spelling_is, header_is, levels_are, said_is, schedule_is, subjects_are, objects_are, holds_are}
use Rattle.bk_gen.proofs.Quota.{objects_pass}

-- one part after another
image_read : image_at (from 0 (header_bytes counts ++ from_levels)) ≡ Ok (generated_image, from 8888 [])
unfolding image_at generated_image
image_read =
    let schedule = numbers_below subjects_made in
    ap (λ (r : Reads Header). r >>= step.image_from_header) header_is
    ∙ ap (λ (r : Reads (List Level)). r >>= step.image_from_levels counts) levels_are
    ∙ ap (λ (r : Result (Unit {0}) ImageFault). r >>= λ said. step.image_from_said counts generated_levels (from 32 from_schedule)) said_is
    ∙ ap (λ (r : Reads (List ℕ)). r >>= step.image_from_schedule counts generated_levels) schedule_is
    ∙ ap (λ (r : Reads (List SubjectRec)). r >>= step.image_from_subjects counts generated_levels schedule) subjects_are
    ∙ ap (λ (r : Reads (List ObjectRec)). r >>= step.image_from_objects counts generated_levels schedule generated_subjects 392) objects_are
    ∙ ap (λ (r : Result (Unit {0}) ImageFault). r >>= λ passed. step.image_from_checks counts generated_levels schedule generated_subjects generated_objects (from 8744 from_holds)) (objects_pass 392)
    ∙ ap (λ (r : Reads (List Hold)). r >>= step.image_from_holds counts generated_levels schedule generated_subjects generated_objects) holds_are

length_is : length (header_bytes counts ++ from_levels) ≡ 8888
unfolding from_levels from_schedule from_subjects from_objects from_holds generated_levels generated_subjects generated_holds holds_of generated_objects group granting object_bytes path_bytes kind_bytes row_bytes
length_is = refl

read_whole : image_of (header_bytes counts ++ from_levels) ≡ Ok (generated_image, 8888)
unfolding image_of
read_whole = ap (λ (r : Reads Image). r >>= λ x. Ok (x.0, x.1.at)) image_read

-- the spelling is read as the image, to its end
pub is_image : IsImage (spelling generated_image) generated_image
is_image = ap image_of spelling_is ∙ read_whole ∙ ap (λ (n : ℕ). Ok (generated_image, n)) (sym length_is ∙ ap length (sym spelling_is))

pub is_accepted : IsAccepted generated_image
is_accepted = image_accepted (spelling generated_image) generated_image (length (spelling generated_image)) is_image

pub is_secure : Secure (state_of generated_image)
is_secure = image_secure (spelling generated_image) generated_image (length (spelling generated_image)) is_image

fits : counts_fit generated_image ≡ true
unfolding generated_image generated_levels generated_subjects generated_holds holds_of generated_objects group granting
fits = refl

-- what is written is the spelling
pub is_written : written_image generated_image ≡ Ok (spelling generated_image)
unfolding written_image
is_written =
    ap (λ (b : Bool). cond b (image_of (spelling generated_image) >>= λ i. Ok (spelling generated_image)) (fault 0 field.Counts)) fits
    ∙ ap (λ (r : Result (Image × ℕ) ImageFault). r >>= λ i. Ok (spelling generated_image)) is_image
