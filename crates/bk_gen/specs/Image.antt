-- The image of a generated run.
use Rattle.bk_state.specs.declared.image.Image.{Image}
use Rattle.bk_gen.specs.Subjects.{numbers_below, levels_made, subjects_made, generated_levels, generated_subjects, generated_holds}
use Rattle.bk_gen.specs.Objects.{generated_objects}

-- 64 turns a slot; each of the subjects has every eighth slot
unfoldable pub generated_image : Image
generated_image = record {
  turns = 64;
  levels = generated_levels;
  lines = levels_made;
  schedule = numbers_below subjects_made;
  subjects = generated_subjects;
  objects = generated_objects;
  holds = generated_holds;
}
