-- The image, as its parts follow one another.
use Rattle.std.specs.Prelude.{◌≡◌, ℕ, List, [], length, Result, Ok}
use Rattle.bk_state.specs.declared.image.Image.{Image}
use Rattle.bk_image.specs.declared.fault.ImageFault.{ImageFault}
use Rattle.bk_base.specs.Parts.{first_of}
use Rattle.bk_image.specs.Parts.{Rest, Reads, ◌>>=◌, each_of}
use Rattle.bk_image.specs.Header.{header_at}
use Rattle.bk_image.specs.Subjects.{level_at, after_levels, schedule_at, subject_at}
use Rattle.bk_image.specs.Objects.{objects_in, object_at, after_objects}
use Rattle.bk_image.specs.Holds.{hold_at}

-- what follows what, and the checks between them
unfoldable pub image_at : Rest → Reads Image
image_at rest = do
  header ← header_at rest
  levels ← each_of (level_at header.0.version) header.0.levels [] header.1
  said ← after_levels header.0.version header.0.subjects levels.0
  schedule ← each_of (schedule_at header.0.subjects) header.0.schedule [] levels.1
  subjects ← each_of (subject_at levels.0) header.0.subjects [] schedule.1
  objects ← each_of (object_at header.0.version levels.0 header.0.subjects header.0.lines) header.0.objects [] subjects.1
  passed ← after_objects header.0.version header.0.lines objects.0 subjects.1.at
  holds ← each_of (hold_at levels.0 subjects.0 (objects_in objects.0)) header.0.holds [] objects.1
  Ok (
    record {
      turns = header.0.turns;
      levels = levels.0;
      lines = header.0.lines;
      schedule = schedule.0;
      subjects = subjects.0;
      objects = objects.0;
      holds = holds.0;
    },
    holds.1,
  )

-- the image that the first bytes spell, and their number; or the first fault
unfoldable pub image_of : List ℕ → Result (Image × ℕ) ImageFault
image_of bytes = first_of image_at bytes

-- the bytes are the image's, all of them
abbrev pub IsImage : List ℕ → Image → Type 0
IsImage bytes image = image_of bytes ≡ Ok (image, length bytes)
