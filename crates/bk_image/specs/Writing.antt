-- Writing: what doesn't fit its field is refused at 0; then the bytes have to be an image.
use Rattle.std.specs.Prelude.{◌≡◌, ℕ, ◌<◌, ◌^◌, Bool, true, ◌&&◌, ◌==◌, nat_lt, if◌then◌else◌, List, All, length, Result, Ok}
use Rattle.std.specs.List.{list_all}
use Rattle.bk_level.specs.Levels.{Level}
use Rattle.bk_level.specs.Masks.{mask_of, categories_of}
use Rattle.bk_path.specs.Paths.{IsPath}
use Rattle.bk_object.specs.Rows.{most_subjects}
use Rattle.bk_object.specs.declared.modes.Modes.{Modes}
use Rattle.bk_process.specs.NewProcess.{entries_of_process, general_registers}
use Rattle.bk_object.specs.declared.kind.Kind.{Kind}
use Rattle.bk_object.specs.declared.kind.Kind.TheVariants.{Directory, Segment, Mailbox, Line}
use Rattle.bk_state.specs.declared.image.Image.{Image}
use Rattle.bk_state.specs.declared.image.ObjectRec.{ObjectRec}
use Rattle.bk_state.specs.declared.image.SubjectRec.{SubjectRec}
use Rattle.bk_state.specs.declared.image.WindowRec.{WindowRec}
use Rattle.bk_state.specs.declared.image.Hold.{Hold}
use Rattle.bk_image.specs.declared.fault.ImageFault.{ImageFault}
use Rattle.bk_image.specs.declared.fault.ImageField.TheVariants as field
use Rattle.bk_image.specs.declared.version.Version.{Version}
use Rattle.bk_image.specs.Parts.{◌>>=◌, fault}
use Rattle.bk_image.specs.Spelling.{spelling}
use Rattle.bk_image.specs.Image.{image_of}
use Rattle.bk_image.specs.Objects.{fits_subjects}
use Rattle.bk_image.specs.Versions.{subjects_of, version_for}

-- the number of windows fits into a byte
abbrev pub windows_fit : SubjectRec → Bool
windows_fit s = nat_lt (length s.windows) 256

-- a line has no blocks, since its number stands in their place
abbrev pub blocks_fit : Kind → (blocks : ℕ) → Bool
blocks_fit Directory blocks = true
blocks_fit Segment blocks = true
blocks_fit Mailbox blocks = true
blocks_fit (Line n) blocks = blocks == 0

-- the number of words fits into two bytes, and the row into the version's bytes: none of the subjects after those has modes
abbrev pub object_fits : Version → ObjectRec → Bool
object_fits version o = nat_lt (length o.words) 65536 && blocks_fit o.facts.kind o.facts.blocks && fits_subjects (subjects_of version) o.facts.row

-- each count holds the number of what it counts, and each field its value
abbrev pub counts_fit : Image → Bool
counts_fit image =
    nat_lt (length image.levels) 256
    && nat_lt (length image.subjects) 256
    && nat_lt (length image.schedule) 256
    && nat_lt (length image.objects) 65536
    && nat_lt (length image.holds) 65536
    && list_all windows_fit image.subjects
    && list_all (object_fits (version_for image)) image.objects

-- the bytes of an image, or the first fault
unfoldable pub written_image : Image → Result (List ℕ) ImageFault
written_image image = if counts_fit image then (image_of (spelling image) >>= λ i. Ok (spelling image)) else fault 0 field.Counts

-- ---- what the parts of every image have, since their types have it

-- the categories are those of a mask of 48 bits
pub record LevelFits (level : Level) : Type 0 where
  pub small : mask_of level.categories < 2 ^ 48
  pub back : categories_of (mask_of level.categories) ≡ level.categories

-- a window shows a path
abbrev pub WindowFits : WindowRec → Type 0
WindowFits window = IsPath window.path

-- six registers and eight fault entries
pub record SubjectFits (s : SubjectRec) : Type 0 where
  pub regs : length s.regs ≡ general_registers
  pub entries : length s.entries ≡ entries_of_process
  pub windows : All WindowFits s.windows

-- a set of the four modes for each subject
pub record RowFits (row : List Modes) : Type 0 where
  pub whole : length row ≡ most_subjects
  pub sets : All (λ modes. modes.0 < 16) row

-- an object has a path and a whole row
pub record ObjectFits (o : ObjectRec) : Type 0 where
  pub path : IsPath o.path
  pub row : RowFits o.facts.row

-- a hold is of a path
abbrev pub HoldFits : Hold → Type 0
HoldFits hold = IsPath hold.path

-- all parts of the image have it
pub record Fits (image : Image) : Type 0 where
  pub levels : All LevelFits image.levels
  pub subjects : All SubjectFits image.subjects
  pub objects : All ObjectFits image.objects
  pub holds : All HoldFits image.holds
