-- The header. Each of its fields is a part.
use Rattle.std.specs.Prelude.{ℕ, Bool, not, ◌&&◌, ◌==◌, List, [], ◌∷◌, Ok}
use Rattle.bk_level.specs.Levels.{most_levels}
use Rattle.bk_image.specs.declared.fault.ImageField.{ImageField}
use Rattle.bk_image.specs.declared.fault.ImageField.TheVariants as field
use Rattle.bk_state.specs.Limits.{most_turns, most_lines, most_places, most_objects, most_holds}
use Rattle.bk_image.specs.Parts.{Rest, Reads, ◌>>=◌, checked, is_outside}
use Rattle.bk_image.specs.Numbers.{byte, word}
use Rattle.bk_image.specs.Versions.{version_of, subjects_of}
use Rattle.bk_image.specs.declared.version.Version.{Version}

-- the version, the turns of a slot, and how many parts of each kind there are
pub record Header : Type 0 where
  pub version : Version
  pub turns : ℕ
  pub levels : ℕ
  pub subjects : ℕ
  pub lines : ℕ
  pub schedule : ℕ
  pub objects : ℕ
  pub holds : ℕ

-- BLPK
abbrev pub is_magic : List ℕ → Bool
is_magic b = byte b 0 == 66 && byte b 1 == 76 && byte b 2 == 80 && byte b 3 == 75

-- the first four bytes
unfoldable pub magic_at : Rest → Reads (Unit {0})
magic_at = checked 4 (λ b. (field.Magic, not (is_magic b)) ∷ []) (λ b. tt)

-- a number of one byte, or of two, from low to high
unfoldable pub byte_at : ImageField → ℕ → ℕ → Rest → Reads ℕ
byte_at f low high = checked 1 (λ b. (f, is_outside low high (byte b 0)) ∷ []) (λ b. byte b 0)

-- the same of two bytes
unfoldable pub word_at : ImageField → ℕ → ℕ → Rest → Reads ℕ
word_at f low high = checked 2 (λ b. (f, is_outside low high (word b 0)) ∷ []) (λ b. word b 0)

-- all 16 bytes of the header
unfoldable pub header_at : Rest → Reads Header
header_at rest = do
  magic ← magic_at rest
  version ← word_at field.Version 1 2 magic.1
  turns ← word_at field.Turns 1 most_turns version.1
  levels ← byte_at field.Counts 1 most_levels turns.1
  subjects ← byte_at field.Counts 1 (subjects_of (version_of version.0)) levels.1
  lines ← byte_at field.Counts 0 most_lines subjects.1
  schedule ← byte_at field.Counts 1 most_places lines.1
  objects ← word_at field.Counts 1 most_objects schedule.1
  holds ← word_at field.Counts 0 most_holds objects.1
  Ok (
    record {
      version = version_of version.0;
      turns = turns.0;
      levels = levels.0;
      subjects = subjects.0;
      lines = lines.0;
      schedule = schedule.0;
      objects = objects.0;
      holds = holds.0;
    },
    holds.1,
  )
