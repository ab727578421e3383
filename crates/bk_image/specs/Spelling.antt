-- The one spelling of each part.
use Rattle.std.specs.Prelude.{◌≡◌, ℕ, ◌/◌, ◌%◌, take, List, [], ◌∷◌, ◌++◌, length, flat_map}
use Rattle.bk_level.specs.Levels.{Level}
use Rattle.bk_level.specs.Masks.{mask_of, words_of}
use Rattle.bk_path.specs.Paths.{Path, pack}
use Rattle.bk_object.specs.Kinds.{kind_number, blocks_or_line}
use Rattle.bk_object.specs.Pairs.{joined_pairs}
use Rattle.bk_object.specs.declared.facts.Facts.{Facts}
use Rattle.bk_object.specs.declared.modes.Modes.{Modes}
use Rattle.bk_space.specs.declared.Mode.{Mode}
use Rattle.bk_space.specs.declared.Mode.TheVariants.{Supervisor, User}
use Rattle.bk_state.specs.declared.image.Image.{Image}
use Rattle.bk_state.specs.declared.image.Hold.{Hold}
use Rattle.bk_state.specs.declared.image.ObjectRec.{ObjectRec}
use Rattle.bk_state.specs.declared.image.SubjectRec.{SubjectRec}
use Rattle.bk_state.specs.declared.image.WindowRec.{WindowRec}
use Rattle.bk_image.specs.declared.version.Version.{Version}
use Rattle.bk_image.specs.Header.{Header}
use Rattle.bk_image.specs.Versions.{version_number, category_words, subjects_of, version_for}

-- two bytes, the low one first
abbrev pub word_bytes : ℕ → List ℕ
word_bytes n = n % 256 ∷ n / 256 ∷ []

-- the same of each word
abbrev pub words_bytes : List ℕ → List ℕ
words_bytes [] = []
words_bytes (n ∷ ns) = word_bytes n ++ words_bytes ns

-- the two words of a path
unfoldable pub path_bytes : Path → List ℕ
path_bytes path = word_bytes (pack path).0 ++ word_bytes (pack path).1

-- BLPK, the version, turns and the six counts
abbrev pub header_bytes : Header → List ℕ
header_bytes h =
    (66 ∷ 76 ∷ 80 ∷ 75 ∷ []) ++ word_bytes (version_number h.version) ++ word_bytes h.turns
    ++ (h.levels ∷ []) ++ (h.subjects ∷ []) ++ (h.lines ∷ []) ++ (h.schedule ∷ []) ++ word_bytes h.objects ++ word_bytes h.holds

-- class, zero and the first words of the categories, as many as the version has
abbrev pub level_bytes : Version → Level → List ℕ
level_bytes version level = level.class ∷ 0 ∷ words_bytes (take (category_words version) (words_of (mask_of level.categories)))

-- the number of a mode of the processor
abbrev pub mode_number : Mode → ℕ
mode_number Supervisor = 1
mode_number User = 3

-- its number and its path
abbrev pub window_bytes : WindowRec → List ℕ
window_bytes window = window.index ∷ path_bytes window.path

-- the 39 bytes of a subject
abbrev pub subject_record : SubjectRec → List ℕ
subject_record s =
    (s.f_s ∷ s.f_c ∷ mode_number s.mode ∷ mode_number s.previous ∷ []) ++ words_bytes s.regs
    ++ word_bytes s.user_sp ++ word_bytes s.super_sp ++ word_bytes s.pc ++ words_bytes s.entries ++ (length s.windows ∷ [])

-- its record, and then its windows
abbrev pub subject_bytes : SubjectRec → List ℕ
subject_bytes s = subject_record s ++ flat_map window_bytes s.windows

-- kind, blocks or line number, level, and zero
unfoldable pub kind_bytes : Facts → List ℕ
kind_bytes facts = kind_number facts.kind ∷ blocks_or_line facts.kind facts.blocks ∷ facts.level ∷ 0 ∷ []

-- the sets of the version's subjects, two to a byte, the lower number in the low half
unfoldable pub row_bytes : Version → List Modes → List ℕ
row_bytes version row = joined_pairs (take (subjects_of version) row)

-- the bytes of an object
abbrev pub object_record : Version → ObjectRec → List ℕ
object_record version o =
    path_bytes o.path ++ kind_bytes o.facts ++ word_bytes o.facts.quota ++ row_bytes version o.facts.row ++ word_bytes (length o.words)

-- its record, and then its words
unfoldable pub object_bytes : Version → ObjectRec → List ℕ
object_bytes version o = object_record version o ++ words_bytes o.words

-- subject, modes and path
abbrev pub hold_bytes : Hold → List ℕ
hold_bytes hold = hold.subject ∷ hold.modes.0 ∷ path_bytes hold.path

-- the version and the counts of an image
abbrev pub header_of : Image → Header
header_of image = record {
  version = version_for image;
  turns = image.turns;
  levels = length image.levels;
  subjects = length image.subjects;
  lines = image.lines;
  schedule = length image.schedule;
  objects = length image.objects;
  holds = length image.holds;
}

-- the bytes of an image: its parts, one after the other, in the version that is for it
unfoldable pub spelling : Image → List ℕ
spelling image =
    header_bytes (header_of image) ++ flat_map (level_bytes (version_for image)) image.levels ++ image.schedule ++ flat_map subject_bytes image.subjects
    ++ flat_map (object_bytes (version_for image)) image.objects ++ flat_map hold_bytes image.holds

-- the first n bytes are the image's spelling
pub record IsSpelt (bytes : List ℕ) (image : Image) (n : ℕ) : Type 0 where
  pub text : take n bytes ≡ spelling image
  pub count : n ≡ length (spelling image)
