-- Objects, their words, and what is checked after all of them.
use Rattle.std.specs.Prelude.{ℕ, ◌+◌, ◌-◌, ◌*◌, Bool, true, false, not, ◌&&◌, ◌||◌, ◌==◌, nat_lt, if◌then◌else◌, List, [], ◌∷◌, ◌++◌, length, take, drop, map, replicate, Option}
use Rattle.std.specs.Prelude.{Some, None, is_none, Result, Ok}
use Rattle.std.specs.List.{list_any, list_all, count_by}
use Rattle.std.specs.Ordering.{is_lt}
use Rattle.std.specs.FinMap as finmap
use Rattle.bk_level.specs.Levels.{Level, dominates, level_at}
use Rattle.bk_path.specs.Paths.{Path, path_cmp, is_root, parent}
use Rattle.bk_object.specs.Kinds.{is_directory, is_any_line, kind_modes}
use Rattle.bk_object.specs.Limits.{most_blocks, largest_quota, words_of_block}
use Rattle.bk_object.specs.Modes.{is_within, no_modes}
use Rattle.bk_object.specs.Pairs.{split_pairs}
use Rattle.bk_object.specs.Rows.{most_subjects}
use Rattle.bk_object.specs.declared.kind.Kind.{Kind}
use Rattle.bk_object.specs.declared.kind.Kind.TheVariants.{Directory, Segment, Mailbox, Line}
use Rattle.bk_object.specs.declared.facts.Facts.{Facts}
use Rattle.bk_object.specs.declared.modes.Modes.{Modes}
use Rattle.bk_quota.specs.Charges.{passes, facts_in, level_in, used_in}
use Rattle.bk_state.specs.State.{Object}
use Rattle.bk_state.specs.Start.{object_from, is_line}
use Rattle.bk_state.specs.declared.image.ObjectRec.{ObjectRec}
use Rattle.bk_image.specs.declared.fault.ImageFault.{ImageFault}
use Rattle.bk_image.specs.declared.fault.ImageField.TheVariants as field
use Rattle.bk_image.specs.declared.version.Version.{Version}
use Rattle.bk_image.specs.Parts.{Rest, Reads, Check, ◌>>=◌, first_failing, part, checked, last, is_outside}
use Rattle.bk_image.specs.Numbers.{byte, word, words_of, path_in, path_at}
use Rattle.bk_image.specs.Subjects.{is_listed}
use Rattle.bk_image.specs.Versions.{bytes_of_row, record_size}

-- ---- the objects by path, as the state has them

-- objects by path
abbrev pub Objects : Type 0
Objects = finmap.FinMap path_cmp Object

-- those of an image
unfoldable pub objects_in : List ObjectRec → Objects
objects_in objects = finmap.from_entries (map (λ o. (o.path, object_from o)) objects)

-- the facts of the object at the path
abbrev pub facts_at : Objects → Path → Option Facts
facts_at objects path = facts_in (λ object. object.facts) objects path

-- the number of the level of the object at the parent
abbrev pub level_above : Objects → Path → ℕ
level_above objects path = level_in (λ object. object.facts) objects (parent path)

-- the used number of the cell at the path
abbrev pub used_at : Objects → Path → ℕ
used_at objects path = used_in (λ object. object.facts) objects path

-- root, or an upgraded directory: one whose level isn't its parent's
abbrev pub has_cell : Objects → ObjectRec → Bool
has_cell objects o = is_root o.path || is_directory o.facts.kind && not (level_above objects o.path == o.facts.level)

-- ---- object: path, kind, blocks or line number, level, zero, quota, row, word count; then its words

-- kinds by their numbers
abbrev pub kind_of : (number : ℕ) → (line : ℕ) → Kind
kind_of number line = if number == 0 then Directory else if number == 1 then Segment else if number == 2 then Mailbox else Line line

-- a line has its number in the place of the blocks, and no blocks
abbrev pub blocks_of : Kind → ℕ → ℕ
blocks_of Directory blocks = blocks
blocks_of Segment blocks = blocks
blocks_of Mailbox blocks = blocks
blocks_of (Line n) blocks = 0

-- the row that its bytes tell: two sets for each, and nothing for the subjects after those
abbrev pub row_of : (pairs : List ℕ) → List Modes
row_of pairs = split_pairs pairs ++ replicate (most_subjects - 2 * length pairs) no_modes

-- the facts that an object's bytes tell
abbrev pub facts_of : Version → List ℕ → Facts
facts_of version b = record {
  kind = kind_of (byte b 4) (byte b 5);
  blocks = blocks_of (kind_of (byte b 4) (byte b 5)) (byte b 5);
  level = byte b 6;
  quota = word b 8;
  row = row_of (take (bytes_of_row version) (drop 10 b));
}

-- the object that its bytes and words tell
abbrev pub object_of : Version → List ℕ → List ℕ → ObjectRec
object_of version b words = record { path = path_at b 0; facts = facts_of version b; words = words }

-- the count of words, behind the row
abbrev pub count_in : Version → List ℕ → ℕ
count_in version b = word b (10 + bytes_of_row version)

-- what the bytes tell besides the value: the words are a path, the kind is one, the zero byte is 0; and the word count
pub record Told : Type 0 where
  pub path : Bool
  pub kind : Bool
  pub zero : Bool
  pub count : ℕ

-- the same from the bytes
abbrev pub told_by : Version → List ℕ → Told
told_by version b = record { path = not (is_none (path_in b 0)); kind = not (nat_lt 3 (byte b 4)); zero = byte b 7 == 0; count = count_in version b }

-- the first is root, and each other one stands above the last: a path comes before what it begins
abbrev pub path_follows : Option ObjectRec → Path → Bool
path_follows None path = is_root path
path_follows (Some o) path = is_lt (path_cmp o.path path)

-- a directory stands at the parent
abbrev pub has_parent : Objects → Path → Bool
has_parent objects path = passes (λ above. is_directory above.kind) (facts_at objects (parent path))

-- a segment has 1 to 128 blocks; the number of a line is below the lines, and not used before; all else has no blocks
abbrev pub fits_kind : (lines : ℕ) → List ObjectRec → Kind → (blocks : ℕ) → Bool
fits_kind lines before Directory blocks = blocks == 0
fits_kind lines before Segment blocks = not (is_outside 1 most_blocks blocks)
fits_kind lines before Mailbox blocks = blocks == 0
fits_kind lines before (Line n) blocks = blocks == 0 && nat_lt n lines && not (list_any (λ o. is_line n o.facts.kind) before)

-- the level dominates that of the object at the parent
abbrev pub dominates_above : List Level → Objects → Path → (level : ℕ) → Bool
dominates_above levels objects path level = passes (λ above. dominates (level_at levels level) (level_at levels above.level)) (facts_at objects (parent path))

-- a cell has a limit of 1 to 3,904, and all else has none
abbrev pub fits_cell : Bool → (quota : ℕ) → Bool
fits_cell true quota = not (is_outside 1 largest_quota quota)
fits_cell false quota = quota == 0

-- each set of modes is within the kind's, and none is of a subject that isn't there
abbrev pub fits_modes : Kind → List Modes → Bool
fits_modes kind row = list_all (λ modes. is_within modes (kind_modes kind)) row

-- from that number on no subject has modes
abbrev pub fits_subjects : (subjects : ℕ) → List Modes → Bool
fits_subjects subjects row = list_all (λ modes. modes.0 == 0) (drop subjects row)

-- the words that an object can have: those of a segment's blocks
abbrev pub room : Facts → ℕ
room facts = by facts.kind
  where
    by : Kind → ℕ
    by Directory = 0
    by Segment = words_of_block * facts.blocks
    by Mailbox = 0
    by (Line n) = 0

-- of the levels, the number of subjects, the number of lines, the objects before, what the bytes tell, and the object
abbrev pub object_checks : List Level → (subjects lines : ℕ) → List ObjectRec → Told → ObjectRec → List Check
object_checks levels subjects lines before told o =
    (field.Path, not told.path)
    ∷ (field.Path, not (path_follows (last before) o.path))
    ∷ (field.Parent, not (is_root o.path) && not (has_parent (objects_in before) o.path))
    ∷ (field.Kind, not told.kind)
    ∷ (field.Kind, is_root o.path && not (is_directory o.facts.kind))
    ∷ (field.Blocks, not (fits_kind lines before o.facts.kind o.facts.blocks))
    ∷ (field.Level, not (is_listed levels o.facts.level))
    ∷ (field.Level, not (is_root o.path) && not (dominates_above levels (objects_in before) o.path o.facts.level))
    ∷ (field.Zero, not told.zero)
    ∷ (field.Quota, not (fits_cell (has_cell (objects_in before) o) o.facts.quota))
    ∷ (field.Row, not (fits_modes o.facts.kind o.facts.row))
    ∷ (field.Row, not (fits_subjects subjects o.facts.row))
    ∷ (field.Contents, nat_lt (room o.facts) told.count)
    ∷ []

-- the word is there and is 0
abbrev pub is_zero : Option ℕ → Bool
is_zero None = false
is_zero (Some n) = n == 0

-- of an object's words, when they are whole
abbrev pub words_checks : List ℕ → List Check
words_checks words =
    (field.Contents, is_zero (last words))
    ∷ []

-- those of an object's bytes
abbrev pub object_fails : Version → List Level → (subjects lines : ℕ) → List ObjectRec → List ℕ → List Check
object_fails version levels subjects lines before b = object_checks levels subjects lines before (told_by version b) (object_of version b [])

-- a fault of the words, too, is told of the first byte of the record, but for their being long or at an end
unfoldable pub object_at : Version → List Level → (subjects lines : ℕ) → List ObjectRec → Rest → Reads ObjectRec
object_at version levels subjects lines before rest = do
  b ← checked (record_size version) (object_fails version levels subjects lines before) (λ b. b) rest
  w ← part (2 * count_in version b.0) b.1
  passed ← first_failing rest.at (words_checks (words_of w.0))
  Ok (object_of version b.0 (words_of w.0), w.1)

-- ---- after all objects

-- the bytes of an object and its words
abbrev pub size : Version → ObjectRec → ℕ
size version o = record_size version + 2 * length o.words

-- more of the object's cell is used than there is
abbrev pub is_over : Objects → ObjectRec → Bool
is_over all o = has_cell all o && nat_lt o.facts.quota (used_at all o.path)

-- the first object whose cell is used over its limit; the objects stand from the place on
unfoldable pub quotas_at : Version → Objects → List ObjectRec → ℕ → Result (Unit {0}) ImageFault
quotas_at version all [] at = Ok tt
quotas_at version all (o ∷ objects) at = do
  passed ← first_failing at ((field.Quota, is_over all o) ∷ [])
  quotas_at version all objects (at + size version o)

-- there are fewer line objects than lines
abbrev pub lacks_lines : (lines : ℕ) → List ObjectRec → Bool
lacks_lines lines objects = nat_lt (count_by (λ o. is_any_line o.facts.kind) objects) lines

-- used over the limit, told of the directory's record; and lines, told of byte 10, where their number stands
unfoldable pub after_objects : Version → (lines : ℕ) → List ObjectRec → (start : ℕ) → Result (Unit {0}) ImageFault
after_objects version lines objects start = do
  quotas ← quotas_at version (objects_in objects) objects start
  first_failing 10 ((field.Lines, lacks_lines lines objects) ∷ [])
