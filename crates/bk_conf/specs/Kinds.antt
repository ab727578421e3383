-- The kinds of line: of each its fields, first whether each is spelt as it has to be, and then the numbers that they say.
use Rattle.std.specs.Prelude.{ℕ, ◌+◌, ◌==◌, nat_le, Bool, ◌&&◌, ◌||◌, if◌then◌else◌, List, [], ◌∷◌, ◌++◌, length, drop, Option, Some, None, Result, Ok, Err}
use Rattle.std.specs.Prelude.{bytes_eq, codes}
use Rattle.std.specs.List.{list_all}
use Rattle.bk_base.specs.Faults.{◌>>=◌}
use Rattle.bk_level.specs.Masks.{categories_of}
use Rattle.bk_object.specs.declared.facts.Facts.{Facts}
use Rattle.bk_object.specs.declared.kind.Kind.{Kind}
use Rattle.bk_object.specs.declared.kind.Kind.TheVariants as of_kind
use Rattle.bk_object.specs.Rows.{empty_row}
use Rattle.bk_conf.specs.declared.fault.BuildKind.{BuildKind}
use Rattle.bk_conf.specs.declared.fault.BuildKind.TheVariants as kind
use Rattle.bk_conf.specs.declared.line.Line.{Line}
use Rattle.bk_conf.specs.declared.line.Line.TheVariants as line
use Rattle.bk_conf.specs.Limits.{largest_byte, largest_word}
use Rattle.bk_conf.specs.Lines.{Text, at}
use Rattle.bk_conf.specs.Fields.{is_decimal, is_octal, is_mask, is_path_text, are_modes, is_mode, is_space, is_name, decimal_to, word_in, bits_in, path_in, modes_in, mode_in}

-- what a line says, from the fields behind its word; or why it says nothing
abbrev pub Reading : Type 0
Reading = List Text → Result Line BuildKind

-- all fields are there, and each is spelt as it has to be
abbrev pub spelt : Bool → Result (Unit {0}) BuildKind
spelt well = if well then Ok tt else Err kind.Form

-- the number of a subject
abbrev pub subject_in : Text → Result ℕ BuildKind
subject_in text = decimal_to 63 text

-- the subjects of the fields, in order, behind those before them
unfoldable pub subjects_in : (before : List ℕ) → List Text → Result (List ℕ) BuildKind
subjects_in before [] = Ok before
subjects_in before (field ∷ fields) = subject_in field >>= (λ subject. subjects_in (before ++ subject ∷ []) fields)

-- turns N
unfoldable pub turns_line : Reading
turns_line f = do
  well ← spelt (length f == 1 && is_decimal (at f 0))
  turns ← decimal_to largest_word (at f 0)
  Ok (line.Turns turns)

-- level CLASS CATS
unfoldable pub level_line : Reading
level_line f = do
  well ← spelt (length f == 2 && is_decimal (at f 0) && is_mask (at f 1))
  class ← decimal_to largest_byte (at f 0)
  mask ← bits_in (at f 1)
  Ok (line.Level (record { class = class; categories = categories_of mask }))

-- schedule S S ..
unfoldable pub schedule_line : Reading
schedule_line f = do
  well ← spelt (nat_le 1 (length f) && nat_le (length f) 64 && list_all is_decimal f)
  places ← subjects_in [] f
  Ok (line.Schedule places)

-- subject FS FC MODE PREV PC USP SSP R0 R1 R2 R3 R4 R5
unfoldable pub subject_line : Reading
subject_line f = do
  well ← spelt (length f == 13 && is_decimal (at f 0) && is_decimal (at f 1) && is_mode (at f 2) && is_mode (at f 3) && list_all is_octal (drop 4 f))
  f_s ← decimal_to largest_byte (at f 0)
  f_c ← decimal_to largest_byte (at f 1)
  pc ← word_in (at f 4)
  user_sp ← word_in (at f 5)
  super_sp ← word_in (at f 6)
  r0 ← word_in (at f 7)
  r1 ← word_in (at f 8)
  r2 ← word_in (at f 9)
  r3 ← word_in (at f 10)
  r4 ← word_in (at f 11)
  r5 ← word_in (at f 12)
  Ok (line.Subject (record {
    f_s = f_s;
    f_c = f_c;
    mode = mode_in (at f 2);
    previous = mode_in (at f 3);
    regs = r0 ∷ r1 ∷ r2 ∷ r3 ∷ r4 ∷ r5 ∷ [];
    user_sp = user_sp;
    super_sp = super_sp;
    pc = pc;
  }))

-- fault S FAULT ADDR
unfoldable pub fault_line : Reading
fault_line f = do
  well ← spelt (length f == 3 && is_decimal (at f 0) && is_decimal (at f 1) && is_octal (at f 2))
  subject ← subject_in (at f 0)
  fault ← decimal_to 7 (at f 1)
  address ← word_in (at f 2)
  Ok (line.Fault subject fault address)

-- the number of a window: 16 for user, 8 for D space, and the page
abbrev pub window_of : (mode space : Text) → (page : ℕ) → ℕ
window_of mode space page = (if bytes_eq mode (codes "user") then 16 else 0) + (if bytes_eq space (codes "d") then 8 else 0) + page

-- window S MODE SPACE PAGE PATH
unfoldable pub window_line : Reading
window_line f = do
  well ← spelt (length f == 5 && is_decimal (at f 0) && is_mode (at f 1) && is_space (at f 2) && is_decimal (at f 3) && is_path_text (at f 4))
  subject ← subject_in (at f 0)
  page ← decimal_to 7 (at f 3)
  path ← path_in (at f 4)
  Ok (line.Window subject (window_of (at f 1) (at f 2) page) path)

-- ---- objects, by the word of their kind

-- an object's facts, its row empty
abbrev pub facts_of : Kind → (blocks level quota : ℕ) → Facts
facts_of kind blocks level quota = record { kind = kind; blocks = blocks; level = level; quota = quota; row = empty_row }

-- object PATH directory LEVEL QUOTA
unfoldable pub directory_line : Reading
directory_line f = do
  well ← spelt (length f == 4 && is_path_text (at f 0) && is_decimal (at f 2) && is_decimal (at f 3))
  path ← path_in (at f 0)
  level ← decimal_to largest_byte (at f 2)
  quota ← decimal_to largest_word (at f 3)
  Ok (line.Object path (facts_of of_kind.Directory 0 level quota) None)

-- the name of the program whose words a segment has, where one stands
abbrev pub program_in : List Text → Option Text
program_in f = if length f == 5 then Some (at f 4) else None

-- four fields are there, or five of which the last is a name
abbrev pub may_name : List Text → Bool
may_name f = length f == 4 || (length f == 5 && is_name (at f 4))

-- object PATH segment LEVEL BLOCKS, and a program's name or none
unfoldable pub segment_line : Reading
segment_line f = do
  well ← spelt (may_name f && is_path_text (at f 0) && is_decimal (at f 2) && is_decimal (at f 3))
  path ← path_in (at f 0)
  level ← decimal_to largest_byte (at f 2)
  blocks ← decimal_to largest_byte (at f 3)
  Ok (line.Object path (facts_of of_kind.Segment blocks level 0) (program_in f))

-- object PATH mailbox LEVEL
unfoldable pub mailbox_line : Reading
mailbox_line f = do
  well ← spelt (length f == 3 && is_path_text (at f 0) && is_decimal (at f 2))
  path ← path_in (at f 0)
  level ← decimal_to largest_byte (at f 2)
  Ok (line.Object path (facts_of of_kind.Mailbox 0 level 0) None)

-- object PATH line LEVEL NUMBER
unfoldable pub typing_line : Reading
typing_line f = do
  well ← spelt (length f == 4 && is_path_text (at f 0) && is_decimal (at f 2) && is_decimal (at f 3))
  path ← path_in (at f 0)
  level ← decimal_to largest_byte (at f 2)
  number ← decimal_to largest_byte (at f 3)
  Ok (line.Object path (facts_of (of_kind.Line number) 0 level 0) None)

-- what is read by the first row of a table that has the word
abbrev pub by_word : List (Text × Reading) → (word : Text) → Reading
by_word [] word f = Err kind.Form
by_word (row ∷ rows) word f = if bytes_eq word row.0 then row.1 f else by_word rows word f

-- the kinds of object
abbrev pub object_kinds : List (Text × Reading)
object_kinds =
    (codes "directory", directory_line)
    ∷ (codes "segment", segment_line)
    ∷ (codes "mailbox", mailbox_line)
    ∷ (codes "line", typing_line)
    ∷ []

-- object PATH KIND ..
unfoldable pub object_line : Reading
object_line f = by_word object_kinds (at f 1) f

-- row PATH S MODES
unfoldable pub row_line : Reading
row_line f = do
  well ← spelt (length f == 3 && is_path_text (at f 0) && is_decimal (at f 1) && are_modes (at f 2))
  path ← path_in (at f 0)
  subject ← subject_in (at f 1)
  Ok (line.Row path subject (modes_in (at f 2)))

-- hold S PATH MODES
unfoldable pub hold_line : Reading
hold_line f = do
  well ← spelt (length f == 3 && is_decimal (at f 0) && is_path_text (at f 1) && are_modes (at f 2))
  subject ← subject_in (at f 0)
  path ← path_in (at f 1)
  Ok (line.Hold subject path (modes_in (at f 2)))

-- the number, where it is one of 16 bits
abbrev pub if_word : Result ℕ BuildKind → Option ℕ
if_word (Ok n) = Some n
if_word (Err kind) = None

-- program NAME ORIGIN; an origin that is too large is told of only where the program has an end
unfoldable pub program_line : Reading
program_line f = do
  well ← spelt (length f == 2 && is_name (at f 0) && is_octal (at f 1))
  Ok (line.Program (at f 0) (if_word (word_in (at f 1))))

-- the kinds of line by their words
abbrev pub kinds : List (Text × Reading)
kinds =
    (codes "turns", turns_line)
    ∷ (codes "level", level_line)
    ∷ (codes "schedule", schedule_line)
    ∷ (codes "subject", subject_line)
    ∷ (codes "fault", fault_line)
    ∷ (codes "window", window_line)
    ∷ (codes "object", object_line)
    ∷ (codes "row", row_line)
    ∷ (codes "hold", hold_line)
    ∷ (codes "program", program_line)
    ∷ []

-- what a line says by its fields; none where it has no field
abbrev pub line_of : List Text → Result (Option Line) BuildKind
line_of [] = Ok None
line_of (word ∷ f) = by_word kinds word f >>= (λ said. Ok (Some said))
