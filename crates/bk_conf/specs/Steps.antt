-- What each line adds to what was said before, or its fault, and the first fault of all lines.
use Rattle.std.specs.Prelude.{ℕ, zero, suc, ◌+◌, ◌%◌, ◌==◌, nat_lt, Bool, ◌&&◌, ◌||◌, not, if◌then◌else◌, List, [], ◌∷◌, ◌++◌, length, map, Option, Some, None, is_some, is_none, Result, Ok, Err}
use Rattle.std.specs.BTreeMap.{insert_entry}
use Rattle.bk_asm.specs.Assembled.{assembled}
use Rattle.bk_asm.specs.declared.Program.{Program}
use Rattle.bk_asm_text.specs.declared.fault.AsmFault.{AsmFault}
use Rattle.bk_base.specs.Faults.{◌>>=◌, first_failing}
use Rattle.bk_level.specs.Levels.{Level, most_levels}
use Rattle.bk_object.specs.declared.facts.Facts.{Facts}
use Rattle.bk_object.specs.declared.modes.Modes.{Modes}
use Rattle.bk_object.specs.Kinds.{is_any_line}
use Rattle.bk_object.specs.Rows.{most_subjects}
use Rattle.bk_path.specs.Paths.{Path, path_cmp}
use Rattle.bk_state.specs.Limits.{most_lines, most_objects, most_holds}
use Rattle.bk_conf.specs.declared.fault.BuildFault.{BuildFault}
use Rattle.bk_conf.specs.declared.fault.BuildKind.{BuildKind}
use Rattle.bk_conf.specs.declared.fault.BuildKind.TheVariants as kind
use Rattle.bk_conf.specs.declared.line.Line.{Line}
use Rattle.bk_conf.specs.declared.line.Line.TheVariants as line
use Rattle.bk_conf.specs.declared.line.SubjectLine.{SubjectLine}
use Rattle.bk_conf.specs.declared.said.Mention.TheVariants as mention
use Rattle.bk_conf.specs.declared.said.Mentioned.{Mentioned}
use Rattle.bk_conf.specs.Fault.{fault_at, line_after}
use Rattle.bk_conf.specs.Limits.{most_bytes}
use Rattle.bk_conf.specs.Lines.{Text, lines_of, fields_of, program_lines, text_of}
use Rattle.bk_conf.specs.Kinds.{line_of}
use Rattle.bk_conf.specs.Said.{Said, nothing, named_at, is_there, has, pair_cmp, row_cmp, hold_cmp, name_cmp}

-- the checks of a line in their order, and what was said with it
abbrev pub checked : List (BuildKind × Bool) → Said → Result Said BuildKind
checked checks said = first_failing (λ kind. kind) checks >>= (λ passed. Ok said)

-- turns: once
unfoldable pub with_turns : Said → (turns : ℕ) → Result Said BuildKind
with_turns said turns = checked ((kind.Doubled, is_some said.turns) ∷ []) (record said { turns = Some turns })

-- a level: at most 64
unfoldable pub with_level : Said → Level → Result Said BuildKind
with_level said level = checked ((kind.Range, length said.levels == most_levels) ∷ []) (record said { levels = said.levels ++ level ∷ [] })

-- the schedule: once
unfoldable pub with_schedule : Said → (at : ℕ) → (schedule : List ℕ) → Result Said BuildKind
with_schedule said at schedule = checked ((kind.Doubled, is_some said.schedule) ∷ []) (record said {
  schedule = Some schedule;
  mentions = said.mentions ++ map (λ subject. named_at at (mention.Subject subject)) schedule;
})

-- a subject: at most 64
unfoldable pub with_subject : Said → SubjectLine → Result Said BuildKind
with_subject said subject = checked ((kind.Range, length said.subjects == most_subjects) ∷ []) (record said { subjects = said.subjects ++ subject ∷ [] })

-- a fault entry: one for a subject and a fault
unfoldable pub with_entry : Said → (at : ℕ) → (subject fault address : ℕ) → Result Said BuildKind
with_entry said at subject fault address = checked ((kind.Doubled, has pair_cmp said.entries (subject, fault)) ∷ []) (record said {
  entries = insert_entry pair_cmp said.entries (subject, fault) address;
  mentions = said.mentions ++ named_at at (mention.Subject subject) ∷ [];
})

-- a window: one for a subject and a number
unfoldable pub with_window : Said → (at : ℕ) → (subject index : ℕ) → Path → Result Said BuildKind
with_window said at subject index path = checked ((kind.Doubled, has pair_cmp said.windows (subject, index)) ∷ []) (record said {
  windows = insert_entry pair_cmp said.windows (subject, index) path;
  mentions = said.mentions ++ named_at at (mention.Subject subject) ∷ [];
})

-- the program that an object names, where it names one
abbrev pub named_by : (at : ℕ) → (program : Option Text) → List Mentioned
named_by at None = []
named_by at (Some program) = named_at at (mention.Program program) ∷ []

-- an object: at most 3,904, of which at most 16 are lines, and one at a path
unfoldable pub with_object : Said → (at : ℕ) → Path → Facts → (program : Option Text) → Result Said BuildKind
with_object said at path facts program = checked
    (
    (kind.Range, length said.objects == most_objects)
    ∷ (kind.Range, is_any_line facts.kind && said.lines == most_lines)
    ∷ (kind.Doubled, has path_cmp said.objects path)
    ∷ []
    )
    (record said {
      objects = insert_entry path_cmp said.objects path (record { facts = facts; program = program });
      lines = said.lines + (if is_any_line facts.kind then 1 else 0);
      mentions = said.mentions ++ named_by at program;
    })

-- an entry of a row: one for a path and a subject
unfoldable pub with_row : Said → (at : ℕ) → Path → (subject : ℕ) → Modes → Result Said BuildKind
with_row said at path subject modes = checked ((kind.Doubled, has row_cmp said.rows (path, subject)) ∷ []) (record said {
  rows = insert_entry row_cmp said.rows (path, subject) modes;
  mentions = said.mentions ++ named_at at (mention.Subject subject) ∷ named_at at (mention.Object path) ∷ [];
})

-- a hold: at most 65,535, and one for a subject and a path
unfoldable pub with_hold : Said → (at : ℕ) → (subject : ℕ) → Path → Modes → Result Said BuildKind
with_hold said at subject path modes = checked
    (
    (kind.Range, length said.holds == most_holds)
    ∷ (kind.Doubled, has hold_cmp said.holds (subject, path))
    ∷ []
    )
    (record said {
      holds = insert_entry hold_cmp said.holds (subject, path) modes;
      mentions = said.mentions ++ named_at at (mention.Subject subject) ∷ [];
    })

-- ---- programs

-- words without the zeros at their end
abbrev pub in_front : ℕ → List ℕ → List ℕ
in_front word [] = if word == 0 then [] else word ∷ []
in_front word (next ∷ words) = word ∷ next ∷ words

-- the last word is 0 in none that are left
unfoldable pub without_zeros : List ℕ → List ℕ
without_zeros [] = []
without_zeros (word ∷ words) = in_front word (without_zeros words)

-- a fault of the program behind a line, as one of the configuration
abbrev pub in_program : (at : ℕ) → Result Program AsmFault → Result Program BuildFault
in_program at (Ok program) = Ok program
in_program at (Err fault) = Err (fault_at (line_after at fault.line) (kind.Program fault.kind))

-- what was said with a program
abbrev pub with_words : Said → (name : Text) → Program → Said
with_words said name program = record said {
  programs = said.programs ++ record { name = name; program = program } ∷ [];
  words = insert_entry name_cmp said.words name (without_zeros program.words);
}

-- what was said with the program of these lines, at its origin, which is even and of 16 bits; and how many lines it has, with
-- that of its end
abbrev pub with_lines : Said → (at : ℕ) → (name : Text) → (origin : Option ℕ) → List Text → Result (Said × ℕ) BuildFault
with_lines said at name None body = Err (fault_at at kind.Range)
with_lines said at name (Some origin) body = do
  passed ← first_failing (fault_at at) (
      (kind.Range, not (origin % 2 == 0))
      ∷ (kind.Doubled, has name_cmp said.words name)
      ∷ []
      )
  program ← in_program at (assembled (text_of body) origin)
  Ok (with_words said name program, length body + 1)

-- a program: it has an end, an origin, and a name that no other has, and its text is assembled
unfoldable pub with_program : Said → (at : ℕ) → (name : Text) → (origin : Option ℕ) → Option (List Text) → Result (Said × ℕ) BuildFault
with_program said at name origin None = Err (fault_at at kind.Form)
with_program said at name origin (Some body) = with_lines said at name origin body

-- ---- lines

-- the fault of a line by its kind, or what was said, and that no line is passed over
abbrev pub told : (at : ℕ) → Result Said BuildKind → Result (Said × ℕ) BuildFault
told at (Ok said) = Ok (said, 0)
told at (Err kind) = Err (fault_at at kind)

-- what was said with what a line says, and how many of the following lines it takes
abbrev pub with_line : Said → (at : ℕ) → Line → (following : List Text) → Result (Said × ℕ) BuildFault
with_line said at (line.Turns turns) following = told at (with_turns said turns)
with_line said at (line.Level level) following = told at (with_level said level)
with_line said at (line.Schedule schedule) following = told at (with_schedule said at schedule)
with_line said at (line.Subject subject) following = told at (with_subject said subject)
with_line said at (line.Fault subject fault address) following = told at (with_entry said at subject fault address)
with_line said at (line.Window subject index path) following = told at (with_window said at subject index path)
with_line said at (line.Object path facts program) following = told at (with_object said at path facts program)
with_line said at (line.Row path subject modes) following = told at (with_row said at path subject modes)
with_line said at (line.Hold subject path modes) following = told at (with_hold said at subject path modes)
with_line said at (line.Program name origin) following = with_program said at name origin (program_lines following)

-- the same of a line that may say nothing, or that has a fault
abbrev pub with_reading : Said → (at : ℕ) → Result (Option Line) BuildKind → (following : List Text) → Result (Said × ℕ) BuildFault
with_reading said at (Err kind) following = Err (fault_at at kind)
with_reading said at (Ok None) following = Ok (said, 0)
with_reading said at (Ok (Some line)) following = with_line said at line following

-- what was said with the lines from the one numbered at, of which the first so many are passed over; or the first fault
unfoldable pub with_all : Said → (at pass : ℕ) → List Text → Result Said BuildFault
with_all said at pass [] = Ok said
with_all said at (suc pass) (text ∷ texts) = with_all said (line_after at 1) pass texts
with_all said at zero (text ∷ texts) =
    with_reading said at (line_of (fields_of text)) texts >>= (λ next. with_all next.0 (line_after at 1) next.1 texts)

-- ---- all steps but the last

-- what all lines say, where the text isn't too long
unfoldable pub all_said : Text → Result Said BuildFault
all_said text = if nat_lt most_bytes (length text) then Err (fault_at 0 kind.Long) else with_all nothing 1 0 (lines_of text)

-- what is named at a line isn't there
abbrev pub is_unknown : Said → Mentioned → ℕ × Bool
is_unknown said named = (named.line, not (is_there said named.what))

-- all that is named is there; or the first line at which it isn't
abbrev pub all_there : Said → List Mentioned → Result (Unit {0}) BuildFault
all_there said mentions = first_failing (λ at. fault_at at kind.Unknown) (map (is_unknown said) mentions)

-- turns, schedule, levels, subjects and objects: of each there is one
abbrev pub is_missing : Said → Bool
is_missing said = is_none said.turns || is_none said.schedule || length said.levels == 0 || length said.subjects == 0 || length said.objects == 0

-- all that is named is there, and nothing is missing
unfoldable pub is_complete : Said → Result (Unit {0}) BuildFault
is_complete said = do
  there ← all_there said said.mentions
  first_failing (fault_at 0) ((kind.Missing, is_missing said) ∷ [])

-- what a configuration says; or its first fault, but for that of the image
unfoldable pub configuration_of : Text → Result Said BuildFault
configuration_of text = do
  said ← all_said text
  passed ← is_complete said
  Ok said
