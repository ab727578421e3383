-- The image of what a configuration says, in order.
use Rattle.std.specs.Prelude.{ℕ, zero, suc, ◌+◌, ◌==◌, List, [], ◌∷◌, map, filter, Option, Some, None, unwrap_or}
use Rattle.std.specs.List.{range_with_len}
use Rattle.bk_object.specs.declared.modes.Modes.{Modes}
use Rattle.bk_object.specs.Modes.{no_modes}
use Rattle.bk_object.specs.Rows.{most_subjects, empty_row, given}
use Rattle.bk_path.specs.Paths.{Path}
use Rattle.bk_process.specs.NewProcess.{entries_of_process}
use Rattle.bk_state.specs.declared.image.Hold.{Hold}
use Rattle.bk_state.specs.declared.image.Image.{Image}
use Rattle.bk_state.specs.declared.image.ObjectRec.{ObjectRec}
use Rattle.bk_state.specs.declared.image.SubjectRec.{SubjectRec}
use Rattle.bk_state.specs.declared.image.WindowRec.{WindowRec}
use Rattle.bk_conf.specs.declared.line.SubjectLine.{SubjectLine}
use Rattle.bk_conf.specs.declared.said.Placed.{Placed}
use Rattle.bk_conf.specs.Lines.{Text}
use Rattle.bk_conf.specs.Said.{Said, Entries, value_at, pair_cmp, row_cmp, name_cmp}

-- the entry of a subject for a fault, or 0
abbrev pub entry_at : Entries (ℕ × ℕ) ℕ → (subject fault : ℕ) → ℕ
entry_at entries subject fault = unwrap_or (value_at pair_cmp entries (subject, fault)) 0

-- the fault entries of a subject, of faults 0 to 7
abbrev pub entries_in : Entries (ℕ × ℕ) ℕ → (subject : ℕ) → List ℕ
entries_in entries subject = map (entry_at entries subject) (range_with_len 0 entries_of_process)

-- a window, from its entry
abbrev pub window_in : (ℕ × ℕ) × Path → WindowRec
window_in entry = record { index = entry.0.1; path = entry.1 }

-- the windows of a subject, by their numbers
abbrev pub windows_in : Entries (ℕ × ℕ) Path → (subject : ℕ) → List WindowRec
windows_in windows subject = map window_in (filter (λ entry. entry.0.0 == subject) windows)

-- a subject with its fault entries and its windows
abbrev pub subject_in : Said → (number : ℕ) → SubjectLine → SubjectRec
subject_in said number subject = record {
  f_s = subject.f_s;
  f_c = subject.f_c;
  mode = subject.mode;
  previous = subject.previous;
  regs = subject.regs;
  user_sp = subject.user_sp;
  super_sp = subject.super_sp;
  pc = subject.pc;
  entries = entries_in said.entries number;
  windows = windows_in said.windows number;
}

-- the subjects from a number on
abbrev pub subjects_from : Said → (number : ℕ) → List SubjectLine → List SubjectRec
subjects_from said number [] = []
subjects_from said number (subject ∷ subjects) = subject_in said number subject ∷ subjects_from said (number + 1) subjects

-- the modes that a line gives a subject in the row of an object, or none
abbrev pub modes_at : Entries (Path × ℕ) Modes → Path → (subject : ℕ) → Modes
modes_at rows path subject = unwrap_or (value_at row_cmp rows (path, subject)) no_modes

-- the row of an object with what lines give to the first so many subjects
unfoldable pub granted : Entries (Path × ℕ) Modes → Path → (subjects : ℕ) → List Modes
granted rows path zero = empty_row
granted rows path (suc subject) = given subject (modes_at rows path subject) (granted rows path subject)

-- the row of an object
abbrev pub row_in : Entries (Path × ℕ) Modes → Path → List Modes
row_in rows path = granted rows path most_subjects

-- the words of a program, or none
abbrev pub words_in : Entries Text (List ℕ) → (program : Option Text) → List ℕ
words_in words None = []
words_in words (Some program) = unwrap_or (value_at name_cmp words program) []

-- an object with its row and its words
unfoldable pub object_in : Said → Path × Placed → ObjectRec
object_in said object = record {
  path = object.0;
  facts = record object.1.facts { row = row_in said.rows object.0 };
  words = words_in said.words object.1.program;
}

-- a hold, from its entry
abbrev pub hold_in : (ℕ × Path) × Modes → Hold
hold_in entry = record { subject = entry.0.0; modes = entry.1; path = entry.0.1 }

-- the image: objects by path, windows by number, holds by subject and path, and words without the zeros at their end
unfoldable pub ordered : Said → Image
ordered said = record {
  turns = unwrap_or said.turns 0;
  levels = said.levels;
  lines = said.lines;
  schedule = unwrap_or said.schedule [];
  subjects = subjects_from said 0 said.subjects;
  objects = map (object_in said) said.objects;
  holds = map hold_in said.holds;
}
