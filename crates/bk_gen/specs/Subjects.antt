-- Levels, lines, subjects, and what each subject holds at the start.
use Rattle.std.specs.Prelude.{ℕ, ◌+◌, ◌%◌, List, [], ◌∷◌, map, flat_map, replicate}
use Rattle.std.specs.List.{range_with_len}
use Rattle.bk_level.specs.Levels.{Level}
use Rattle.bk_object.specs.Modes.{Read, Execute, Write, only}
use Rattle.bk_path.specs.Paths.{Path, pack}
use Rattle.bk_process.specs.NewProcess.{entries_of_process}
use Rattle.bk_space.specs.declared.Mode.TheVariants.{User}
use Rattle.bk_state.specs.declared.image.Hold.{Hold}
use Rattle.bk_state.specs.declared.image.SubjectRec.{SubjectRec}

-- the numbers from 0 on that are below n
abbrev pub numbers_below : ℕ → List ℕ
numbers_below n = range_with_len 0 n

-- how many levels there are, and as many lines: each level has one of it
abbrev pub levels_made : ℕ
levels_made = 4

-- how many subjects there are
abbrev pub subjects_made : ℕ
subjects_made = 8

-- a level's class is its number, and it has no categories
abbrev pub level_of : (number : ℕ) → Level
level_of number = record { class = number; categories = [] }

-- the levels 0 to 3
unfoldable pub generated_levels : List Level
generated_levels = map level_of (numbers_below levels_made)

-- the program is /0
abbrev pub program_path : Path
program_path = 0 ∷ []

-- line j is /(1 + j)
abbrev pub line_path : (line : ℕ) → Path
line_path line = (1 + line) ∷ []

-- the number of a subject's line, and of its level
abbrev pub line_of : (subject : ℕ) → ℕ
line_of subject = subject % levels_made

-- a subject in user mode that begins at 0 with its line's path in R5; window 16, the first of user I space, shows the program
abbrev pub subject_of : (subject : ℕ) → SubjectRec
subject_of subject = record {
  f_s = line_of subject;
  f_c = line_of subject;
  mode = User;
  previous = User;
  regs = 0 ∷ 0 ∷ 0 ∷ 0 ∷ 0 ∷ (pack (line_path (line_of subject))).0 ∷ [];
  user_sp = 0;
  super_sp = 0;
  pc = 0;
  entries = replicate entries_of_process 0;
  windows = record { index = 16; path = program_path } ∷ [];
}

-- the subjects 0 to 7
unfoldable pub generated_subjects : List SubjectRec
generated_subjects = map subject_of (numbers_below subjects_made)

-- a subject holds r on root, e on the program and w on its line
unfoldable pub holds_of : (subject : ℕ) → List Hold
holds_of subject =
    record { subject = subject; modes = only Read; path = [] }
    ∷ record { subject = subject; modes = only Execute; path = program_path }
    ∷ record { subject = subject; modes = only Write; path = line_path (line_of subject) }
    ∷ []

-- the holds of all subjects
unfoldable pub generated_holds : List Hold
generated_holds = flat_map holds_of (numbers_below subjects_made)
