-- Rows: a list of the modes that an object grants to each subject.
use Rattle.std.specs.Prelude.{ℕ, List, replicate, slice_index_or, slice_set}
use Rattle.bk_object.specs.declared.modes.Modes.{Modes}
use Rattle.bk_object.specs.Modes.{no_modes, union, without}

-- how many subjects a system has at most; a row has a set of modes for each
abbrev pub most_subjects : ℕ
most_subjects = 64

-- the row that grants nothing to anybody
abbrev pub empty_row : List Modes
empty_row = replicate most_subjects no_modes

-- the subject's modes
abbrev pub in_row : List Modes → (subject : ℕ) → Modes
in_row row subject = slice_index_or row subject no_modes

-- the row in which the subject has these modes too
abbrev pub given : (subject : ℕ) → Modes → List Modes → List Modes
given subject modes row = slice_set row subject (union (in_row row subject) modes)

-- the row in which the subject no longer has these modes
abbrev pub rescinded : (subject : ℕ) → Modes → List Modes → List Modes
rescinded subject modes row = slice_set row subject (without (in_row row subject) modes)
