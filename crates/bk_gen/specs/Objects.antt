-- The objects: root, the program, the lines, and below /5 sixteen directories of sixteen segments each.
use Rattle.std.specs.Prelude.{ℕ, ◌+◌, ◌*◌, Bool, true, false, ◌&&◌, ◌==◌, nat_lt, if◌then◌else◌, List, [], ◌∷◌, ◌++◌, map, flat_map}
use Rattle.bk_object.specs.Limits.{largest_quota}
use Rattle.bk_object.specs.Modes.{Read, Execute, Write, only, no_modes, union}
use Rattle.bk_object.specs.Rows.{most_subjects}
use Rattle.bk_object.specs.declared.kind.Kind.{Kind}
use Rattle.bk_object.specs.declared.kind.Kind.TheVariants.{Directory, Segment, Line}
use Rattle.bk_object.specs.declared.modes.Modes.{Modes}
use Rattle.bk_path.specs.Paths.{Path}
use Rattle.bk_state.specs.declared.image.ObjectRec.{ObjectRec}
use Rattle.bk_gen.specs.Program.{echo}
use Rattle.bk_gen.specs.Subjects.{numbers_below, levels_made, subjects_made, program_path, line_path, line_of}

-- the row that grants the modes to each subject that passes the test, and nothing to anybody else
unfoldable pub granting : (test : ℕ → Bool) → Modes → List Modes
granting test modes = map (λ subject. if nat_lt subject subjects_made && test subject then modes else no_modes) (numbers_below most_subjects)

-- the row that grants the modes to all subjects
abbrev pub to_all : Modes → List Modes
to_all modes = granting (λ subject. true) modes

-- the row that grants nothing to anybody
abbrev pub to_none : List Modes
to_none = granting (λ subject. false) no_modes

-- the row that grants w to the subjects of a line
abbrev pub to_line : (line : ℕ) → List Modes
to_line line = granting (λ subject. line_of subject == line) (only Write)

-- an object of that path, kind, blocks, level, quota, row and words
abbrev pub object_of : Path → Kind → (blocks level quota : ℕ) → (row : List Modes) → (words : List ℕ) → ObjectRec
object_of path kind blocks level quota row words =
    record { path = path; facts = record { kind = kind; blocks = blocks; level = level; quota = quota; row = row }; words = words }

-- root: r for all, and the largest quota
abbrev pub root : ObjectRec
root = object_of [] Directory 0 0 largest_quota (to_all (only Read)) []

-- the program: r and e for all
abbrev pub program : ObjectRec
program = object_of program_path Segment 1 0 0 (to_all (union (only Read) (only Execute))) echo

-- a line, of the level of its number: w for the subjects of the line
abbrev pub line_object : (line : ℕ) → ObjectRec
line_object line = object_of (line_path line) (Line line) 0 line 0 (to_line line) []

-- a plain directory of level 0
abbrev pub directory : Path → ObjectRec
directory path = object_of path Directory 0 0 0 to_none []

-- the segment /5/a/b: 8 blocks, of which the first word is 1 + 16 a + b and all others are 0
abbrev pub segment : (a b : ℕ) → ObjectRec
segment a b = object_of (b ∷ a ∷ 5 ∷ []) Segment 8 0 0 to_none ((1 + 16 * a + b) ∷ [])

-- the directory /5/a and its sixteen segments
unfoldable pub group : (a : ℕ) → List ObjectRec
group a = directory (a ∷ 5 ∷ []) ∷ map (segment a) (numbers_below 16)

-- all of them, in the order of their paths
unfoldable pub generated_objects : List ObjectRec
generated_objects =
    root ∷ program ∷ map line_object (numbers_below levels_made) ++ directory (5 ∷ []) ∷ flat_map group (numbers_below 16)
