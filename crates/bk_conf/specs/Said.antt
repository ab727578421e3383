-- What the lines of a configuration have said.
use Rattle.std.specs.Prelude.{ℕ, nat_lt, Bool, List, [], length, Option, None, is_some}
use Rattle.std.specs.BTreeMap.{is_at}
use Rattle.std.specs.Map.{lookup}
use Rattle.std.specs.Ordering.{nat_cmp, ordering_then}
use Rattle.std.specs.Cmp.Lexicographic.{slice_cmp}
use Rattle.std.specs.declared.cmp.Ordering.{Ordering}
use Rattle.bk_level.specs.Levels.{Level}
use Rattle.bk_object.specs.declared.modes.Modes.{Modes}
use Rattle.bk_path.specs.Paths.{Path, path_cmp}
use Rattle.bk_conf.specs.declared.line.SubjectLine.{SubjectLine}
use Rattle.bk_conf.specs.declared.said.Mention.{Mention}
use Rattle.bk_conf.specs.declared.said.Mention.TheVariants as mention
use Rattle.bk_conf.specs.declared.said.Mentioned.{Mentioned}
use Rattle.bk_conf.specs.declared.said.Named.{Named}
use Rattle.bk_conf.specs.declared.said.Placed.{Placed}
use Rattle.bk_conf.specs.Lines.{Text}

-- ---- finite maps, as their entries in the order of the keys

-- from keys to values
abbrev pub Entries : (K X : Type 0) → Type 0
Entries K X = List (K × X)

-- what is at a key
abbrev pub value_at : {K X : Type 0} → (K → K → Ordering) → Entries K X → K → Option X
value_at cmp entries key = lookup (is_at (cmp key)) entries

-- something is
abbrev pub has : {K X : Type 0} → (K → K → Ordering) → Entries K X → K → Bool
has cmp entries key = is_some (value_at cmp entries key)

-- pairs of numbers, by the first and then by the second
abbrev pub pair_cmp : (a b : ℕ × ℕ) → Ordering
pair_cmp a b = ordering_then (nat_cmp a.0 b.0) (nat_cmp a.1 b.1)

-- paths and subjects, by the path and then by the subject
abbrev pub row_cmp : (a b : Path × ℕ) → Ordering
row_cmp a b = ordering_then (path_cmp a.0 b.0) (nat_cmp a.1 b.1)

-- subjects and paths, by the subject and then by the path
abbrev pub hold_cmp : (a b : ℕ × Path) → Ordering
hold_cmp a b = ordering_then (nat_cmp a.0 b.0) (path_cmp a.1 b.1)

-- names, by their letters
abbrev pub name_cmp : (a b : Text) → Ordering
name_cmp a b = slice_cmp nat_cmp a b

-- ---- what was said

-- turns and schedule, where they stand; levels and subjects in their order; fault entries by subject and fault, windows by
-- subject and number; objects by their paths, and how many of them are lines; rows by path and subject, holds by subject and
-- path; the programs in their order, and the words of each by its name; and what was named at which line
pub record Said : Type 0 where
  pub turns : Option ℕ
  pub levels : List Level
  pub schedule : Option (List ℕ)
  pub subjects : List SubjectLine
  pub entries : Entries (ℕ × ℕ) ℕ
  pub windows : Entries (ℕ × ℕ) Path
  pub objects : Entries Path Placed
  pub lines : ℕ
  pub rows : Entries (Path × ℕ) Modes
  pub holds : Entries (ℕ × Path) Modes
  pub programs : List Named
  pub words : Entries Text (List ℕ)
  pub mentions : List Mentioned

-- before the first line
abbrev pub nothing : Said
nothing = record {
  turns = None;
  levels = [];
  schedule = None;
  subjects = [];
  entries = [];
  windows = [];
  objects = [];
  lines = 0;
  rows = [];
  holds = [];
  programs = [];
  words = [];
  mentions = [];
}

-- what a line names
abbrev pub named_at : (at : ℕ) → Mention → Mentioned
named_at at what = record { line = at; what = what }

-- what is named is there
abbrev pub is_there : Said → Mention → Bool
is_there said (mention.Subject subject) = nat_lt subject (length said.subjects)
is_there said (mention.Object path) = has path_cmp said.objects path
is_there said (mention.Program name) = has name_cmp said.words name
