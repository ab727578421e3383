-- What the code keeps while it reads, as the definitions see it.
use Rattle.std.specs.Prelude.{◌≡◌, ℕ, ◌+◌, ◌-◌, ◌^◌, ◌≤◌, min, List, [], ◌∷◌, ◌++◌, length, map, Option, Some, None, Result, Ok, Err, Vec}
use Rattle.std.specs.Borrow.{Bor}
use Rattle.bk_base.specs.Faults.{◌>>=◌, Refuses}
use Rattle.bk_base.specs.declared.stop.Stop.{Stop}
use Rattle.bk_conf.specs.declared.fault.BuildFault.{BuildFault}
use Rattle.bk_conf.specs.declared.program.Body.{Body}
use Rattle.bk_conf.specs.Fault.{line_after}
use Rattle.bk_conf.specs.Lines.{Text, lines_of, program_lines, text_of}
use Rattle.bk_conf.specs.Steps.{with_all}
use Rattle.bk_conf.specs.Said.{Said, Entries}
use Rattle.bk_conf.specs.declared.said.Said as code

-- the bytes of each of the fields
abbrev pub texts : List (Bor Text) → List Text
texts fields = map (λ field. field.now) fields

-- the lines that are left
abbrev pub lines_left : Option (Bor Text) → List Text
lines_left None = []
lines_left (Some text) = lines_of text.now

-- the words of programs by their names
abbrev pub words_of : {Z : Type 0} → List (Vec ℕ Z × List ℕ) → Entries Text (List ℕ)
words_of entries = map (λ entry. (entry.0.items, entry.1)) entries

-- what was said
abbrev pub said_of : code.Said → Said
said_of said = record {
  turns = said.turns;
  levels = said.levels.items;
  schedule = said.schedule;
  subjects = said.subjects.items;
  entries = said.entries.entries;
  windows = said.windows.entries;
  objects = said.objects.entries;
  lines = said.lines;
  rows = said.rows.entries;
  holds = said.holds.entries;
  programs = said.programs.items;
  words = words_of said.words.entries;
  mentions = said.mentions.items;
}

-- how much is left
abbrev pub size_left : Option (Bor Text) → ℕ
size_left None = 0
size_left (Some text) = 1 + length text.now

-- Reading went on as far as the line with that number, with these lines behind it, and what all lines say is what they add to what
-- was said then; or it stopped as it has to.
abbrev pub Reached : Result (ℕ × Option (Bor Text)) (Stop BuildFault) → (said : Said) → (whole : Result Said BuildFault) → Type 0
Reached (Ok next) said whole = whole ≡ with_all said next.0 0 (lines_left next.1)
Reached (Err stop) said whole = Refuses stop whole

-- what all lines say, by what one of them adds and the lines that follow it
abbrev pub with_following : (at : ℕ) → (following : List Text) → Result (Said × ℕ) BuildFault → Result Said BuildFault
with_following at following added = added >>= (λ next. with_all next.0 (line_after at 1) next.1 following)

-- the text of a program, how many lines it has, and what is left behind its end
pub record HasBody (text : Text) (body : Body) : Type 0 where
  pub lines : List Text
  pub end : Text
  pub found : program_lines (lines_of text) ≡ Some lines
  pub stands : lines_of text ≡ lines ++ end ∷ lines_left body.left
  pub text_is : body.text.now ≡ text_of lines
  pub count : body.lines ≡ min (length lines) (2 ^ 32 - 1)
  pub shorter : size_left body.left ≤ length text
