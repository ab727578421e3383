-- The lines of a configuration, and the fields of a line.
use Rattle.std.specs.Prelude.{ℕ, ◌==◌, ◌||◌, Bool, false, not, if◌then◌else◌, List, [], ◌∷◌, ◌++◌, filter, length, get_or, flat_map, Option, Some, None, option_map}
use Rattle.std.specs.Prelude.{bytes_eq, codes}
use Rattle.std.specs.List.{slice_split}

-- a line or a field: its bytes
abbrev pub Text : Type 0
Text = List ℕ

-- The lines of a text, parted by LFs. Where the last line has its LF, an empty one follows it, and that says nothing.
abbrev pub lines_of : Text → List Text
lines_of text = slice_split (λ b. b == 10) text

-- what stands before the comment, which a semicolon begins
abbrev pub content : Text → Text
content line = get_or (slice_split (λ b. b == 59) line) 0 []

-- a space or a tab
abbrev pub is_blank : ℕ → Bool
is_blank b = b == 32 || b == 9

-- the fields of a line: what blanks part of its content
unfoldable pub fields_of : Text → List Text
fields_of line = filter (λ field. not (length field == 0)) (slice_split is_blank (content line))

-- a field by its number from 0
abbrev pub at : List Text → (n : ℕ) → Text
at fields n = get_or fields n []

-- the line ends a program: its one field is `endprogram`
abbrev pub ends : List Text → Bool
ends [] = false
ends (word ∷ []) = bytes_eq word (codes "endprogram")
ends (word ∷ next ∷ fields) = false

-- the lines of a program, up to the one that ends it; none where no line does
unfoldable pub program_lines : List Text → Option (List Text)
program_lines [] = None
program_lines (line ∷ lines) = if ends (fields_of line) then Some [] else option_map (λ more. line ∷ more) (program_lines lines)

-- the text of lines, each with its LF
abbrev pub text_of : List Text → Text
text_of lines = flat_map (λ line. line ++ 10 ∷ []) lines
