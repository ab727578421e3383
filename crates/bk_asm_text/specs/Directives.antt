-- Directives, and what follows the word of each.
use Rattle.std.specs.Prelude.{ℕ, ◌+◌, ◌==◌, Bool, true, false, not, ◌||◌, if◌then◌else◌, List, [], ◌∷◌, find, take, drop, bytes_eq, codes, Option, Some}
use Rattle.std.specs.Prelude.{None, option_map}
use Rattle.std.specs.List.{position}
use Rattle.bk_expr.specs.Expression.{expression_at}
use Rattle.bk_expr.specs.Names.{upper_case}
use Rattle.bk_expr.specs.Text.{Front, ◌>>=◌, past_blanks, sign_at}
use Rattle.bk_expr.specs.Tree.{Expression}
use Rattle.bk_asm_text.specs.declared.directive.Directive.{Directive}
use Rattle.bk_asm_text.specs.declared.directive.Directive.TheVariants.{Word, Byte, Ascii, Asciz, Blkw, Even}
use Rattle.bk_asm_text.specs.Parts.{all_of}
use Rattle.bk_asm_text.specs.Plain.{PlainBody}
use Rattle.bk_asm_text.specs.Plain as plain

-- the directives by their words
abbrev pub directives : List (List ℕ × Directive)
directives =
    (codes ".WORD", Word) ∷ (codes ".BYTE", Byte) ∷ (codes ".ASCII", Ascii) ∷ (codes ".ASCIZ", Asciz)
    ∷ (codes ".BLKW", Blkw) ∷ (codes ".EVEN", Even) ∷ []

-- the directive of a word in upper case
abbrev pub directive_named : List ℕ → Option Directive
directive_named word = option_map (λ row. row.1) (find (λ row. bytes_eq row.0 word) directives)

-- the directive of a run, if it is one's word
unfoldable pub directive_of : List ℕ → Option Directive
directive_of run = directive_named (upper_case run)

-- a comma, and an expression after it
unfoldable pub next_expression_at : List ℕ → Front Expression
next_expression_at text = do
  rest ← sign_at 44 text
  expression_at rest

-- one or more expressions, parted by commas
unfoldable pub expressions_at : List ℕ → Front (List Expression)
expressions_at text = do
  first ← expression_at text
  let others = all_of next_expression_at first.1
  Some (first.0 ∷ others.0, others.1)

-- a string's delimiter: neither ; nor < nor = nor :
abbrev pub is_delimiter : ℕ → Bool
is_delimiter c = not (c == 59 || c == 60 || c == 61 || c == 58)

-- the bytes before a place, and those after it
abbrev pub parted : List ℕ → Option ℕ → Front (List ℕ)
parted text None = None
parted text (Some place) = Some (take place text, drop (place + 1) text)

-- a string from its delimiter on: the bytes before the same byte comes again, which may be none
abbrev pub string_from : List ℕ → Front (List ℕ)
string_from [] = None
string_from (c ∷ text) = if is_delimiter c then parted text (position (λ b. b == c) text) else None

-- a string, blanks before its delimiter passed over
unfoldable pub string_at : List ℕ → Front (List ℕ)
string_at text = string_from (past_blanks text)

-- a string's bytes, with a zero byte after them or without one
abbrev pub ascii_at : (zero : Bool) → List ℕ → Front PlainBody
ascii_at zero text = do
  string ← string_at text
  Some (plain.Ascii string.0 zero, string.1)

-- what follows the word of a directive
unfoldable pub argument_at : Directive → List ℕ → Front PlainBody
argument_at Word text = do
  values ← expressions_at text
  Some (plain.WordList values.0, values.1)
argument_at Byte text = do
  values ← expressions_at text
  Some (plain.ByteList values.0, values.1)
argument_at Ascii text = ascii_at false text
argument_at Asciz text = ascii_at true text
argument_at Blkw text = do
  count ← expression_at text
  Some (plain.Blkw count.0, count.1)
argument_at Even text = Some (plain.Even, text)
