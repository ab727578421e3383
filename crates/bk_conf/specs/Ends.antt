-- When a line ends a program, seen from its front.
use Rattle.std.specs.Prelude.{◌==◌, Bool, true, false, ◌&&◌, [], ◌∷◌, codes}
use Rattle.bk_expr.specs.Text.{past_blanks}
use Rattle.bk_conf.specs.Lines.{Text}

-- nothing is left, or a comment
abbrev pub is_comment : Text → Bool
is_comment [] = true
is_comment (b ∷ text) = b == 59

-- nothing is left but blanks and a comment
abbrev pub is_over : Text → Bool
is_over text = is_comment (past_blanks text)

-- the word stands at the front, and nothing but blanks and a comment behind it
unfoldable pub is_alone : (word : Text) → Text → Bool
is_alone [] text = is_over text
is_alone (w ∷ word) [] = false
is_alone (w ∷ word) (b ∷ text) = b == w && is_alone word text

-- the line ends a program: behind blanks `endprogram` stands, alone
abbrev pub ends_program : Text → Bool
ends_program line = is_alone (codes "endprogram") (past_blanks line)
