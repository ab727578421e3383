-- The listing of a program.
use Rattle.std.specs.Prelude.{ℕ, zero, suc, ◌+◌, ◌*◌, ◌/◌, List, [], ◌++◌, length, take, drop, flat_map, codes, decimal}
use Rattle.bk_report.specs.Text.{octal6, words_of}
use Rattle.bk_asm.specs.Places.{as_value}
use Rattle.bk_asm.specs.declared.program.Program.{Program}
use Rattle.bk_asm.specs.declared.program.Symbol.{Symbol}

-- the line of a program: its name, its origin, and how many words it has
abbrev pub heading : (name : List ℕ) → Program → List ℕ
heading name program =
    codes "PROGRAM " ++ name ++ codes " " ++ octal6 program.origin ++ codes " " ++ decimal (length program.words) ++ codes "\n"

-- the line of a symbol
abbrev pub symbol_line : Symbol → List ℕ
symbol_line symbol = symbol.name ++ codes " " ++ octal6 symbol.value ++ codes "\n"

-- a line of words from an address on
abbrev pub word_line : (address : ℕ) → List ℕ → List ℕ
word_line address words = octal6 address ++ codes ":" ++ words_of words ++ codes "\n"

-- the first n lines of words, eight a line; an address behind the last word of memory is told modulo 65,536
abbrev pub word_lines : (n : ℕ) → Program → List ℕ
word_lines zero program = []
word_lines (suc n) program =
    word_lines n program ++ word_line (as_value (program.origin + 16 * n)) (take 8 (drop (8 * n) program.words))

-- its heading, its symbols, and its words, of which the last line may have fewer
unfoldable pub listed : (name : List ℕ) → Program → List ℕ
listed name program =
    heading name program ++ flat_map symbol_line program.symbols ++ word_lines ((length program.words + 7) / 8) program
