-- The program that a text is, or its first fault.
use Rattle.std.specs.Prelude.{ℕ, ◌+◌, ◌*◌, ◌^◌, List, [], ◌∷◌, map, Option, Some, None, Result, Ok, Err}
use Rattle.bk_base.specs.Faults.{◌>>=◌}
use Rattle.bk_asm_text.specs.declared.fault.AsmFault.{AsmFault}
use Rattle.bk_asm_text.specs.Before.{before_fault}
use Rattle.bk_asm.specs.declared.program.Program.{Program}
use Rattle.bk_asm.specs.declared.program.Symbol.{Symbol}
use Rattle.bk_asm.specs.Codes.{coded}
use Rattle.bk_asm.specs.Faults.{settle}
use Rattle.bk_asm.specs.Names.{Defined}
use Rattle.bk_asm.specs.Places.{start}

-- bytes as words, low byte first; a zero byte is added where one is missing
abbrev pub words_of : List ℕ → List ℕ
words_of [] = []
words_of (low ∷ []) = low ∷ []
words_of (low ∷ high ∷ bytes) = (low + 2 ^ 8 * high) ∷ words_of bytes

-- a name with its value
abbrev pub symbol : List ℕ × ℕ → Symbol
symbol entry = record { name = entry.0; value = entry.1 }

-- the names with their values, in byte order
abbrev pub symbols_of : Defined → List Symbol
symbols_of defined = map symbol defined.names

-- nothing was at fault, or a line outside the grammar
abbrev pub none_outside : Option AsmFault → Result (Unit {0}) AsmFault
none_outside None = Ok tt
none_outside (Some fault) = Err fault

-- the lines before the first one outside the grammar are settled, then there is no such line, then words are made
unfoldable pub assembled : List ℕ → (origin : ℕ) → Result Program AsmFault
assembled text origin = do
  let front = before_fault text
  settled ← settle origin [] (start origin) front.statements
  passed ← none_outside front.fault
  bytes ← coded settled.1 [] settled.0
  Ok (record { origin = origin; words = words_of bytes; symbols = symbols_of settled.1 })
