-- Statements that the examples are worked with.
use Rattle.std.specs.Prelude.{ℕ, List, [], ◌∷◌, codes, Result}
use Rattle.bk_base.specs.Faults.{◌>>=◌}
use Rattle.bk_asm_text.specs.declared.fault.AsmFault.{AsmFault}
use Rattle.bk_asm_text.specs.Plain.{PlainLabel, Name, PlainBody, PlainStatement}
use Rattle.bk_asm.specs.Codes.{coded}
use Rattle.bk_asm.specs.Faults.{settle}
use Rattle.bk_asm.specs.Places.{start}

-- a statement of a line
abbrev pub on : (line : ℕ) → List PlainLabel → PlainBody → PlainStatement
on line labels body = record { line = line; labels = labels; body = body }

-- the label A
abbrev pub label_a : List PlainLabel
label_a = Name (codes "A") ∷ []

-- the bytes of statements from address 0 on, or their first fault
abbrev pub from_zero : List PlainStatement → Result (List ℕ) AsmFault
from_zero statements = do
  settled ← settle 0 [] (start 0) statements
  coded settled.1 [] settled.0
