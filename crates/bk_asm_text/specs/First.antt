-- The first line of a text that is outside the grammar.
use Rattle.std.specs.Prelude.{◌≡◌, ◌≢◌, ℕ, ◌+◌, ◌-◌, ◌^◌, min, List, ◌∷◌, ◌++◌, length, None}
use Rattle.std.specs.List.{AllByRecursion}
use Rattle.bk_asm_text.specs.declared.fault.AsmFault.{AsmFault}
use Rattle.bk_asm_text.specs.declared.fault.AsmKind.TheVariants as kind
use Rattle.bk_asm_text.specs.Fault.{fault_at}
use Rattle.bk_asm_text.specs.Statements.{says, lines_of}

-- the line says a statement
abbrev pub IsInside : List ℕ → Type 0
IsInside line = says line ≢ None

-- the number of the line behind so many others, from 1; it stands at the last value of 32 bits
abbrev pub number_behind : ℕ → ℕ
number_behind before = min (before + 1) (2 ^ 32 - 1)

-- a line of the text is outside the grammar and those before it are inside; the fault is told of its number
pub record IsFirstOutside (text : List ℕ) (fault : AsmFault) : Type 0 where
  pub before : List (List ℕ)
  pub line : List ℕ
  pub behind : List (List ℕ)
  pub lines : lines_of text ≡ before ++ line ∷ behind
  pub inside : AllByRecursion IsInside before
  pub outside : says line ≡ None
  pub told : fault ≡ fault_at (number_behind (length before)) kind.Form
