-- The lines of a text before its first one outside the grammar.
use Rattle.std.specs.Prelude.{ℕ, List, [], ◌∷◌, ◌++◌, Option, Some, None}
use Rattle.bk_asm_text.specs.declared.fault.AsmFault.{AsmFault}
use Rattle.bk_asm_text.specs.declared.fault.AsmKind.TheVariants as kind
use Rattle.bk_asm_text.specs.declared.splitting.Front.{Front}
use Rattle.bk_asm_text.specs.Fault.{fault_at}
use Rattle.bk_asm_text.specs.Flat.{plain_statements}
use Rattle.bk_asm_text.specs.Plain.{PlainStatement}
use Rattle.bk_asm_text.specs.Statements.{lines_of, next_line, statement_of}

-- the statements of these lines, and the fault of the one outside the grammar, if there is one
pub record Before : Type 0 where
  pub statements : List PlainStatement
  pub fault : Option AsmFault

-- a line's statement behind those before it, and the others; or the fault of the line
abbrev pub before_or : (at : ℕ) → List PlainStatement → Option PlainStatement → (List PlainStatement → Before) → Before
before_or at before None others = record { statements = before; fault = Some (fault_at at kind.Form) }
before_or at before (Some statement) others = others (before ++ statement ∷ [])

-- .. of lines from the one numbered at, behind those before them
unfoldable pub before_at : (at : ℕ) → List PlainStatement → List (List ℕ) → Before
before_at at before [] = record { statements = before; fault = None }
before_at at before (line ∷ lines) = before_or at before (statement_of at line) (λ more. before_at (next_line at) more lines)

-- .. of a text
unfoldable pub before_fault : List ℕ → Before
before_fault text = before_at 1 [] (lines_of text)

-- the same of what is in memory
abbrev pub plain_front : Front → Before
plain_front front = record { statements = plain_statements front.statements; fault = front.fault }
