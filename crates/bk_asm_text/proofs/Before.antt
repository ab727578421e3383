-- The lines before the first one outside the grammar, by the first line; and the statements of a text by them.
use Rattle.std.proofs.Common.{◌≡◌, ℕ, List, [], ◌∷◌, ◌++◌, Some, None, Ok, Err, refl, ap}
use Rattle.std.specs.Prelude.{Option, Result}
use Rattle.bk_asm_text.specs.declared.fault.AsmFault.{AsmFault}
use Rattle.bk_asm_text.specs.declared.fault.AsmKind.TheVariants as kind
use Rattle.bk_asm_text.specs.Before.{Before, before_or, before_at, before_fault}
use Rattle.bk_asm_text.specs.Fault.{fault_at}
use Rattle.bk_asm_text.specs.Plain.{PlainStatement}
use Rattle.bk_asm_text.specs.Statements.{statement_of, next_line, then_others, statements_at, lines_of, statements_of}

-- a line that says a statement
pub before_some : (at : ℕ) (before : List PlainStatement) (line : List ℕ) (lines : List (List ℕ)) (statement : PlainStatement) → statement_of at line ≡ Some statement
    → before_at at before (line ∷ lines) ≡ before_at (next_line at) (before ++ statement ∷ []) lines
unfolding before_at
before_some at before line lines statement e =
    ap (λ (o : Option PlainStatement). before_or at before o (λ more. before_at (next_line at) more lines)) e

-- a line outside the grammar
pub before_none : (at : ℕ) (before : List PlainStatement) (line : List ℕ) (lines : List (List ℕ)) → statement_of at line ≡ None
    → before_at at before (line ∷ lines) ≡ record { statements = before; fault = Some (fault_at at kind.Form) }
unfolding before_at
before_none at before line lines e =
    ap (λ (o : Option PlainStatement). before_or at before o (λ more. before_at (next_line at) more lines)) e

-- no line is left
pub before_end : (at : ℕ) (before : List PlainStatement) → before_at at before [] ≡ record { statements = before; fault = None }
unfolding before_at
before_end at before = refl

-- all statements where there is no fault, else the fault
abbrev pub whole_with : List PlainStatement → Option AsmFault → Result (List PlainStatement) AsmFault
whole_with statements None = Ok statements
whole_with statements (Some fault) = Err fault

abbrev pub whole : Before → Result (List PlainStatement) AsmFault
whole before = whole_with before.statements before.fault

pub whole_none : (before : Before) → before.fault ≡ None → whole before ≡ Ok before.statements
whole_none before none = ap (whole_with before.statements) none

whole_at : (at : ℕ) (before : List PlainStatement) (lines : List (List ℕ)) → statements_at at before lines ≡ whole (before_at at before lines)
unfolding statements_at before_at
whole_at at before [] = refl
whole_at at before (line ∷ lines) = by (statement_of at line) (λ more. whole_at (next_line at) more lines) where
  by : (o : Option PlainStatement) → ((more : List PlainStatement) → statements_at (next_line at) more lines ≡ whole (before_at (next_line at) more lines))
      → then_others at before o (λ more. statements_at (next_line at) more lines) ≡ whole (before_or at before o (λ more. before_at (next_line at) more lines))
  by None rest = refl
  by (Some statement) rest = rest (before ++ statement ∷ [])

-- the statements of a text are those before its first line outside the grammar, where there is none
pub statements_whole : (text : List ℕ) → statements_of text ≡ whole (before_fault text)
unfolding statements_of before_fault
statements_whole text = whole_at 1 [] (lines_of text)
