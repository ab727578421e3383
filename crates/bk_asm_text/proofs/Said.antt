-- The statements of lines, by the first line.
use Rattle.std.proofs.Common.{◌≡◌, ℕ, ◌+◌, List, [], ◌∷◌, ◌++◌, length, Some, None, Ok, Err, refl, ap, arith, length-append}
use Rattle.std.specs.Prelude.{Option, Result, IfOk}
use Rattle.bk_base.specs.Faults.{Gives}
use Rattle.bk_base.specs.declared.stop.Stop.{Stop}
use Rattle.bk_asm_text.specs.declared.fault.AsmFault.{AsmFault}
use Rattle.bk_asm_text.specs.declared.fault.AsmKind.TheVariants as kind
use Rattle.bk_asm_text.specs.declared.statements.Statements.{Statements}
use Rattle.bk_asm_text.specs.Fault.{fault}
use Rattle.bk_asm_text.specs.Flat.{plain_statements}
use Rattle.bk_asm_text.specs.Plain.{PlainStatement}
use Rattle.bk_asm_text.specs.Statements.{statement_of, next_line, then_others, statements_at, lines_of, statements_of}

-- a line that says a statement
pub statements_some : (at : ℕ) (before : List PlainStatement) (line : List ℕ) (lines : List (List ℕ)) (statement : PlainStatement) → statement_of at line ≡ Some statement
    → statements_at at before (line ∷ lines) ≡ statements_at (next_line at) (before ++ statement ∷ []) lines
unfolding statements_at
statements_some at before line lines statement e =
    ap (λ (o : Option PlainStatement). then_others at before o (λ more. statements_at (next_line at) more lines)) e

-- a line outside the grammar
pub statements_none : (at : ℕ) (before : List PlainStatement) (line : List ℕ) (lines : List (List ℕ)) → statement_of at line ≡ None
    → statements_at at before (line ∷ lines) ≡ fault at kind.Form
unfolding statements_at
statements_none at before line lines e =
    ap (λ (o : Option PlainStatement). then_others at before o (λ more. statements_at (next_line at) more lines)) e

-- no line is left
pub statements_end : (at : ℕ) (before : List PlainStatement) → statements_at at before [] ≡ Ok before
unfolding statements_at
statements_end at before = refl

-- one statement a line
pub statements-length : (at : ℕ) (before : List PlainStatement) (lines : List (List ℕ)) (all : List PlainStatement) → statements_at at before lines ≡ Ok all
    → length all ≡ length before + length lines
unfolding statements_at
statements-length at before [] all e =
    let same : ◌≡◌ {A = Result (List PlainStatement) AsmFault} (Ok before) (Ok all) = e in
    let alike : before ≡ all = cc in
    let long = ap length alike in
    omega (arith, long)
statements-length at before (line ∷ lines) all e =
    by (statement_of at line) e (λ more h. statements-length (next_line at) more lines all h) where
      by : (o : Option PlainStatement) → then_others at before o (λ more. statements_at (next_line at) more lines) ≡ Ok all
          → ((more : List PlainStatement) → statements_at (next_line at) more lines ≡ Ok all → length all ≡ length more + length lines)
          → length all ≡ length before + length (line ∷ lines)
      by None e rest = let bad : ◌≡◌ {A = Result (List PlainStatement) AsmFault} (fault at kind.Form) (Ok all) = e in absurd (cc)
      by (Some statement) e rest =
          let long : length all ≡ length (before ++ statement ∷ []) + length lines = rest (before ++ statement ∷ []) e in
          omega (arith, long, length-append before (statement ∷ []))

pub one_a_line : (result : Result Statements (Stop AsmFault)) (text : List ℕ) → Gives plain_statements result (statements_of text)
    → IfOk result (λ statements. length (plain_statements statements) ≡ length (lines_of text))
unfolding statements_of
one_a_line (Ok statements) text read =
    let long : length (plain_statements statements) ≡ 0 + length (lines_of text) = statements-length 1 [] (lines_of text) (plain_statements statements) read in
    omega (arith, long)
one_a_line (Err stop) text read = tt
