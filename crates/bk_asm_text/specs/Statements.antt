-- The statement that a line says, and the statements of a text, or its first fault.
use Rattle.std.specs.Prelude.{ℕ, ◌+◌, ◌-◌, ◌^◌, ◌==◌, min, if◌then◌else◌, List, [], ◌∷◌, ◌++◌, Option, Some, None, option_map, Result, Ok}
use Rattle.std.specs.List.{list_all, slice_split}
use Rattle.std.specs.Option.{option_or}
use Rattle.bk_expr.specs.Expression.{expression_at}
use Rattle.bk_expr.specs.Names.{mnemonic_of, name_of, local_of}
use Rattle.bk_expr.specs.Text.{Front, ◌>>=◌, is_of_text, run_at, in_run, sign_at}
use Rattle.bk_isa.specs.declared.mnemonic.Mnemonic.{Mnemonic}
use Rattle.bk_asm_text.specs.declared.directive.Directive.{Directive}
use Rattle.bk_asm_text.specs.declared.fault.AsmFault.{AsmFault}
use Rattle.bk_asm_text.specs.declared.fault.AsmKind.TheVariants as kind
use Rattle.bk_asm_text.specs.Directives.{directive_of, argument_at}
use Rattle.bk_asm_text.specs.Fault.{fault}
use Rattle.bk_asm_text.specs.Forms.{fields_at}
use Rattle.bk_asm_text.specs.Parts.{is_end, all_of}
use Rattle.bk_asm_text.specs.Plain.{PlainBody, Nothing, Assign, PlainLabel, Name, Local, PlainStatement}

-- the label that a run is: a name, or a local label
unfoldable pub label_of_run : List ℕ → Option PlainLabel
label_of_run run = option_or (option_map Name (name_of run)) (option_map Local (local_of run))

-- a label and its colon
unfoldable pub label_at : List ℕ → Front PlainLabel
label_at text = do
  label ← in_run label_of_run text
  rest ← sign_at 58 label.1
  Some (label.0, rest)

-- an assignment to a run, from behind its = on
unfoldable pub assignment_at : (run : List ℕ) → List ℕ → Front PlainBody
assignment_at run text = do
  name ← name_of run
  value ← expression_at text
  Some (Assign name value.0, value.1)

-- an instruction or a directive, by its word, from behind the word on
abbrev pub by_word : Option Mnemonic → Option Directive → List ℕ → Front PlainBody
by_word (Some mnemonic) directive text = fields_at mnemonic.form mnemonic.base text
by_word None (Some directive) text = argument_at directive text
by_word None None text = None

-- .. by the run that it is
abbrev pub by_run : (run : List ℕ) → List ℕ → Front PlainBody
by_run run text = by_word (mnemonic_of run) (directive_of run) text

-- a run and what follows it: = makes it an assignment, else the run is an instruction's word or a directive's
abbrev pub after_run : (run : List ℕ) → List ℕ → (equals : Option (List ℕ)) → Front PlainBody
after_run run text (Some rest) = assignment_at run rest
after_run run text None = by_run run text

-- an assignment, an instruction or a directive
unfoldable pub body_at : List ℕ → Front PlainBody
body_at text = after_run (run_at text).0 (run_at text).1 (sign_at 61 (run_at text).1)

-- what stands behind the labels: nothing, an assignment, an instruction or a directive, and then at most a comment
unfoldable pub body_of : List ℕ → Option PlainBody
body_of text =
    if is_end text then Some Nothing
    else body_at text >>= (λ body. if is_end body.1 then Some body.0 else None)

-- the statement with these labels and what stands behind them
abbrev pub statement_with : (at : ℕ) → List PlainLabel × List ℕ → Option PlainStatement
statement_with at labels = option_map (λ body. record { line = at; labels = labels.0; body = body }) (body_of labels.1)

-- the statement that a line says, by its number: all bytes are of the text, any number of labels, and what stands behind them
unfoldable pub statement_of : (at : ℕ) → List ℕ → Option PlainStatement
statement_of at line = if list_all is_of_text line then statement_with at (all_of label_at line) else None

-- the labels of a line, and what its statement is
abbrev pub says : List ℕ → Option (List PlainLabel × PlainBody)
says line = option_map (λ statement. (statement.labels, statement.body)) (statement_of 1 line)

-- the parts between LFs, but for an empty last one
abbrev pub without_last : List (List ℕ) → List (List ℕ)
without_last [] = []
without_last ([] ∷ []) = []
without_last ([] ∷ next ∷ parts) = [] ∷ without_last (next ∷ parts)
without_last ((c ∷ part) ∷ parts) = (c ∷ part) ∷ without_last parts

-- the lines of a text: each ends with an LF, which the last may lack
unfoldable pub lines_of : List ℕ → List (List ℕ)
lines_of text = without_last (slice_split (λ b. b == 10) text)

-- the number of the next line; it stands at the last value of 32 bits
abbrev pub next_line : (at : ℕ) → ℕ
next_line at = min (at + 1) (2 ^ 32 - 1)

-- a line's statement behind those before it, and the others; or a fault at the line
abbrev pub then_others : (at : ℕ) → List PlainStatement → Option PlainStatement → (List PlainStatement → Result (List PlainStatement) AsmFault) → Result (List PlainStatement) AsmFault
then_others at before None others = fault at kind.Form
then_others at before (Some statement) others = others (before ++ statement ∷ [])

-- the statements of lines from the one numbered at, behind those before them; or the fault of the first line outside the grammar
unfoldable pub statements_at : (at : ℕ) → List PlainStatement → List (List ℕ) → Result (List PlainStatement) AsmFault
statements_at at before [] = Ok before
statements_at at before (line ∷ lines) = then_others at before (statement_of at line) (λ more. statements_at (next_line at) more lines)

-- the statements of a text, one a line; or its first fault
unfoldable pub statements_of : List ℕ → Result (List PlainStatement) AsmFault
statements_of text = statements_at 1 [] (lines_of text)
