-- Operands, by the table of addressing.
use Rattle.std.specs.Prelude.{ℕ, ◌==◌, if◌then◌else◌, List, [], ◌∷◌, codes, Some, None}
use Rattle.std.specs.Option.{option_or}
use Rattle.bk_expr.specs.Expression.{expression_at}
use Rattle.bk_expr.specs.Tree.{Expression, Here}
use Rattle.bk_expr.specs.Names.{register_at}
use Rattle.bk_expr.specs.Text.{Front, ◌>>=◌, sign_at}
use Rattle.bk_asm_text.specs.Parts.{is_operand_end}
use Rattle.bk_asm_text.specs.Plain.{PlainOperand, Reg, Deferred, Inc, IncDeferred, Dec, DecDeferred, Index, IndexDeferred, IndexZero}
use Rattle.bk_asm_text.specs.Plain.{Immediate, Absolute, Relative, RelativeDeferred}

-- the register and the expression of a row; one that the row doesn't have isn't looked at
pub record Fields : Type 0 where
  pub reg : ℕ
  pub value : Expression

-- a row of the table: how the operand is written, R being a register and E an expression, and which it is
pub record Row : Type 0 where
  pub text : List ℕ
  pub operand : Fields → PlainOperand

-- the row of a text
abbrev pub row : List ℕ → (Fields → PlainOperand) → Row
row text operand = record { text = text; operand = operand }

-- the rows of the table, in its order
abbrev pub rows : List Row
rows =
    row (codes "R") (λ f. Reg f.reg)
    ∷ row (codes "(R)") (λ f. Deferred f.reg)
    ∷ row (codes "@R") (λ f. Deferred f.reg)
    ∷ row (codes "(R)+") (λ f. Inc f.reg)
    ∷ row (codes "@(R)+") (λ f. IncDeferred f.reg)
    ∷ row (codes "-(R)") (λ f. Dec f.reg)
    ∷ row (codes "@-(R)") (λ f. DecDeferred f.reg)
    ∷ row (codes "E(R)") (λ f. Index f.reg f.value)
    ∷ row (codes "@E(R)") (λ f. IndexDeferred f.reg f.value)
    ∷ row (codes "@(R)") (λ f. IndexZero f.reg)
    ∷ row (codes "#E") (λ f. Immediate f.value)
    ∷ row (codes "@#E") (λ f. Absolute f.value)
    ∷ row (codes "E") (λ f. Relative f.value)
    ∷ row (codes "@E") (λ f. RelativeDeferred f.value)
    ∷ []

-- a letter of a row's text at the front: R is a register, E an expression, and each other byte itself
abbrev pub letter_at : ℕ → Fields → List ℕ → Front Fields
letter_at c fields text =
    if c == 82 then register_at text >>= (λ reg. Some (record fields { reg = reg.0 }, reg.1))
    else if c == 69 then expression_at text >>= (λ value. Some (record fields { value = value.0 }, value.1))
    else sign_at c text >>= (λ rest. Some (fields, rest))

-- all letters of a row's text, one after another
abbrev pub letters_at : List ℕ → Fields → List ℕ → Front Fields
letters_at [] fields text = Some (fields, text)
letters_at (c ∷ letters) fields text = letter_at c fields text >>= (λ read. letters_at letters read.0 read.1)

-- the operand of a row, where it is written so and the operand ends after it
abbrev pub row_at : Row → List ℕ → Front PlainOperand
row_at row text = do
  read ← letters_at row.text (record { reg = 0; value = Here }) text
  if is_operand_end read.1 then Some (row.operand read.0, read.1) else None

-- the operand by the first of some rows
abbrev pub by_rows : List Row → List ℕ → Front PlainOperand
by_rows [] text = None
by_rows (row ∷ rows) text = option_or (row_at row text) (by_rows rows text)

-- the operand at the front of a text
unfoldable pub operand_at : List ℕ → Front PlainOperand
operand_at text = by_rows rows text
