-- What reading a part of a statement adds to its expressions.
use Rattle.std.specs.Prelude.{◌≡◌, ℕ, Bool, true, false, if◌then◌else◌, List, [], ◌∷◌, ◌++◌, Option, Some, None}
use Rattle.bk_expr.specs.Expression.{expression_at}
use Rattle.bk_expr.specs.Text.{Front, ◌>>=◌}
use Rattle.bk_expr.specs.Tree.{Expression}
use Rattle.bk_asm_text.specs.declared.operand.Operand.{Operand}
use Rattle.bk_asm_text.specs.declared.operand.Operand.TheVariants as operand
use Rattle.bk_asm_text.specs.declared.statement.Body.{Body}
use Rattle.bk_asm_text.specs.Addressing.{deferred}
use Rattle.bk_asm_text.specs.Flat.{body_with, has_value, operand_with}
use Rattle.bk_asm_text.specs.Plain.{PlainBody, PlainOperand}

-- an expression that was found stands behind the others, and so much of the text is left
pub record ReadsValue (before after : List Expression) (rest : List ℕ) (found : Front Expression) : Type 0 where
  pub value : Expression
  pub added : after ≡ before ++ value ∷ []
  pub read : found ≡ Some (value, rest)

-- .. where one was read; else none was found
abbrev pub ValueRead : (before after : List Expression) → Option (List ℕ) → Front Expression → Type 0
ValueRead before after None found = found ≡ None
ValueRead before after (Some rest) found = ReadsValue before after rest found

-- the expressions that an operand has, by the one that it may have
abbrev pub values_of : Operand → Expression → List Expression
values_of operand value = if has_value operand then value ∷ [] else []

-- an operand that was found, and its expression behind the others
pub record ReadsOperand (before after : List Expression) (operand : Operand) (rest : List ℕ) (found : Front PlainOperand) : Type 0 where
  pub value : Expression
  pub added : after ≡ before ++ values_of operand value
  pub read : found ≡ Some (operand_with operand (values_of operand value), rest)

-- .. where one was read; else none was found
abbrev pub OperandRead : (before after : List Expression) → Front Operand → Front PlainOperand → Type 0
OperandRead before after None found = found ≡ None
OperandRead before after (Some read) found = ReadsOperand before after read.0 read.1 found

-- E(R) where a register in brackets follows, else E
abbrev pub indexed_by : List ℕ → Front ℕ → Operand × List ℕ
indexed_by text None = (operand.Relative, text)
indexed_by text (Some reg) = (operand.Index reg.0, reg.1)

-- @ stands first, and the text behind it; or it doesn't, and the whole text
abbrev pub at_by : Option (List ℕ) → List ℕ → Bool × List ℕ
at_by None text = (false, text)
at_by (Some rest) text = (true, rest)

-- an operand behind @, or not
abbrev pub deferred_if : (at : Bool) → PlainOperand → PlainOperand
deferred_if at operand = if at then deferred operand else operand

-- what a statement is whose only expression stands at the front of a text
abbrev pub with_value_at : Body → List ℕ → Front PlainBody
with_value_at body text = expression_at text >>= (λ value. Some (body_with body (value.0 ∷ []), value.1))
