-- Operands as they are read: by the part that they begin with, and behind @ the same once more, deferred.
use Rattle.std.specs.Prelude.{ℕ, if◌then◌else◌, List, Option, Some, None, option_map}
use Rattle.std.specs.Option.{option_or}
use Rattle.bk_expr.specs.Expression.{expression_at}
use Rattle.bk_expr.specs.Tree.{Expression}
use Rattle.bk_expr.specs.Names.{register_at}
use Rattle.bk_expr.specs.Text.{Front, ◌>>=◌, sign_at}
use Rattle.bk_asm_text.specs.Parts.{is_operand_end}
use Rattle.bk_asm_text.specs.Plain.{PlainOperand, Reg, Deferred, Inc, IncDeferred, Dec, DecDeferred, Index, IndexDeferred, IndexZero}
use Rattle.bk_asm_text.specs.Plain.{Immediate, Absolute, Relative, RelativeDeferred}

-- (R)
unfoldable pub enclosed_at : List ℕ → Front ℕ
enclosed_at text = do
  opened ← sign_at 40 text
  reg ← register_at opened
  closed ← sign_at 41 reg.1
  Some (reg.0, closed)

-- (R)+ where + follows, else (R)
abbrev pub stepped : ℕ → List ℕ → Option (List ℕ) → PlainOperand × List ℕ
stepped reg text None = (Deferred reg, text)
stepped reg text (Some rest) = (Inc reg, rest)

-- a register's own operand, one by a register in brackets, or none
abbrev pub register_or : Front ℕ → Front ℕ → Front PlainOperand → Front PlainOperand
register_or (Some reg) enclosed other = Some (Reg reg.0, reg.1)
register_or None (Some reg) other = Some (stepped reg.0 reg.1 (sign_at 43 reg.1))
register_or None None other = other

-- R, (R), (R)+ or -(R)
unfoldable pub register_operand_at : List ℕ → Front PlainOperand
register_operand_at text = register_or (register_at text) (enclosed_at text) (
    sign_at 45 text >>= (λ rest. enclosed_at rest >>= (λ reg. Some (Dec reg.0, reg.1))))

-- E(R) where a register in brackets follows, else E
abbrev pub indexed : Expression → List ℕ → Front ℕ → PlainOperand × List ℕ
indexed value text None = (Relative value, text)
indexed value text (Some reg) = (Index reg.0 value, reg.1)

-- #E where # stands first, else E(R) or E
abbrev pub value_after : Option (List ℕ) → List ℕ → Front PlainOperand
value_after (Some rest) text = expression_at rest >>= (λ value. Some (Immediate value.0, value.1))
value_after None text = expression_at text >>= (λ value. Some (indexed value.0 value.1 (enclosed_at value.1)))

-- #E, E(R) or E
unfoldable pub value_operand_at : List ℕ → Front PlainOperand
value_operand_at text = value_after (sign_at 35 text) text

-- an operand that ends
unfoldable pub closed : Front PlainOperand → Front PlainOperand
closed front = front >>= (λ read. if is_operand_end read.1 then Some read else None)

-- an operand without @
unfoldable pub direct_at : List ℕ → Front PlainOperand
direct_at text = option_or (closed (register_operand_at text)) (closed (value_operand_at text))

-- the operand that one is behind @; one that is deferred stays
abbrev pub deferred : PlainOperand → PlainOperand
deferred (Reg reg) = Deferred reg
deferred (Deferred reg) = IndexZero reg
deferred (Inc reg) = IncDeferred reg
deferred (IncDeferred reg) = IncDeferred reg
deferred (Dec reg) = DecDeferred reg
deferred (DecDeferred reg) = DecDeferred reg
deferred (Index reg value) = IndexDeferred reg value
deferred (IndexDeferred reg value) = IndexDeferred reg value
deferred (IndexZero reg) = IndexZero reg
deferred (Immediate value) = Absolute value
deferred (Absolute value) = Absolute value
deferred (Relative value) = RelativeDeferred value
deferred (RelativeDeferred value) = RelativeDeferred value

-- an operand by whether @ stands first
abbrev pub by_at : Option (List ℕ) → List ℕ → Front PlainOperand
by_at None text = direct_at text
by_at (Some rest) text = option_map (λ read. (deferred read.0, read.1)) (direct_at rest)
