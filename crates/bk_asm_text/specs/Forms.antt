-- The fields of instructions, one row a form.
use Rattle.std.specs.Prelude.{ℕ, if◌then◌else◌, List, Some, None}
use Rattle.bk_expr.specs.Expression.{expression_at}
use Rattle.bk_isa.specs.declared.mnemonic.Form.{Form}
use Rattle.bk_isa.specs.declared.mnemonic.Form.TheVariants as form
use Rattle.bk_asm_text.specs.Operands.{operand_at}
use Rattle.bk_expr.specs.Names.{register_at}
use Rattle.bk_expr.specs.Text.{Front, ◌>>=◌, sign_at}
use Rattle.bk_asm_text.specs.Parts.{is_end}
use Rattle.bk_asm_text.specs.Plain.{PlainOperand, PlainBody, Double, Eis, Xor, Jsr, Single, Rts, Sob, Branch, Mark, Spl, Number, Alone}

-- src and the comma after it
unfoldable pub source_at : List ℕ → Front PlainOperand
source_at text = do
  src ← operand_at text
  rest ← sign_at 44 src.1
  Some (src.0, rest)

-- R and the comma after it
unfoldable pub first_register_at : List ℕ → Front ℕ
first_register_at text = do
  reg ← register_at text
  rest ← sign_at 44 reg.1
  Some (reg.0, rest)

-- the fields of an instruction, by its form and its word with all fields 0
unfoldable pub fields_at : Form → (base : ℕ) → List ℕ → Front PlainBody
-- OP src,dst
fields_at form.Double base text = do
  src ← source_at text
  dst ← operand_at src.1
  Some (Double base src.0 dst.0, dst.1)
-- OP src,R
fields_at form.Eis base text = do
  src ← source_at text
  reg ← register_at src.1
  Some (Eis base src.0 reg.0, reg.1)
-- XOR R,dst
fields_at form.Xor base text = do
  reg ← first_register_at text
  dst ← operand_at reg.1
  Some (Xor reg.0 dst.0, dst.1)
-- JSR R,dst
fields_at form.Jsr base text = do
  reg ← first_register_at text
  dst ← operand_at reg.1
  Some (Jsr reg.0 dst.0, dst.1)
-- OP dst
fields_at form.Single base text = do
  dst ← operand_at text
  Some (Single base dst.0, dst.1)
-- RTS R
fields_at form.Rts base text = do
  reg ← register_at text
  Some (Rts reg.0, reg.1)
-- SOB R,E
fields_at form.Sob base text = do
  reg ← first_register_at text
  to ← expression_at reg.1
  Some (Sob reg.0 to.0, to.1)
-- OP E
fields_at form.Branch base text = do
  to ← expression_at text
  Some (Branch base to.0, to.1)
-- MARK E
fields_at form.Mark base text = do
  count ← expression_at text
  Some (Mark count.0, count.1)
-- SPL E
fields_at form.Spl base text = do
  level ← expression_at text
  Some (Spl level.0, level.1)
-- OP E, or OP alone
fields_at form.Number base text =
    if is_end text then Some (Number base None, text)
    else expression_at text >>= (λ n. Some (Number base (Some n.0), n.1))
-- OP alone
fields_at form.Alone base text = Some (Alone base, text)
