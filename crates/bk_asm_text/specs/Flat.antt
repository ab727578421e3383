-- What statements in memory say. Their labels and their expressions lie in lists of their own, from which each takes those that are
-- its, in order.
use Rattle.std.specs.Prelude.{◌≡◌, ℕ, Bool, true, false, if◌then◌else◌, List, [], ◌∷◌, length, map, sum_by, take, drop, Some, None}
use Rattle.bk_expr.specs.Names.{upper_case}
use Rattle.bk_expr.specs.Tree.{Expression, Here, plain}
use Rattle.bk_expr.specs.declared.tree.Expr.{Expr}
use Rattle.bk_asm_text.specs.declared.operand.Operand.{Operand}
use Rattle.bk_asm_text.specs.declared.operand.Operand.TheVariants as operand
use Rattle.bk_asm_text.specs.declared.statement.Label.{Label}
use Rattle.bk_asm_text.specs.declared.statement.Label.TheVariants as label
use Rattle.bk_asm_text.specs.declared.statement.Body.{Body}
use Rattle.bk_asm_text.specs.declared.statement.Body.TheVariants as body
use Rattle.bk_asm_text.specs.declared.statement.Statement.{Statement}
use Rattle.bk_asm_text.specs.declared.statements.Head.{Head}
use Rattle.bk_asm_text.specs.declared.statements.Rest.{Rest}
use Rattle.bk_asm_text.specs.declared.statements.Statements.{Statements}
use Rattle.bk_asm_text.specs.Plain.{PlainLabel, Name, Local}
use Rattle.bk_asm_text.specs.Plain.{PlainOperand, Reg, Deferred, Inc, IncDeferred, Dec, DecDeferred, Index, IndexDeferred, IndexZero}
use Rattle.bk_asm_text.specs.Plain.{Immediate, Absolute, Relative, RelativeDeferred}
use Rattle.bk_asm_text.specs.Plain.{PlainBody, Nothing, Assign, Double, Eis, Xor, Jsr, Single, Rts, Sob, Branch, Mark, Spl, Number, Alone}
use Rattle.bk_asm_text.specs.Plain.{WordList, ByteList, Ascii, Blkw, Even, PlainStatement}

-- a label; a name lies in memory as it is written
abbrev pub plain_label : Label → PlainLabel
plain_label (label.Name name) = Name (upper_case name.now)
plain_label (label.Local n) = Local n

-- the first of a statement's expressions; where there is none, `.`
abbrev pub first : List Expression → Expression
first [] = Here
first (value ∷ values) = value

-- an operand with its expression, the first of these
abbrev pub operand_with : Operand → List Expression → PlainOperand
operand_with (operand.Reg reg) values = Reg reg
operand_with (operand.Deferred reg) values = Deferred reg
operand_with (operand.Inc reg) values = Inc reg
operand_with (operand.IncDeferred reg) values = IncDeferred reg
operand_with (operand.Dec reg) values = Dec reg
operand_with (operand.DecDeferred reg) values = DecDeferred reg
operand_with (operand.Index reg) values = Index reg (first values)
operand_with (operand.IndexDeferred reg) values = IndexDeferred reg (first values)
operand_with (operand.IndexZero reg) values = IndexZero reg
operand_with operand.Immediate values = Immediate (first values)
operand_with operand.Absolute values = Absolute (first values)
operand_with operand.Relative values = Relative (first values)
operand_with operand.RelativeDeferred values = RelativeDeferred (first values)

-- an operand has an expression
abbrev pub has_value : Operand → Bool
has_value (operand.Reg reg) = false
has_value (operand.Deferred reg) = false
has_value (operand.Inc reg) = false
has_value (operand.IncDeferred reg) = false
has_value (operand.Dec reg) = false
has_value (operand.DecDeferred reg) = false
has_value (operand.Index reg) = true
has_value (operand.IndexDeferred reg) = true
has_value (operand.IndexZero reg) = false
has_value operand.Immediate = true
has_value operand.Absolute = true
has_value operand.Relative = true
has_value operand.RelativeDeferred = true

-- the expressions behind those of an operand
abbrev pub behind_operand : Operand → List Expression → List Expression
behind_operand operand values = if has_value operand then drop 1 values else values

-- what a statement is, by its expressions in order
abbrev pub body_with : Body → List Expression → PlainBody
body_with body.Nothing values = Nothing
body_with (body.Assign name) values = Assign (upper_case name.now) (first values)
body_with (body.Double base src dst) values = Double base (operand_with src values) (operand_with dst (behind_operand src values))
body_with (body.Eis base src reg) values = Eis base (operand_with src values) reg
body_with (body.Xor reg dst) values = Xor reg (operand_with dst values)
body_with (body.Jsr reg dst) values = Jsr reg (operand_with dst values)
body_with (body.Single base dst) values = Single base (operand_with dst values)
body_with (body.Rts reg) values = Rts reg
body_with (body.Sob reg) values = Sob reg (first values)
body_with (body.Branch base) values = Branch base (first values)
body_with body.Mark values = Mark (first values)
body_with body.Spl values = Spl (first values)
body_with (body.Number base given) values = Number base (if given then Some (first values) else None)
body_with (body.Alone base) values = Alone base
body_with body.WordList values = WordList values
body_with body.ByteList values = ByteList values
body_with (body.Ascii text zero) values = Ascii text.now zero
body_with body.Blkw values = Blkw (first values)
body_with body.Even values = Even

-- what a line says, by its labels and its expressions
abbrev pub said : (line : ℕ) → List Label → List Expr → Body → PlainStatement
said line labels values body = record { line = line; labels = map plain_label labels; body = body_with body (map plain values) }

-- the same of a statement
abbrev pub plain_statement : Statement → PlainStatement
plain_statement statement = said statement.line statement.labels.now statement.values.now statement.body

-- .. of several, of which each has so many labels and expressions at the front of those that are left
abbrev pub all_said : List Head → List Label → List Expr → List PlainStatement
all_said [] labels values = []
all_said (head ∷ heads) labels values =
    said head.line (take head.labels labels) (take head.values values) head.body
    ∷ all_said heads (drop head.labels labels) (drop head.values values)

-- .. of a text's
unfoldable pub plain_statements : Statements → List PlainStatement
plain_statements statements = all_said statements.heads.items statements.labels.items statements.values.items

-- .. of those that are left of them
unfoldable pub plain_rest : Rest → List PlainStatement
plain_rest rest = all_said rest.heads.now rest.labels.now rest.values.now

-- all labels and expressions are of statements
pub record Fits (statements : Statements) : Type 0 where
  pub labels : sum_by (λ head. head.labels) statements.heads.items ≡ length statements.labels.items
  pub values : sum_by (λ head. head.values) statements.heads.items ≡ length statements.values.items
