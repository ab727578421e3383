-- What a line says, as a plain value.
use Rattle.std.specs.Prelude.{ℕ, Bool, List, Option}
use Rattle.bk_expr.specs.Tree.{Expression}

-- a label: a name in upper case, or a local label by its number
pub data PlainLabel : Type 0 where
  Name : (name : List ℕ) → PlainLabel
  Local : (n : ℕ) → PlainLabel

-- an operand, in the order of the table
pub data PlainOperand : Type 0 where
  Reg : (reg : ℕ) → PlainOperand
  Deferred : (reg : ℕ) → PlainOperand
  Inc : (reg : ℕ) → PlainOperand
  IncDeferred : (reg : ℕ) → PlainOperand
  Dec : (reg : ℕ) → PlainOperand
  DecDeferred : (reg : ℕ) → PlainOperand
  Index : (reg : ℕ) → (value : Expression) → PlainOperand
  IndexDeferred : (reg : ℕ) → (value : Expression) → PlainOperand
  IndexZero : (reg : ℕ) → PlainOperand
  Immediate : (value : Expression) → PlainOperand
  Absolute : (value : Expression) → PlainOperand
  Relative : (value : Expression) → PlainOperand
  RelativeDeferred : (value : Expression) → PlainOperand

-- what a statement is, its labels apart
pub data PlainBody : Type 0 where
  Nothing : PlainBody
  Assign : (name : List ℕ) → (value : Expression) → PlainBody
  Double : (base : ℕ) → (src dst : PlainOperand) → PlainBody
  Eis : (base : ℕ) → (src : PlainOperand) → (reg : ℕ) → PlainBody
  Xor : (reg : ℕ) → (dst : PlainOperand) → PlainBody
  Jsr : (reg : ℕ) → (dst : PlainOperand) → PlainBody
  Single : (base : ℕ) → (dst : PlainOperand) → PlainBody
  Rts : (reg : ℕ) → PlainBody
  Sob : (reg : ℕ) → (to : Expression) → PlainBody
  Branch : (base : ℕ) → (to : Expression) → PlainBody
  Mark : (count : Expression) → PlainBody
  Spl : (level : Expression) → PlainBody
  Number : (base : ℕ) → (n : Option Expression) → PlainBody
  Alone : (base : ℕ) → PlainBody
  WordList : (values : List Expression) → PlainBody
  ByteList : (values : List Expression) → PlainBody
  Ascii : (text : List ℕ) → (zero : Bool) → PlainBody
  Blkw : (count : Expression) → PlainBody
  Even : PlainBody

-- what a line says: its number, its labels, and what its statement is
pub record PlainStatement : Type 0 where
  pub line : ℕ
  pub labels : List PlainLabel
  pub body : PlainBody
