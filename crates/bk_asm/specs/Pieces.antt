-- What a statement is made of, and how long it is by its form.
use Rattle.std.specs.Prelude.{ℕ, ◌+◌, ◌*◌, ◌%◌, ◌^◌, Bool, if◌then◌else◌, List, [], ◌∷◌, ◌++◌, length, map, sum_by, Option, Some, None}
use Rattle.bk_space.specs.declared.field.Field.{Field}
use Rattle.bk_isa.specs.declared.instr.Instr.TheVariants as instr
use Rattle.bk_isa.specs.Codes.{code_of, number_of}
use Rattle.bk_expr.specs.Tree.{Expression}
use Rattle.bk_asm_text.specs.Plain.{PlainOperand, Reg, Deferred, Inc, IncDeferred, Dec, DecDeferred, Index, IndexDeferred, IndexZero}
use Rattle.bk_asm_text.specs.Plain.{Immediate, Absolute, Relative, RelativeDeferred}
use Rattle.bk_asm_text.specs.Plain.{PlainBody}
use Rattle.bk_asm_text.specs.Plain as plain

-- a part of a statement: one word, but for a byte and for a string
pub data Piece : Type 0 where
  -- a word without an expression
  Fixed : (word : ℕ) → Piece
  -- a value
  Value : (value : Expression) → Piece
  -- a value less the address behind this word
  Distance : (value : Expression) → Piece
  -- a byte
  Byte : (value : Expression) → Piece
  -- a branch: its word without offset, and where it goes
  Branch : (base : ℕ) → (to : Expression) → Piece
  -- SOB: its word without offset, and where it goes
  Back : (base : ℕ) → (to : Expression) → Piece
  -- a word without its number, and the number, which is below a limit
  Number : (base limit : ℕ) → (value : Expression) → Piece
  -- the bytes of a string
  Text : (text : List ℕ) → Piece

-- mode and register of an operand
abbrev pub mode_and : (mode reg : ℕ) → Field
mode_and mode reg = record { mode = mode; reg = reg }

-- the field of an operand; the program counter stands for the register where none is named
abbrev pub field_of : PlainOperand → Field
field_of (Reg reg) = mode_and 0 reg
field_of (Deferred reg) = mode_and 1 reg
field_of (Inc reg) = mode_and 2 reg
field_of (IncDeferred reg) = mode_and 3 reg
field_of (Dec reg) = mode_and 4 reg
field_of (DecDeferred reg) = mode_and 5 reg
field_of (Index reg value) = mode_and 6 reg
field_of (IndexDeferred reg value) = mode_and 7 reg
field_of (IndexZero reg) = mode_and 7 reg
field_of (Immediate value) = mode_and 2 7
field_of (Absolute value) = mode_and 3 7
field_of (Relative value) = mode_and 6 7
field_of (RelativeDeferred value) = mode_and 7 7

-- the word behind the instruction's that an operand has, if it has one
abbrev pub operand_word : PlainOperand → List Piece
operand_word (Reg reg) = []
operand_word (Deferred reg) = []
operand_word (Inc reg) = []
operand_word (IncDeferred reg) = []
operand_word (Dec reg) = []
operand_word (DecDeferred reg) = []
operand_word (Index reg value) = Value value ∷ []
operand_word (IndexDeferred reg value) = Value value ∷ []
operand_word (IndexZero reg) = Fixed 0 ∷ []
operand_word (Immediate value) = Value value ∷ []
operand_word (Absolute value) = Value value ∷ []
operand_word (Relative value) = Distance value ∷ []
operand_word (RelativeDeferred value) = Distance value ∷ []

-- an instruction's word with a field at bit 6 and one at bit 0
abbrev pub with_fields : (base high low : ℕ) → ℕ
with_fields base high low = (base + (high * 0o100 + low)) % 2 ^ 16

-- the number of EMT or TRAP, or nothing for 0
abbrev pub numbered : (base : ℕ) → Option Expression → List Piece
numbered base None = Fixed base ∷ []
numbered base (Some n) = Number base 0o400 n ∷ []

-- the zero byte of .ASCIZ
abbrev pub zero_byte : Bool → List Piece
zero_byte zero = if zero then Text (0 ∷ []) ∷ [] else []

-- the pieces of a statement, one behind another. .BLKW and .EVEN have none, but zeros
abbrev pub pieces_of : PlainBody → List Piece
pieces_of plain.Nothing = []
pieces_of (plain.Assign name value) = []
pieces_of (plain.Double base src dst) =
    Fixed (with_fields base (number_of (field_of src)) (number_of (field_of dst))) ∷ operand_word src ++ operand_word dst
pieces_of (plain.Eis base src reg) = Fixed (with_fields base reg (number_of (field_of src))) ∷ operand_word src
pieces_of (plain.Xor reg dst) = Fixed (code_of (instr.Xor reg (field_of dst))) ∷ operand_word dst
pieces_of (plain.Jsr reg dst) = Fixed (code_of (instr.Jsr reg (field_of dst))) ∷ operand_word dst
pieces_of (plain.Single base dst) = Fixed (with_fields base 0 (number_of (field_of dst))) ∷ operand_word dst
pieces_of (plain.Rts reg) = Fixed (code_of (instr.Rts reg)) ∷ []
pieces_of (plain.Sob reg to) = Back (code_of (instr.Sob reg 0)) to ∷ []
pieces_of (plain.Branch base to) = Branch base to ∷ []
pieces_of (plain.Mark count) = Number (code_of (instr.Mark 0)) 0o100 count ∷ []
pieces_of (plain.Spl level) = Number (code_of (instr.Spl 0)) 0o10 level ∷ []
pieces_of (plain.Number base n) = numbered base n
pieces_of (plain.Alone base) = Fixed base ∷ []
pieces_of (plain.WordList values) = map Value values
pieces_of (plain.ByteList values) = map Byte values
pieces_of (plain.Ascii text zero) = Text text ∷ zero_byte zero
pieces_of (plain.Blkw count) = []
pieces_of plain.Even = []

-- how many bytes a piece has
abbrev pub size_of : Piece → ℕ
size_of (Fixed word) = 2
size_of (Value value) = 2
size_of (Distance value) = 2
size_of (Byte value) = 1
size_of (Branch base to) = 2
size_of (Back base to) = 2
size_of (Number base limit value) = 2
size_of (Text text) = length text

-- .. a statement has, but for .BLKW and .EVEN: fixed by its form
abbrev pub form_size : PlainBody → ℕ
form_size body = sum_by size_of (pieces_of body)

-- what a statement is for those behind it: what it defines, and how its bytes lie
pub data Role : Type 0 where
  Assignment : (name : List ℕ) → (value : Expression) → Role
  -- so many zero words
  Zeros : (count : Expression) → Role
  -- up to an even address
  Alignment : Role
  -- words: an instruction, or .WORD
  InWords : Role
  -- any bytes, or none
  InBytes : Role

abbrev pub role_of : PlainBody → Role
role_of plain.Nothing = InBytes
role_of (plain.Assign name value) = Assignment name value
role_of (plain.Double base src dst) = InWords
role_of (plain.Eis base src reg) = InWords
role_of (plain.Xor reg dst) = InWords
role_of (plain.Jsr reg dst) = InWords
role_of (plain.Single base dst) = InWords
role_of (plain.Rts reg) = InWords
role_of (plain.Sob reg to) = InWords
role_of (plain.Branch base to) = InWords
role_of (plain.Mark count) = InWords
role_of (plain.Spl level) = InWords
role_of (plain.Number base n) = InWords
role_of (plain.Alone base) = InWords
role_of (plain.WordList values) = InWords
role_of (plain.ByteList values) = InBytes
role_of (plain.Ascii text zero) = InBytes
role_of (plain.Blkw count) = Zeros count
role_of plain.Even = Alignment
