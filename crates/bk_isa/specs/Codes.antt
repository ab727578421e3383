use Rattle.std.specs.Prelude.{ℕ, Bool, true, false, ◌+◌, ◌*◌, ◌<◌}
use Rattle.bk_space.specs.declared.reference.Width.{Width}
use Rattle.bk_space.specs.declared.reference.Width.TheVariants.{Word, Byte}
use Rattle.bk_space.specs.declared.reference.Space.{Space}
use Rattle.bk_space.specs.declared.reference.Space.TheVariants.{I, D}
use Rattle.bk_space.specs.declared.field.Field.{Field}
use Rattle.bk_isa.specs.declared.operation.Bin.{Bin}
use Rattle.bk_isa.specs.declared.operation.Bin.TheVariants.{Mov, Cmp, Bit, Bic, Bis, Add, Sub}
use Rattle.bk_isa.specs.declared.operation.Un.{Un}
use Rattle.bk_isa.specs.declared.operation.Un.TheVariants.{Clr, Com, Inc, Dec, Neg, Adc, Sbc, Tst, Ror, Rol, Asr, Asl, Swab, Sxt}
use Rattle.bk_isa.specs.declared.operation.EisOp.{EisOp}
use Rattle.bk_isa.specs.declared.operation.EisOp.TheVariants.{Mul, Div, Ash, Ashc}
use Rattle.bk_isa.specs.declared.operation.Cond.{Cond}
use Rattle.bk_isa.specs.declared.operation.Cond.TheVariants.{Br, Bne, Beq, Bge, Blt, Bgt, Ble, Bpl, Bmi, Bhi, Blos, Bvc, Bvs, Bcc, Bhis, Bcs, Blo}
use Rattle.bk_isa.specs.declared.instr.Instr.{Instr}
use Rattle.bk_isa.specs.declared.instr.Instr.TheVariants.{Double, Single, Xor, Eis, Jmp, Jsr, Rts, Sob, Mark, Mfp, Mtp, Branch}
use Rattle.bk_isa.specs.declared.instr.Instr.TheVariants.{Codes, Spl, Emt, Trap, Halt, Wait, Rti, Bpt, Iot, Reset, Rtt}

-- a field's six bits: the mode, then the register
abbrev pub number_of : Field → ℕ
number_of field = field.mode * 8 + field.reg

-- mode and register of 0 to 7
abbrev pub IsField : Field → Type 0
IsField field = (field.mode < 8) × (field.reg < 8)

-- the byte form of an operation has bit 15 set
abbrev pub width_bit : Width → ℕ
width_bit Word = 0
width_bit Byte = 0o100000

-- the top four bits of an operation with two fields, on words
abbrev pub double_code : Bin → ℕ
double_code Mov = 0o01
double_code Cmp = 0o02
double_code Bit = 0o03
double_code Bic = 0o04
double_code Bis = 0o05
double_code Add = 0o06
double_code Sub = 0o16

-- the top ten bits of an operation with one field, on words
abbrev pub single_code : Un → ℕ
single_code Clr = 0o0050
single_code Com = 0o0051
single_code Inc = 0o0052
single_code Dec = 0o0053
single_code Neg = 0o0054
single_code Adc = 0o0055
single_code Sbc = 0o0056
single_code Tst = 0o0057
single_code Ror = 0o0060
single_code Rol = 0o0061
single_code Asr = 0o0062
single_code Asl = 0o0063
single_code Swab = 0o0003
single_code Sxt = 0o0067

-- the top seven bits of an operation of a register and a source field
abbrev pub eis_code : EisOp → ℕ
eis_code Mul = 0o070
eis_code Div = 0o071
eis_code Ash = 0o072
eis_code Ashc = 0o073

-- the top eight bits of a branch, as four digits: two bits of the offset's place are 0
abbrev pub branch_code : Cond → ℕ
branch_code Br = 0o0004
branch_code Bne = 0o0010
branch_code Beq = 0o0014
branch_code Bge = 0o0020
branch_code Blt = 0o0024
branch_code Bgt = 0o0030
branch_code Ble = 0o0034
branch_code Bpl = 0o1000
branch_code Bmi = 0o1004
branch_code Bhi = 0o1010
branch_code Blos = 0o1014
branch_code Bvc = 0o1020
branch_code Bvs = 0o1024
branch_code Bcc = 0o1030
branch_code Bhis = 0o1030
branch_code Bcs = 0o1034
branch_code Blo = 0o1034

-- MFPI and MTPI are of I space; MFPD and MTPD, of D space, have bit 15 set
abbrev pub space_bit : Space → ℕ
space_bit I = 0
space_bit D = 0o100000

-- setting condition codes has bit 4 set
abbrev pub set_bit : Bool → ℕ
set_bit true = 0o20
set_bit false = 0

-- the word of an instruction
abbrev pub code_of : Instr → ℕ
code_of (Double op width src dst) = width_bit width + double_code op * 0o10000 + number_of src * 0o100 + number_of dst
code_of (Single op width dst) = width_bit width + single_code op * 0o100 + number_of dst
code_of (Xor reg dst) = 0o074000 + reg * 0o100 + number_of dst
code_of (Eis op reg src) = eis_code op * 0o1000 + reg * 0o100 + number_of src
code_of (Jmp dst) = 0o000100 + number_of dst
code_of (Jsr reg dst) = 0o004000 + reg * 0o100 + number_of dst
code_of (Rts reg) = 0o000200 + reg
code_of (Sob reg back) = 0o077000 + reg * 0o100 + back
code_of (Mark count) = 0o006400 + count
code_of (Mfp space src) = space_bit space + 0o006500 + number_of src
code_of (Mtp space dst) = space_bit space + 0o006600 + number_of dst
code_of (Branch cond offset) = branch_code cond * 0o100 + offset
code_of (Codes set mask) = 0o000240 + set_bit set + mask
code_of (Spl level) = 0o000230 + level
code_of (Emt n) = 0o104000 + n
code_of (Trap n) = 0o104400 + n
code_of Halt = 0
code_of Wait = 1
code_of Rti = 2
code_of Bpt = 3
code_of Iot = 4
code_of Reset = 5
code_of Rtt = 6

-- the operation has a form of this width
abbrev pub HasDouble : Bin → Width → Type 0
HasDouble Add Byte = ⊥
HasDouble Sub Byte = ⊥
HasDouble _ _ = Unit {0}

-- the operation with one field has a form at this width
abbrev pub HasSingle : Un → Width → Type 0
HasSingle Swab Byte = ⊥
HasSingle Sxt Byte = ⊥
HasSingle _ _ = Unit {0}

-- a combination that the table lists, with its fields in range
abbrev pub IsListed : Instr → Type 0
IsListed (Double op width src dst) = HasDouble op width × IsField src × IsField dst
IsListed (Single op width dst) = HasSingle op width × IsField dst
IsListed (Xor reg dst) = (reg < 8) × IsField dst
IsListed (Eis op reg src) = (reg < 8) × IsField src
IsListed (Jmp dst) = IsField dst
IsListed (Jsr reg dst) = (reg < 8) × IsField dst
IsListed (Rts reg) = reg < 8
IsListed (Sob reg back) = (reg < 8) × (back < 64)
IsListed (Mark count) = count < 64
IsListed (Mfp space src) = IsField src
IsListed (Mtp space dst) = IsField dst
IsListed (Branch cond offset) = offset < 256
IsListed (Codes set mask) = mask < 16
IsListed (Spl level) = level < 8
IsListed (Emt n) = n < 256
IsListed (Trap n) = n < 256
IsListed Halt = Unit {0}
IsListed Wait = Unit {0}
IsListed Rti = Unit {0}
IsListed Bpt = Unit {0}
IsListed Iot = Unit {0}
IsListed Reset = Unit {0}
IsListed Rtt = Unit {0}

-- BHIS and BLO are read back as BCC and BCS
abbrev pub primary_cond : Cond → Cond
primary_cond Br = Br
primary_cond Bne = Bne
primary_cond Beq = Beq
primary_cond Bge = Bge
primary_cond Blt = Blt
primary_cond Bgt = Bgt
primary_cond Ble = Ble
primary_cond Bpl = Bpl
primary_cond Bmi = Bmi
primary_cond Bhi = Bhi
primary_cond Blos = Blos
primary_cond Bvc = Bvc
primary_cond Bvs = Bvs
primary_cond Bcc = Bcc
primary_cond Bhis = Bcc
primary_cond Bcs = Bcs
primary_cond Blo = Bcs

-- an instruction as its word reads back: itself, but for BHIS and BLO
abbrev pub primary : Instr → Instr
primary (Branch cond offset) = Branch (primary_cond cond) offset
primary i = i
