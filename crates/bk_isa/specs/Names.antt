use Rattle.std.specs.Prelude.{ℕ, true, false, List, [], ◌∷◌, ◌++◌, codes, unwrap_or}
use Rattle.bk_space.specs.declared.reference.Width.{Width}
use Rattle.bk_space.specs.declared.reference.Width.TheVariants.{Word, Byte}
use Rattle.bk_space.specs.declared.reference.Space.{Space}
use Rattle.bk_space.specs.declared.reference.Space.TheVariants.{I, D}
use Rattle.bk_isa.specs.declared.operation.Bin.{Bin}
use Rattle.bk_isa.specs.declared.operation.Bin.TheVariants.{Mov, Cmp, Bit, Bic, Bis, Add, Sub}
use Rattle.bk_isa.specs.declared.operation.Un.{Un}
use Rattle.bk_isa.specs.declared.operation.Un.TheVariants.{Clr, Com, Inc, Dec, Neg, Adc, Sbc, Tst, Ror, Rol, Asr, Asl, Swab, Sxt}
use Rattle.bk_isa.specs.declared.operation.EisOp.{EisOp}
use Rattle.bk_isa.specs.declared.operation.EisOp.TheVariants.{Mul, Div, Ash, Ashc}
use Rattle.bk_isa.specs.declared.operation.Cond.{Cond}
use Rattle.bk_isa.specs.declared.operation.Cond.TheVariants.{Br, Bne, Beq, Bge, Blt, Bgt, Ble, Bpl, Bmi, Bhi, Blos, Bvc, Bvs, Bcc, Bhis, Bcs, Blo}
use Rattle.bk_isa.specs.declared.mnemonic.Form.{Form}
use Rattle.bk_isa.specs.declared.mnemonic.Form.TheVariants as form
use Rattle.bk_isa.specs.declared.instr.Instr.{Instr}
use Rattle.bk_isa.specs.declared.instr.Instr.TheVariants.{Double, Single, Xor, Eis, Jmp, Jsr, Rts, Sob, Mark, Mfp, Mtp, Branch}
use Rattle.bk_isa.specs.declared.instr.Instr.TheVariants.{Codes, Spl, Emt, Trap, Halt, Wait, Rti, Bpt, Iot, Reset, Rtt}
use Rattle.bk_isa.specs.Decode.{look_up}

-- the names of the operations with two fields, on words
abbrev pub bin_name : Bin → List ℕ
bin_name Mov = codes "MOV"
bin_name Cmp = codes "CMP"
bin_name Bit = codes "BIT"
bin_name Bic = codes "BIC"
bin_name Bis = codes "BIS"
bin_name Add = codes "ADD"
bin_name Sub = codes "SUB"

-- .. of those with one field, on words
abbrev pub un_name : Un → List ℕ
un_name Clr = codes "CLR"
un_name Com = codes "COM"
un_name Inc = codes "INC"
un_name Dec = codes "DEC"
un_name Neg = codes "NEG"
un_name Adc = codes "ADC"
un_name Sbc = codes "SBC"
un_name Tst = codes "TST"
un_name Ror = codes "ROR"
un_name Rol = codes "ROL"
un_name Asr = codes "ASR"
un_name Asl = codes "ASL"
un_name Swab = codes "SWAB"
un_name Sxt = codes "SXT"

-- .. of the extended instruction set
abbrev pub eis_name : EisOp → List ℕ
eis_name Mul = codes "MUL"
eis_name Div = codes "DIV"
eis_name Ash = codes "ASH"
eis_name Ashc = codes "ASHC"

-- .. of the branches
abbrev pub cond_name : Cond → List ℕ
cond_name Br = codes "BR"
cond_name Bne = codes "BNE"
cond_name Beq = codes "BEQ"
cond_name Bge = codes "BGE"
cond_name Blt = codes "BLT"
cond_name Bgt = codes "BGT"
cond_name Ble = codes "BLE"
cond_name Bpl = codes "BPL"
cond_name Bmi = codes "BMI"
cond_name Bhi = codes "BHI"
cond_name Blos = codes "BLOS"
cond_name Bvc = codes "BVC"
cond_name Bvs = codes "BVS"
cond_name Bcc = codes "BCC"
cond_name Bhis = codes "BHIS"
cond_name Bcs = codes "BCS"
cond_name Blo = codes "BLO"

-- the byte form's name ends with B
abbrev pub width_letter : Width → List ℕ
width_letter Word = []
width_letter Byte = codes "B"

-- the name of a move between the modes ends with its space
abbrev pub space_letter : Space → List ℕ
space_letter I = codes "I"
space_letter D = codes "D"

-- the condition codes have names where one flag, all or none are meant; the others have none
abbrev pub clear_name : ℕ → List ℕ
clear_name mask = unwrap_or (look_up ((0, codes "NOP") ∷ (1, codes "CLC") ∷ (2, codes "CLV") ∷ (4, codes "CLZ") ∷ (8, codes "CLN") ∷ (15, codes "CCC") ∷ []) mask) []

-- .. where they are set
abbrev pub set_name : ℕ → List ℕ
set_name mask = unwrap_or (look_up ((1, codes "SEC") ∷ (2, codes "SEV") ∷ (4, codes "SEZ") ∷ (8, codes "SEN") ∷ (15, codes "SCC") ∷ []) mask) []

-- the name of an instruction; the empty one where it has none
abbrev pub name_of : Instr → List ℕ
name_of (Double op width src dst) = bin_name op ++ width_letter width
name_of (Single op width dst) = un_name op ++ width_letter width
name_of (Xor reg dst) = codes "XOR"
name_of (Eis op reg src) = eis_name op
name_of (Jmp dst) = codes "JMP"
name_of (Jsr reg dst) = codes "JSR"
name_of (Rts reg) = codes "RTS"
name_of (Sob reg back) = codes "SOB"
name_of (Mark count) = codes "MARK"
name_of (Mfp space src) = codes "MFP" ++ space_letter space
name_of (Mtp space dst) = codes "MTP" ++ space_letter space
name_of (Branch cond offset) = cond_name cond
name_of (Codes false mask) = clear_name mask
name_of (Codes true mask) = set_name mask
name_of (Spl level) = codes "SPL"
name_of (Emt n) = codes "EMT"
name_of (Trap n) = codes "TRAP"
name_of Halt = codes "HALT"
name_of Wait = codes "WAIT"
name_of Rti = codes "RTI"
name_of Bpt = codes "BPT"
name_of Iot = codes "IOT"
name_of Reset = codes "RESET"
name_of Rtt = codes "RTT"

-- how an instruction is written
abbrev pub form_of : Instr → Form
form_of (Double op width src dst) = form.Double
form_of (Single op width dst) = form.Single
form_of (Xor reg dst) = form.Xor
form_of (Eis op reg src) = form.Eis
form_of (Jmp dst) = form.Single
form_of (Jsr reg dst) = form.Jsr
form_of (Rts reg) = form.Rts
form_of (Sob reg back) = form.Sob
form_of (Mark count) = form.Mark
form_of (Mfp space src) = form.Single
form_of (Mtp space dst) = form.Single
form_of (Branch cond offset) = form.Branch
form_of (Codes set mask) = form.Alone
form_of (Spl level) = form.Spl
form_of (Emt n) = form.Number
form_of (Trap n) = form.Number
form_of Halt = form.Alone
form_of Wait = form.Alone
form_of Rti = form.Alone
form_of Bpt = form.Alone
form_of Iot = form.Alone
form_of Reset = form.Alone
form_of Rtt = form.Alone
