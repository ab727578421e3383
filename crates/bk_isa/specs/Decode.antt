use Rattle.std.specs.Prelude.{ℕ, ◌+◌, ◌-◌, ◌*◌, ◌/◌, ◌%◌, ◌==◌, nat_lt, if◌then◌else◌, List, [], ◌∷◌, Option, Some, None, true, false, option_map}
use Rattle.std.specs.Option.{option_or}
use Rattle.bk_space.specs.declared.reference.Width.{Width}
use Rattle.bk_space.specs.declared.reference.Width.TheVariants.{Word, Byte}
use Rattle.bk_space.specs.declared.reference.Space.TheVariants.{I, D}
use Rattle.bk_space.specs.declared.field.Field.{Field}
use Rattle.bk_isa.specs.declared.operation.Bin.{Bin}
use Rattle.bk_isa.specs.declared.operation.Bin.TheVariants.{Mov, Cmp, Bit, Bic, Bis, Add, Sub}
use Rattle.bk_isa.specs.declared.operation.Un.{Un}
use Rattle.bk_isa.specs.declared.operation.Un.TheVariants.{Clr, Com, Inc, Dec, Neg, Adc, Sbc, Tst, Ror, Rol, Asr, Asl, Swab, Sxt}
use Rattle.bk_isa.specs.declared.operation.EisOp.{EisOp}
use Rattle.bk_isa.specs.declared.operation.EisOp.TheVariants.{Mul, Div, Ash, Ashc}
use Rattle.bk_isa.specs.declared.operation.Cond.{Cond}
use Rattle.bk_isa.specs.declared.operation.Cond.TheVariants.{Br, Bne, Beq, Bge, Blt, Bgt, Ble, Bpl, Bmi, Bhi, Blos, Bvc, Bvs, Bcc, Bcs}
use Rattle.bk_isa.specs.declared.instr.Instr.{Instr}
use Rattle.bk_isa.specs.declared.instr.Instr.TheVariants.{Double, Single, Xor, Eis, Jmp, Jsr, Rts, Sob, Mark, Mfp, Mtp, Branch}
use Rattle.bk_isa.specs.declared.instr.Instr.TheVariants.{Codes, Spl, Emt, Trap, Halt, Wait, Rti, Bpt, Iot, Reset, Rtt}

-- what a list of codes has at a code
abbrev pub look_up : {X : Type 0} → List (ℕ × X) → ℕ → Option X
look_up [] code = None
look_up (row ∷ rows) code = if code == row.0 then Some row.1 else look_up rows code

-- the field of six bits
abbrev pub field_at : ℕ → Field
field_at n = record { mode = n / 8 % 8; reg = n % 8 }

-- by the top four bits
abbrev pub doubles : List (ℕ × (Bin × Width))
doubles =
    (0o01, (Mov, Word)) ∷ (0o11, (Mov, Byte))
    ∷ (0o02, (Cmp, Word)) ∷ (0o12, (Cmp, Byte))
    ∷ (0o03, (Bit, Word)) ∷ (0o13, (Bit, Byte))
    ∷ (0o04, (Bic, Word)) ∷ (0o14, (Bic, Byte))
    ∷ (0o05, (Bis, Word)) ∷ (0o15, (Bis, Byte))
    ∷ (0o06, (Add, Word)) ∷ (0o16, (Sub, Word)) ∷ []

-- by the top seven bits
abbrev pub eis : List (ℕ × EisOp)
eis = (0o070, Mul) ∷ (0o071, Div) ∷ (0o072, Ash) ∷ (0o073, Ashc) ∷ []

-- by the top seven bits, of the register and the low six bits
abbrev pub registers : List (ℕ × (ℕ → ℕ → Instr))
registers =
    (0o004, λ reg low. Jsr reg (field_at low))
    ∷ (0o074, λ reg low. Xor reg (field_at low))
    ∷ (0o077, λ reg low. Sob reg low) ∷ []

-- by the top eight bits
abbrev pub branches : List (ℕ × Cond)
branches =
    (0o0004, Br) ∷ (0o0010, Bne) ∷ (0o0014, Beq) ∷ (0o0020, Bge) ∷ (0o0024, Blt) ∷ (0o0030, Bgt)
    ∷ (0o0034, Ble) ∷ (0o1000, Bpl) ∷ (0o1004, Bmi) ∷ (0o1010, Bhi) ∷ (0o1014, Blos)
    ∷ (0o1020, Bvc) ∷ (0o1024, Bvs) ∷ (0o1030, Bcc) ∷ (0o1034, Bcs) ∷ []

-- by the top eight bits, of the low eight
abbrev pub numbers : List (ℕ × (ℕ → Instr))
numbers = (0o1040, λ n. Emt n) ∷ (0o1044, λ n. Trap n) ∷ []

-- by the top ten bits
abbrev pub singles : List (ℕ × (Un × Width))
singles =
    (0o0003, (Swab, Word))
    ∷ (0o0050, (Clr, Word)) ∷ (0o1050, (Clr, Byte))
    ∷ (0o0051, (Com, Word)) ∷ (0o1051, (Com, Byte))
    ∷ (0o0052, (Inc, Word)) ∷ (0o1052, (Inc, Byte))
    ∷ (0o0053, (Dec, Word)) ∷ (0o1053, (Dec, Byte))
    ∷ (0o0054, (Neg, Word)) ∷ (0o1054, (Neg, Byte))
    ∷ (0o0055, (Adc, Word)) ∷ (0o1055, (Adc, Byte))
    ∷ (0o0056, (Sbc, Word)) ∷ (0o1056, (Sbc, Byte))
    ∷ (0o0057, (Tst, Word)) ∷ (0o1057, (Tst, Byte))
    ∷ (0o0060, (Ror, Word)) ∷ (0o1060, (Ror, Byte))
    ∷ (0o0061, (Rol, Word)) ∷ (0o1061, (Rol, Byte))
    ∷ (0o0062, (Asr, Word)) ∷ (0o1062, (Asr, Byte))
    ∷ (0o0063, (Asl, Word)) ∷ (0o1063, (Asl, Byte))
    ∷ (0o0067, (Sxt, Word)) ∷ []

-- by the top ten bits, of the low six
abbrev pub others : List (ℕ × (ℕ → Instr))
others =
    (0o0001, λ low. Jmp (field_at low))
    ∷ (0o0064, λ low. Mark low)
    ∷ (0o0065, λ low. Mfp I (field_at low)) ∷ (0o1065, λ low. Mfp D (field_at low))
    ∷ (0o0066, λ low. Mtp I (field_at low)) ∷ (0o1066, λ low. Mtp D (field_at low)) ∷ []

-- the words whose top ten bits are 0
abbrev pub alone : List (ℕ × Instr)
alone = (0, Halt) ∷ (1, Wait) ∷ (2, Rti) ∷ (3, Bpt) ∷ (4, Iot) ∷ (5, Reset) ∷ (6, Rtt) ∷ []

-- the words whose top ten bits are 2: RTS, SPL and the condition codes
abbrev pub codes_at : ℕ → Option Instr
codes_at low =
    if nat_lt low 0o10 then Some (Rts low) else (
    if nat_lt low 0o30 then None else (
    if nat_lt low 0o40 then Some (Spl (low - 0o30)) else (
    if nat_lt low 0o60 then Some (Codes false (low - 0o40)) else Some (Codes true (low - 0o60)))))

-- an operation with two fields
abbrev pub double_at : ℕ → ℕ → Option Instr
double_at high low = option_map (λ p. Double p.0 p.1 (field_at (high % 64)) (field_at low)) (look_up doubles (high / 64))

-- an instruction with a register and six bits
abbrev pub register_at : ℕ → ℕ → Option Instr
register_at high low =
    option_or (option_map (λ op. Eis op (high % 8) (field_at low)) (look_up eis (high / 8)))
    (option_map (λ make. make (high % 8) low) (look_up registers (high / 8)))

-- an instruction with eight bits
abbrev pub number_at : ℕ → ℕ → Option Instr
number_at high low =
    option_or (option_map (λ cond. Branch cond (high % 4 * 64 + low)) (look_up branches (high / 4 * 4)))
    (option_map (λ make. make (high % 4 * 64 + low)) (look_up numbers (high / 4 * 4)))

-- the instructions with fewer bits
abbrev pub rest_at : ℕ → ℕ → Option Instr
rest_at high low = if high == 0 then look_up alone low else (if high == 2 then codes_at low else None)

-- an instruction with six bits, or fewer
abbrev pub single_at : ℕ → ℕ → Option Instr
single_at high low =
    option_or (option_map (λ p. Single p.0 p.1 (field_at low)) (look_up singles high))
    (option_or (option_map (λ make. make low) (look_up others high)) (rest_at high low))

-- by the top ten bits and the low six
abbrev pub parts_of : ℕ → ℕ → Option Instr
parts_of high low = option_or (double_at high low) (option_or (register_at high low) (option_or (number_at high low) (single_at high low)))

-- the instruction of a word
abbrev pub decode_of : ℕ → Option Instr
decode_of word = parts_of (word / 64) (word % 64)
