use Rattle.std.proofs.Common.{◌≡◌, ◌≢◌, ℕ, ◌+◌, ◌*◌, ◌/◌, ◌%◌, ◌<◌, refl, sym, ◌∙◌, ap, arith, Bool, true, false, Some, None, IfNone, option_map}
use Rattle.std.specs.Prelude.{Option}
use Rattle.std.specs.Option.{option_or}
use Rattle.std.proofs.lemmas.Bool.Decides.{nat_tests}
use Rattle.bk_space.specs.declared.reference.Width.{Width}
use Rattle.bk_space.specs.declared.reference.Width.TheVariants.{Word, Byte}
use Rattle.bk_space.specs.declared.reference.Space.{Space}
use Rattle.bk_space.specs.declared.reference.Space.TheVariants.{I, D}
use Rattle.bk_space.specs.declared.field.Field.{Field}
use Rattle.bk_isa.specs.declared.operation.Bin.{Bin}
use Rattle.bk_isa.specs.declared.operation.Bin.TheVariants.{Mov, Cmp, Bit, Bic, Bis, Add, Sub}
use Rattle.bk_isa.specs.declared.operation.Un.{Un}
use Rattle.bk_isa.specs.declared.operation.Un.TheVariants.{Clr, Com, Inc, Dec, Neg, Adc, Sbc, Tst, Ror, Rol, Asr, Asl, Swab, Sxt}
use Rattle.bk_isa.specs.declared.operation.EisOp.{EisOp}
use Rattle.bk_isa.specs.declared.operation.EisOp.TheVariants.{Mul, Div, Ash, Ashc}
use Rattle.bk_isa.specs.declared.operation.Cond.{Cond}
use Rattle.bk_isa.specs.declared.operation.Cond.TheVariants.{Br, Bne, Beq, Bge, Blt, Bgt, Ble, Bpl, Bmi, Bhi, Blos, Bvc, Bvs, Bcc, Bhis, Bcs, Blo}
use Rattle.bk_isa.specs.declared.instr.Instr.{Instr}
use Rattle.bk_isa.specs.declared.instr.Instr.TheVariants.{Double, Single, Xor, Eis, Jmp, Jsr, Rts, Sob, Mark, Mfp, Mtp, Branch}
use Rattle.bk_isa.specs.declared.instr.Instr.TheVariants.{Codes, Spl, Emt, Trap, Halt, Wait, Rti, Bpt, Iot, Reset, Rtt}
use Rattle.bk_isa.specs.Codes.{number_of, IsField, HasDouble, HasSingle, IsListed, code_of, primary}
use Rattle.bk_isa.specs.Decode.{look_up, doubles, eis, registers, branches, numbers, field_at, register_at, number_at, single_at, parts_of, decode_of}

-- a field is read again from its number
field_again : (f : Field) → IsField f → field_at (number_of f) ≡ f
field_again f h =
    let m : (f.mode * 8 + f.reg) / 8 % 8 ≡ f.mode = omega (arith, h.0, h.1) in
    let r : (f.mode * 8 + f.reg) % 8 ≡ f.reg = omega (arith, h.0, h.1) in
    rw (m, r) refl

-- a word is its top ten bits and its low six
decode_parts : (high low : ℕ) → low < 64 → decode_of (high * 64 + low) ≡ parts_of high low
decode_parts high low h =
    let a : (high * 64 + low) / 64 ≡ high = omega arith in
    let b : (high * 64 + low) % 64 ≡ low = omega arith in
    ap (λ t. parts_of t ((high * 64 + low) % 64)) a ∙ ap (parts_of high) b

-- an instruction with one field is read again where its top ten bits are
field_row : (high : ℕ) (make : Field → Instr) (f : Field) → IsField f → parts_of high (number_of f) ≡ Some (make (field_at (number_of f))) → decode_of (high * 64 + number_of f) ≡ Some (make f)
field_row high make f h row =
    let low : number_of f < 64 = omega (arith, h.0, h.1) in
    decode_parts high (number_of f) low ∙ row ∙ ap (λ t. Some (make t)) (field_again f h)

-- an operation with two fields, whose top four bits are n
double_row : (n : ℕ) (op : Bin) (width : Width) (src dst : Field) → IsField src → IsField dst → look_up doubles n ≡ Some (op, width) → decode_of (n * 4096 + number_of src * 64 + number_of dst) ≡ Some (Double op width src dst)
double_row n op width src dst f g row =
    let low : number_of dst < 64 = omega (arith, g.0, g.1) in
    let mid : number_of src < 64 = omega (arith, f.0, f.1) in
    let regroup : n * 4096 + number_of src * 64 + number_of dst ≡ (n * 64 + number_of src) * 64 + number_of dst = omega arith in
    let top : (n * 64 + number_of src) / 64 ≡ n = omega (arith, mid) in
    let rest : (n * 64 + number_of src) % 64 ≡ number_of src = omega (arith, mid) in
    ap decode_of regroup ∙ decode_parts (n * 64 + number_of src) (number_of dst) low
    ∙ ap (λ t. option_or (option_map (λ p. Double p.0 p.1 (field_at ((n * 64 + number_of src) % 64)) (field_at (number_of dst))) t) (option_or (register_at (n * 64 + number_of src) (number_of dst)) (option_or (number_at (n * 64 + number_of src) (number_of dst)) (single_at (n * 64 + number_of src) (number_of dst))))) (ap (look_up doubles) top ∙ row)
    ∙ ap (λ t. Some (Double op width (field_at t) (field_at (number_of dst)))) rest
    ∙ ap (λ t. Some (Double op width t (field_at (number_of dst)))) (field_again src f)
    ∙ ap (λ t. Some (Double op width src t)) (field_again dst g)

doubles_again : (op : Bin) (width : Width) (src dst : Field) → HasDouble op width → IsField src → IsField dst → decode_of (code_of (Double op width src dst)) ≡ Some (Double op width src dst)
doubles_again Mov Word src dst h f g = double_row 0o01 Mov Word src dst f g refl
doubles_again Mov Byte src dst h f g = double_row 0o11 Mov Byte src dst f g refl
doubles_again Cmp Word src dst h f g = double_row 0o02 Cmp Word src dst f g refl
doubles_again Cmp Byte src dst h f g = double_row 0o12 Cmp Byte src dst f g refl
doubles_again Bit Word src dst h f g = double_row 0o03 Bit Word src dst f g refl
doubles_again Bit Byte src dst h f g = double_row 0o13 Bit Byte src dst f g refl
doubles_again Bic Word src dst h f g = double_row 0o04 Bic Word src dst f g refl
doubles_again Bic Byte src dst h f g = double_row 0o14 Bic Byte src dst f g refl
doubles_again Bis Word src dst h f g = double_row 0o05 Bis Word src dst f g refl
doubles_again Bis Byte src dst h f g = double_row 0o15 Bis Byte src dst f g refl
doubles_again Add Word src dst h f g = double_row 0o06 Add Word src dst f g refl
doubles_again Add Byte src dst h f g = absurd h
doubles_again Sub Word src dst h f g = double_row 0o16 Sub Word src dst f g refl
doubles_again Sub Byte src dst h f g = absurd h

-- an instruction with a register and six bits, whose top seven bits are n
register_row : (n reg low : ℕ) (i : Instr) → reg < 8 → low < 64 → look_up doubles (n / 8) ≡ None → option_or (option_map (λ op. Eis op reg (field_at low)) (look_up eis n)) (option_map (λ make. make reg low) (look_up registers n)) ≡ Some i → decode_of (n * 512 + reg * 64 + low) ≡ Some i
register_row n reg low i r l none row =
    let high : ℕ = n * 8 + reg in
    let regroup : n * 512 + reg * 64 + low ≡ (n * 8 + reg) * 64 + low = omega arith in
    let top : (n * 8 + reg) / 64 ≡ n / 8 = omega (arith, r) in
    let code : (n * 8 + reg) / 8 ≡ n = omega (arith, r) in
    let again : (n * 8 + reg) % 8 ≡ reg = omega (arith, r) in
    let at : register_at (n * 8 + reg) low ≡ Some i =
    ap (λ t. option_or (option_map (λ op. Eis op ((n * 8 + reg) % 8) (field_at low)) (look_up eis t)) (option_map (λ make. make ((n * 8 + reg) % 8) low) (look_up registers t))) code
    ∙ ap (λ t. option_or (option_map (λ op. Eis op t (field_at low)) (look_up eis n)) (option_map (λ make. make t low) (look_up registers n))) again ∙ row in
    ap decode_of regroup ∙ decode_parts (n * 8 + reg) low l
    ∙ ap (λ t. option_or (option_map (λ p. Double p.0 p.1 (field_at ((n * 8 + reg) % 64)) (field_at low)) t) (option_or (register_at (n * 8 + reg) low) (option_or (number_at (n * 8 + reg) low) (single_at (n * 8 + reg) low)))) (ap (look_up doubles) top ∙ none)
    ∙ ap (λ t. option_or t (option_or (number_at (n * 8 + reg) low) (single_at (n * 8 + reg) low))) at

-- the same, where the six bits are a field
register_field_row : (n reg : ℕ) (f : Field) (make : ℕ → Field → Instr) → reg < 8 → IsField f → look_up doubles (n / 8) ≡ None → option_or (option_map (λ op. Eis op reg (field_at (number_of f))) (look_up eis n)) (option_map (λ m. m reg (number_of f)) (look_up registers n)) ≡ Some (make reg (field_at (number_of f))) → decode_of (n * 512 + reg * 64 + number_of f) ≡ Some (make reg f)
register_field_row n reg f make r h none row =
    register_row n reg (number_of f) (make reg (field_at (number_of f))) r (omega (arith, h.0, h.1)) none row
    ∙ ap (λ t. Some (make reg t)) (field_again f h)

eis_again : (op : EisOp) (reg : ℕ) (src : Field) → reg < 8 → IsField src → decode_of (code_of (Eis op reg src)) ≡ Some (Eis op reg src)
eis_again Mul reg src r h = register_field_row 0o070 reg src (λ n f. Eis Mul n f) r h refl refl
eis_again Div reg src r h = register_field_row 0o071 reg src (λ n f. Eis Div n f) r h refl refl
eis_again Ash reg src r h = register_field_row 0o072 reg src (λ n f. Eis Ash n f) r h refl refl
eis_again Ashc reg src r h = register_field_row 0o073 reg src (λ n f. Eis Ashc n f) r h refl refl

-- an instruction with eight bits, whose top eight bits are k: no other group has it
number_row : (k n : ℕ) (i : Instr) → n < 256 → look_up doubles (k / 16) ≡ None → look_up eis (k / 2) ≡ None → look_up registers (k / 2) ≡ None → option_or (option_map (λ cond. Branch cond n) (look_up branches (k * 4))) (option_map (λ make. make n) (look_up numbers (k * 4))) ≡ Some i → decode_of (k * 256 + n) ≡ Some i
number_row k n i h no_double no_eis no_register row =
    let low : n % 64 < 64 = omega arith in
    let regroup : k * 256 + n ≡ (k * 4 + n / 64) * 64 + n % 64 = omega (arith, h) in
    let top : (k * 4 + n / 64) / 64 ≡ k / 16 = omega (arith, h) in
    let mid : (k * 4 + n / 64) / 8 ≡ k / 2 = omega (arith, h) in
    let code : (k * 4 + n / 64) / 4 * 4 ≡ k * 4 = omega (arith, h) in
    let bits : (k * 4 + n / 64) % 4 * 64 + n % 64 ≡ n = omega (arith, h) in
    let at : number_at (k * 4 + n / 64) (n % 64) ≡ Some i =
    ap (λ t. option_or (option_map (λ cond. Branch cond ((k * 4 + n / 64) % 4 * 64 + n % 64)) (look_up branches t)) (option_map (λ make. make ((k * 4 + n / 64) % 4 * 64 + n % 64)) (look_up numbers t))) code
    ∙ ap (λ t. option_or (option_map (λ cond. Branch cond t) (look_up branches (k * 4))) (option_map (λ make. make t) (look_up numbers (k * 4)))) bits ∙ row in
    ap decode_of regroup ∙ decode_parts (k * 4 + n / 64) (n % 64) low
    ∙ ap (λ t. option_or (option_map (λ p. Double p.0 p.1 (field_at ((k * 4 + n / 64) % 64)) (field_at (n % 64))) t) (option_or (register_at (k * 4 + n / 64) (n % 64)) (option_or (number_at (k * 4 + n / 64) (n % 64)) (single_at (k * 4 + n / 64) (n % 64))))) (ap (look_up doubles) top ∙ no_double)
    ∙ ap (λ t. option_or (option_or (option_map (λ op. Eis op ((k * 4 + n / 64) % 8) (field_at (n % 64))) t) (option_map (λ make. make ((k * 4 + n / 64) % 8) (n % 64)) (look_up registers ((k * 4 + n / 64) / 8)))) (option_or (number_at (k * 4 + n / 64) (n % 64)) (single_at (k * 4 + n / 64) (n % 64)))) (ap (look_up eis) mid ∙ no_eis)
    ∙ ap (λ t. option_or (option_map (λ make. make ((k * 4 + n / 64) % 8) (n % 64)) t) (option_or (number_at (k * 4 + n / 64) (n % 64)) (single_at (k * 4 + n / 64) (n % 64)))) (ap (look_up registers) mid ∙ no_register)
    ∙ ap (λ t. option_or t (single_at (k * 4 + n / 64) (n % 64))) at

branches_again : (cond : Cond) (n : ℕ) → n < 256 → decode_of (code_of (Branch cond n)) ≡ Some (primary (Branch cond n))
branches_again Br n h = number_row 0o001 n (Branch Br n) h refl refl refl refl
branches_again Bne n h = number_row 0o002 n (Branch Bne n) h refl refl refl refl
branches_again Beq n h = number_row 0o003 n (Branch Beq n) h refl refl refl refl
branches_again Bge n h = number_row 0o004 n (Branch Bge n) h refl refl refl refl
branches_again Blt n h = number_row 0o005 n (Branch Blt n) h refl refl refl refl
branches_again Bgt n h = number_row 0o006 n (Branch Bgt n) h refl refl refl refl
branches_again Ble n h = number_row 0o007 n (Branch Ble n) h refl refl refl refl
branches_again Bpl n h = number_row 0o200 n (Branch Bpl n) h refl refl refl refl
branches_again Bmi n h = number_row 0o201 n (Branch Bmi n) h refl refl refl refl
branches_again Bhi n h = number_row 0o202 n (Branch Bhi n) h refl refl refl refl
branches_again Blos n h = number_row 0o203 n (Branch Blos n) h refl refl refl refl
branches_again Bvc n h = number_row 0o204 n (Branch Bvc n) h refl refl refl refl
branches_again Bvs n h = number_row 0o205 n (Branch Bvs n) h refl refl refl refl
branches_again Bcc n h = number_row 0o206 n (Branch Bcc n) h refl refl refl refl
branches_again Bhis n h = number_row 0o206 n (Branch Bcc n) h refl refl refl refl
branches_again Bcs n h = number_row 0o207 n (Branch Bcs n) h refl refl refl refl
branches_again Blo n h = number_row 0o207 n (Branch Bcs n) h refl refl refl refl

singles_again : (op : Un) (width : Width) (dst : Field) → HasSingle op width → IsField dst → decode_of (code_of (Single op width dst)) ≡ Some (Single op width dst)
singles_again Clr Word dst h f = field_row 0o0050 (λ t. Single Clr Word t) dst f refl
singles_again Clr Byte dst h f = field_row 0o1050 (λ t. Single Clr Byte t) dst f refl
singles_again Com Word dst h f = field_row 0o0051 (λ t. Single Com Word t) dst f refl
singles_again Com Byte dst h f = field_row 0o1051 (λ t. Single Com Byte t) dst f refl
singles_again Inc Word dst h f = field_row 0o0052 (λ t. Single Inc Word t) dst f refl
singles_again Inc Byte dst h f = field_row 0o1052 (λ t. Single Inc Byte t) dst f refl
singles_again Dec Word dst h f = field_row 0o0053 (λ t. Single Dec Word t) dst f refl
singles_again Dec Byte dst h f = field_row 0o1053 (λ t. Single Dec Byte t) dst f refl
singles_again Neg Word dst h f = field_row 0o0054 (λ t. Single Neg Word t) dst f refl
singles_again Neg Byte dst h f = field_row 0o1054 (λ t. Single Neg Byte t) dst f refl
singles_again Adc Word dst h f = field_row 0o0055 (λ t. Single Adc Word t) dst f refl
singles_again Adc Byte dst h f = field_row 0o1055 (λ t. Single Adc Byte t) dst f refl
singles_again Sbc Word dst h f = field_row 0o0056 (λ t. Single Sbc Word t) dst f refl
singles_again Sbc Byte dst h f = field_row 0o1056 (λ t. Single Sbc Byte t) dst f refl
singles_again Tst Word dst h f = field_row 0o0057 (λ t. Single Tst Word t) dst f refl
singles_again Tst Byte dst h f = field_row 0o1057 (λ t. Single Tst Byte t) dst f refl
singles_again Ror Word dst h f = field_row 0o0060 (λ t. Single Ror Word t) dst f refl
singles_again Ror Byte dst h f = field_row 0o1060 (λ t. Single Ror Byte t) dst f refl
singles_again Rol Word dst h f = field_row 0o0061 (λ t. Single Rol Word t) dst f refl
singles_again Rol Byte dst h f = field_row 0o1061 (λ t. Single Rol Byte t) dst f refl
singles_again Asr Word dst h f = field_row 0o0062 (λ t. Single Asr Word t) dst f refl
singles_again Asr Byte dst h f = field_row 0o1062 (λ t. Single Asr Byte t) dst f refl
singles_again Asl Word dst h f = field_row 0o0063 (λ t. Single Asl Word t) dst f refl
singles_again Asl Byte dst h f = field_row 0o1063 (λ t. Single Asl Byte t) dst f refl
singles_again Swab Word dst h f = field_row 0o0003 (λ t. Single Swab Word t) dst f refl
singles_again Swab Byte dst h f = absurd h
singles_again Sxt Word dst h f = field_row 0o0067 (λ t. Single Sxt Word t) dst f refl
singles_again Sxt Byte dst h f = absurd h

mfp_again : (space : Space) (f : Field) → IsField f → decode_of (code_of (Mfp space f)) ≡ Some (Mfp space f)
mfp_again I f h = field_row 0o0065 (λ t. Mfp I t) f h refl
mfp_again D f h = field_row 0o1065 (λ t. Mfp D t) f h refl

mtp_again : (space : Space) (f : Field) → IsField f → decode_of (code_of (Mtp space f)) ≡ Some (Mtp space f)
mtp_again I f h = field_row 0o0066 (λ t. Mtp I t) f h refl
mtp_again D f h = field_row 0o1066 (λ t. Mtp D t) f h refl

-- the words whose top ten bits are 2
rts_row : (reg : ℕ) → reg < 8 → parts_of 2 reg ≡ Some (Rts reg)
rts_row reg h = grind (arith, nat_tests)

spl_row : (level : ℕ) → level < 8 → parts_of 2 (24 + level) ≡ Some (Spl level)
spl_row level h = grind (arith, nat_tests)

clear_row : (mask : ℕ) → mask < 16 → parts_of 2 (32 + mask) ≡ Some (Codes false mask)
clear_row mask h = grind (arith, nat_tests)

set_row : (mask : ℕ) → mask < 16 → parts_of 2 (48 + mask) ≡ Some (Codes true mask)
set_row mask h = grind (arith, nat_tests)

codes_again : (set : Bool) (mask : ℕ) → mask < 16 → decode_of (code_of (Codes set mask)) ≡ Some (Codes set mask)
codes_again true mask h =
    let e : 176 + mask ≡ 128 + (48 + mask) = omega arith in
    ap decode_of e ∙ decode_parts 2 (48 + mask) (omega (arith, h)) ∙ set_row mask h
codes_again false mask h =
    let e : 160 + mask ≡ 128 + (32 + mask) = omega arith in
    ap decode_of e ∙ decode_parts 2 (32 + mask) (omega (arith, h)) ∙ clear_row mask h

-- an instruction that the table lists is read again from its word
pub decode_of-code_of : (i : Instr) → IsListed i → decode_of (code_of i) ≡ Some (primary i)
decode_of-code_of (Double op width src dst) h = doubles_again op width src dst h.0 h.1 h.2
decode_of-code_of (Single op width dst) h = singles_again op width dst h.0 h.1
decode_of-code_of (Xor reg dst) h = register_field_row 0o074 reg dst (λ n f. Xor n f) h.0 h.1 refl refl
decode_of-code_of (Eis op reg src) h = eis_again op reg src h.0 h.1
decode_of-code_of (Jmp dst) h = field_row 0o0001 (λ t. Jmp t) dst h refl
decode_of-code_of (Jsr reg dst) h = register_field_row 0o004 reg dst (λ n f. Jsr n f) h.0 h.1 refl refl
decode_of-code_of (Rts reg) h = decode_parts 2 reg (omega (arith, h)) ∙ rts_row reg h
decode_of-code_of (Sob reg back) h = register_row 0o077 reg back (Sob reg back) h.0 h.1 refl refl
decode_of-code_of (Mark count) h = decode_parts 0o0064 count h
decode_of-code_of (Mfp space src) h = mfp_again space src h
decode_of-code_of (Mtp space dst) h = mtp_again space dst h
decode_of-code_of (Branch cond n) h = branches_again cond n h
decode_of-code_of (Codes set mask) h = codes_again set mask h
decode_of-code_of (Spl level) h =
    let e : 152 + level ≡ 128 + (24 + level) = omega arith in
    ap decode_of e ∙ decode_parts 2 (24 + level) (omega (arith, h)) ∙ spl_row level h
decode_of-code_of (Emt n) h = number_row 0o210 n (Emt n) h refl refl refl refl
decode_of-code_of (Trap n) h = number_row 0o211 n (Trap n) h refl refl refl refl
decode_of-code_of Halt h = refl
decode_of-code_of Wait h = refl
decode_of-code_of Rti h = refl
decode_of-code_of Bpt h = refl
decode_of-code_of Iot h = refl
decode_of-code_of Reset h = refl
decode_of-code_of Rtt h = refl

-- no listed instruction has a word that decodes to none
pub none_listed : (r : Option Instr) (w : ℕ) → r ≡ decode_of w → IfNone r ((i : Instr) → IsListed i → code_of i ≢ w)
none_listed (Some i) w e = tt
none_listed None w e = λ i h f.
    let bad : None ≡ Some (primary i) = e ∙ ap decode_of (sym f) ∙ decode_of-code_of i h in
    cc
