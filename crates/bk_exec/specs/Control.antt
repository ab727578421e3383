use Rattle.std.specs.Prelude.{ℕ, Bool, true, false, not, ◌&&◌, ◌||◌, pos, ◌+ℤ◌, ◌*ℤ◌, ◌*◌, if◌then◌else◌, None}
use Rattle.bk_space.specs.declared.reference.Space.TheVariants.{D}
use Rattle.bk_space.specs.declared.reference.Width.TheVariants.{Word}
use Rattle.bk_space.specs.declared.field.Field.{Field}
use Rattle.bk_space.specs.declared.flags.Flags.{Flags}
use Rattle.bk_space.specs.declared.cause.Cause.TheVariants as causes
use Rattle.bk_space.specs.declared.registers.Regs.{Regs}
use Rattle.bk_space.specs.AddrSpace.{AddrSpace}
use Rattle.bk_space.specs.Registers.{reg, with_reg, wrapped}
use Rattle.bk_space.specs.Status as status
use Rattle.bk_isa.specs.declared.operation.Cond.{Cond}
use Rattle.bk_isa.specs.declared.operation.Cond.TheVariants.{Br, Bne, Beq, Bge, Blt, Bgt, Ble, Bpl, Bmi, Bhi, Blos, Bvc, Bvs, Bcc, Bhis, Bcs, Blo}
use Rattle.bk_isa.specs.Numbers.{signed}
use Rattle.bk_operand.specs.declared.place.Place.{Place}
use Rattle.bk_operand.specs.declared.place.Place.TheVariants.{Reg, Mem}
use Rattle.bk_operand.specs.Part.{Part, given, cut_off, ◌>>=◌, reading, plus}
use Rattle.bk_operand.specs.Operand.{located}
use Rattle.bk_exec.specs.declared.ending.Ending.{Ending}
use Rattle.bk_exec.specs.Given.{Given, done, pushed, popped}

-- one of two, and not the other
abbrev pub differ : Bool → Bool → Bool
differ true b = not b
differ false b = b

-- whether a branch is taken
abbrev pub is_taken : Cond → Flags → Bool
is_taken Br f = true
is_taken Bne f = not f.z
is_taken Beq f = f.z
is_taken Bge f = not (differ f.n f.v)
is_taken Blt f = differ f.n f.v
is_taken Bgt f = not f.z && not (differ f.n f.v)
is_taken Ble f = f.z || differ f.n f.v
is_taken Bpl f = not f.n
is_taken Bmi f = f.n
is_taken Bhi f = not f.c && not f.z
is_taken Blos f = f.c || f.z
is_taken Bvc f = not f.v
is_taken Bvs f = f.v
is_taken Bcc f = not f.c
is_taken Bhis f = not f.c
is_taken Bcs f = f.c
is_taken Blo f = f.c

-- a signed offset in words from the program counter after the instruction
abbrev pub target : ℕ → ℕ → ℕ
target pc offset = wrapped (pos pc +ℤ (pos 2 *ℤ signed 8 offset))

-- a branch, where its condition holds
unfoldable pub branched : Cond → ℕ → Regs → Regs
branched cond offset regs = if is_taken cond regs.ps.flags then record regs { pc = target regs.pc offset } else regs

-- JMP to a place: a register is none
abbrev pub jump_to : Place → Regs → Part Given
jump_to (Reg r) regs = cut_off causes.Reserved
jump_to (Mem space addr) regs = done None (record regs { pc = addr })

-- JMP: the address is formed and not read
unfoldable pub jumping : AddrSpace → Field → Regs → Part Given
jumping pages dst regs = do
  to ← located pages Word dst regs
  jump_to to.0 to.1

-- JSR to a place: the register is pushed with its value before the push, takes the PC, and the PC takes the address
unfoldable pub call_to : AddrSpace → ℕ → Place → Regs → Part Given
call_to pages r (Reg n) regs = cut_off causes.Reserved
call_to pages r (Mem space addr) regs = do
  write ← pushed pages (reg regs r) regs
  done write.0 (record (with_reg write.1 r write.1.pc) { pc = addr })

-- JSR: the address is formed first
unfoldable pub calling : AddrSpace → ℕ → Field → Regs → Part Given
calling pages r dst regs = do
  to ← located pages Word dst regs
  call_to pages r to.0 to.1

-- RTS: a word is popped, the PC takes the register's value before that, and the register takes the word
unfoldable pub returning : AddrSpace → ℕ → Regs → Part Given
returning pages r regs = do
  word ← popped pages regs
  done None (with_reg (record word.1 { pc = reg regs r }) r word.0)

-- MARK: the stack pointer becomes the PC and so many words, the PC becomes R5, and R5 is popped
unfoldable pub marking : AddrSpace → ℕ → Regs → Part Given
marking pages count regs =
    let sp = plus regs.pc (2 * count) in do
      word ← reading pages regs.ps.mode D Word sp regs
      done None (with_reg (record (with_reg word.1 6 (plus sp 2)) { pc = reg regs 5 }) 5 word.0)

-- RTI and RTT: the PC and then the status are popped, by the mode before
unfoldable pub resuming : AddrSpace → Ending → Regs → Part Given
resuming pages ending regs = do
  pc ← reading pages regs.ps.mode D Word (reg regs 6) regs
  ps ← reading pages regs.ps.mode D Word (plus (reg regs 6) 2) pc.1
  given (None, ending) (record (with_reg ps.1 6 (plus (reg regs 6) 4)) { pc = pc.0; ps = status.popped regs.ps ps.0 })

-- a condition code is set or cleared where its bit of the mask is 1
abbrev pub code_by : Bool → Bool → Bool → Bool
code_by chosen set old = if chosen then set else old

-- the condition codes of a mask: N is bit 3, Z 2, V 1 and C 0
abbrev pub codes_of : Bool → ℕ → Flags → Flags
codes_of set mask f = record {
  n = code_by (status.has_bit mask 0o10) set f.n;
  z = code_by (status.has_bit mask 0o4) set f.z;
  v = code_by (status.has_bit mask 0o2) set f.v;
  c = code_by (status.has_bit mask 0o1) set f.c;
}
