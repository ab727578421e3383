use Rattle.std.specs.Prelude.{ℕ, ◌+◌, nat_lt, if◌then◌else◌, None}
use Rattle.bk_space.specs.declared.reference.Width.{Width}
use Rattle.bk_space.specs.declared.reference.Width.TheVariants.{Word, Byte}
use Rattle.bk_space.specs.declared.field.Field.{Field}
use Rattle.bk_space.specs.declared.registers.Regs.{Regs}
use Rattle.bk_space.specs.AddrSpace.{AddrSpace}
use Rattle.bk_space.specs.Registers.{reg}
use Rattle.bk_isa.specs.declared.operation.Bin.{Bin}
use Rattle.bk_isa.specs.declared.operation.Bin.TheVariants.{Mov, Cmp, Bit, Bic, Bis, Add, Sub}
use Rattle.bk_isa.specs.declared.operation.Un.{Un}
use Rattle.bk_isa.specs.declared.operation.Un.TheVariants.{Clr, Com, Inc, Dec, Neg, Adc, Sbc, Tst, Ror, Rol, Asr, Asl, Swab, Sxt}
use Rattle.bk_isa.specs.Results.{binary_of, unary_of, xor_of}
use Rattle.bk_operand.specs.declared.place.Place.{Place}
use Rattle.bk_operand.specs.declared.place.Place.TheVariants.{Reg, Mem}
use Rattle.bk_operand.specs.Part.{Part, given, ◌>>=◌}
use Rattle.bk_operand.specs.Operand.{located, fetched, stored}
use Rattle.bk_exec.specs.Given.{Given, done, with_flags}

-- MOVB to a register writes the whole word
abbrev pub moved_width : Width → Place → Width
moved_width Word place = Word
moved_width Byte (Reg r) = Word
moved_width Byte (Mem space addr) = Byte

-- .. which is the byte with its sign extended
abbrev pub sign_extended : Width → Place → ℕ → ℕ
sign_extended Word place value = value
sign_extended Byte (Reg r) value = if nat_lt value 0o200 then value else value + 0o177400
sign_extended Byte (Mem space addr) value = value

-- the source's value and the destination's place: the source is fetched whole before the destination's address is formed, so
-- that (R)+ as destination sees R already stepped
unfoldable pub sourced : AddrSpace → Width → Field → Field → Regs → Part (ℕ × Place)
sourced pages width src dst regs = do
  from ← located pages width src regs
  value ← fetched pages width from.0 from.1
  to ← located pages width dst value.1
  given (value.0, to.0) to.1

-- MOV to a place: it is written and not read
unfoldable pub moved_to : AddrSpace → Width → ℕ → Place → Regs → Part Given
moved_to pages width value to regs = do
  write ← stored pages (moved_width width to) to (sign_extended width to value) regs
  done write.0 (with_flags write.1 (binary_of Mov width value 0 write.1.ps.flags).1)

-- MOV
unfoldable pub moving : AddrSpace → Width → Field → Field → Regs → Part Given
moving pages width src dst regs = do
  both ← sourced pages width src dst regs
  moved_to pages width both.0.0 both.0.1 both.1

-- CMP and BIT: the destination is read and not written
unfoldable pub comparing : AddrSpace → Bin → Width → Field → Field → Regs → Part Given
comparing pages op width src dst regs = do
  both ← sourced pages width src dst regs
  old ← fetched pages width both.0.1 both.1
  done None (with_flags old.1 (binary_of op width both.0.0 old.0 old.1.ps.flags).1)

-- BIC, BIS, ADD and SUB: the destination is read and then written
unfoldable pub combining : AddrSpace → Bin → Width → Field → Field → Regs → Part Given
combining pages op width src dst regs = do
  both ← sourced pages width src dst regs
  old ← fetched pages width both.0.1 both.1
  write ← stored pages width both.0.1 (binary_of op width both.0.0 old.0 old.1.ps.flags).0 old.1
  done write.0 (with_flags write.1 (binary_of op width both.0.0 old.0 old.1.ps.flags).1)

-- the instructions with two fields
unfoldable pub double_of : AddrSpace → Bin → Width → Field → Field → Regs → Part Given
double_of pages Mov width src dst regs = moving pages width src dst regs
double_of pages Cmp width src dst regs = comparing pages Cmp width src dst regs
double_of pages Bit width src dst regs = comparing pages Bit width src dst regs
double_of pages Bic width src dst regs = combining pages Bic width src dst regs
double_of pages Bis width src dst regs = combining pages Bis width src dst regs
double_of pages Add width src dst regs = combining pages Add width src dst regs
double_of pages Sub width src dst regs = combining pages Sub width src dst regs

-- CLR and SXT: the destination is written and not read (own)
unfoldable pub setting : AddrSpace → Un → Width → Field → Regs → Part Given
setting pages op width dst regs = do
  to ← located pages width dst regs
  write ← stored pages width to.0 (unary_of op width 0 to.1.ps.flags).0 to.1
  done write.0 (with_flags write.1 (unary_of op width 0 to.1.ps.flags).1)

-- TST: the destination is read and not written
unfoldable pub testing : AddrSpace → Width → Field → Regs → Part Given
testing pages width dst regs = do
  to ← located pages width dst regs
  old ← fetched pages width to.0 to.1
  done None (with_flags old.1 (unary_of Tst width old.0 old.1.ps.flags).1)

-- the others: the destination is read and then written
unfoldable pub changing : AddrSpace → Un → Width → Field → Regs → Part Given
changing pages op width dst regs = do
  to ← located pages width dst regs
  old ← fetched pages width to.0 to.1
  write ← stored pages width to.0 (unary_of op width old.0 old.1.ps.flags).0 old.1
  done write.0 (with_flags write.1 (unary_of op width old.0 old.1.ps.flags).1)

-- the instructions with one field
unfoldable pub single_of : AddrSpace → Un → Width → Field → Regs → Part Given
single_of pages Clr width dst regs = setting pages Clr width dst regs
single_of pages Com width dst regs = changing pages Com width dst regs
single_of pages Inc width dst regs = changing pages Inc width dst regs
single_of pages Dec width dst regs = changing pages Dec width dst regs
single_of pages Neg width dst regs = changing pages Neg width dst regs
single_of pages Adc width dst regs = changing pages Adc width dst regs
single_of pages Sbc width dst regs = changing pages Sbc width dst regs
single_of pages Tst width dst regs = testing pages width dst regs
single_of pages Ror width dst regs = changing pages Ror width dst regs
single_of pages Rol width dst regs = changing pages Rol width dst regs
single_of pages Asr width dst regs = changing pages Asr width dst regs
single_of pages Asl width dst regs = changing pages Asl width dst regs
single_of pages Swab width dst regs = changing pages Swab width dst regs
single_of pages Sxt width dst regs = setting pages Sxt width dst regs

-- XOR: the register's value is that before the address is formed (own)
unfoldable pub exclusive : AddrSpace → ℕ → Field → Regs → Part Given
exclusive pages r dst regs = do
  to ← located pages Word dst regs
  old ← fetched pages Word to.0 to.1
  write ← stored pages Word to.0 (xor_of (reg regs r) old.0 old.1.ps.flags).0 old.1
  done write.0 (with_flags write.1 (xor_of (reg regs r) old.0 old.1.ps.flags).1)
