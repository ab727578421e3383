use Rattle.std.specs.Prelude.{ℕ, ℤ, pos, negsuc, ◌+◌, ◌*◌, ◌/◌, ◌%◌, ◌^◌, ◌<◌, ◌==◌, nat_le, if◌then◌else◌, Option, Some, None}
use Rattle.bk_space.specs.declared.reference.Mode.{Mode}
use Rattle.bk_space.specs.declared.reference.Space.{Space}
use Rattle.bk_space.specs.declared.reference.Space.TheVariants.{I, D}
use Rattle.bk_space.specs.declared.reference.Width.{Width}
use Rattle.bk_space.specs.declared.reference.Width.TheVariants.{Word, Byte}
use Rattle.bk_space.specs.declared.field.Field.{Field}
use Rattle.bk_space.specs.declared.registers.Regs.{Regs}
use Rattle.bk_space.specs.AddrSpace.{AddrSpace, Write}
use Rattle.bk_space.specs.Registers.{reg, with_reg, moved}
use Rattle.bk_operand.specs.declared.place.Place.{Place}
use Rattle.bk_operand.specs.declared.place.Place.TheVariants.{Reg, Mem}
use Rattle.bk_operand.specs.Part.{Part, given, ◌>>=◌, reading, writing, next_word, plus}

-- the space of what a register addresses: I through the program counter (for modes 1, 4 and 5, own), else D
abbrev pub own_space : ℕ → Space
own_space r = if r == 7 then I else D

-- by how much modes 2 and 4 move a register: by 1 for a byte, but by 2 through R6 and R7
abbrev pub step_up : Width → ℕ → ℤ
step_up Word r = pos 2
step_up Byte r = if nat_le 6 r then pos 2 else pos 1

-- .. down
abbrev pub step_down : Width → ℕ → ℤ
step_down Word r = negsuc 1
step_down Byte r = if nat_le 6 r then negsuc 1 else negsuc 0

-- through the pointer at an address: what it points at is in D space
unfoldable pub pointed : AddrSpace → Space → ℕ → Regs → Part Place
pointed pages space addr regs = do
  pointer ← reading pages regs.ps.mode space Word addr regs
  given (Mem D pointer.0) pointer.1

-- mode 0, register: the register itself
abbrev pub in_register : ℕ → Regs → Part Place
in_register r regs = given (Reg r) regs

-- mode 1, deferred: the register is the address
abbrev pub deferred : ℕ → Regs → Part Place
deferred r regs = given (Mem (own_space r) (reg regs r)) regs

-- mode 2, autoincrement: the register is the address, and then moves up
abbrev pub incremented : Width → ℕ → Regs → Part Place
incremented width r regs = given (Mem (own_space r) (reg regs r)) (moved regs r (step_up width r))

-- mode 3, autoincrement deferred: the register is the address of a pointer, and then moves up by 2
abbrev pub incremented_deferred : AddrSpace → ℕ → Regs → Part Place
incremented_deferred pages r regs = pointed pages (own_space r) (reg regs r) (moved regs r (pos 2))

-- mode 4, autodecrement: the register moves down, and then is the address
abbrev pub decremented : Width → ℕ → Regs → Part Place
decremented width r regs = deferred r (moved regs r (step_down width r))

-- mode 5, autodecrement deferred: the register moves down by 2, and then is the address of a pointer
abbrev pub pointed_by : AddrSpace → ℕ → Regs → Part Place
pointed_by pages r regs = pointed pages (own_space r) (reg regs r) regs

-- .. once it has moved
abbrev pub decremented_deferred : AddrSpace → ℕ → Regs → Part Place
decremented_deferred pages r regs = pointed_by pages r (moved regs r (negsuc 1))

-- mode 6, index: the next word is read, and then the register is added
unfoldable pub indexed : AddrSpace → ℕ → Regs → Part Place
indexed pages r regs = do
  word ← next_word pages regs
  given (Mem D (plus word.0 (reg word.1 r))) word.1

-- mode 7, index deferred: the sum is the address of a pointer
unfoldable pub indexed_deferred : AddrSpace → ℕ → Regs → Part Place
indexed_deferred pages r regs = do
  word ← next_word pages regs
  pointed pages D (plus word.0 (reg word.1 r)) word.1

-- the place of an operand, by its field
unfoldable pub located : AddrSpace → Width → Field → Regs → Part Place
located pages width field regs =
    if field.mode == 0 then in_register field.reg regs else (
    if field.mode == 1 then deferred field.reg regs else (
    if field.mode == 2 then incremented width field.reg regs else (
    if field.mode == 3 then incremented_deferred pages field.reg regs else (
    if field.mode == 4 then decremented width field.reg regs else (
    if field.mode == 5 then decremented_deferred pages field.reg regs else (
    if field.mode == 6 then indexed pages field.reg regs else
    indexed_deferred pages field.reg regs))))))

-- a register of a place is below 8
abbrev pub IsPlace : Place → Type 0
IsPlace (Reg r) = r < 8
IsPlace (Mem space addr) = Unit {0}

-- a register's value at a width: the word, or its low byte
abbrev pub low_part : Width → ℕ → ℕ
low_part Word value = value
low_part Byte value = value % 2 ^ 8

-- the value of an operand
unfoldable pub fetched : AddrSpace → Width → Place → Regs → Part ℕ
fetched pages width (Reg r) regs = given (low_part width (reg regs r)) regs
fetched pages width (Mem space addr) regs = reading pages regs.ps.mode space width addr regs

-- a register's value after a result at a width: a byte changes the low byte alone
abbrev pub with_low_part : Width → ℕ → ℕ → ℕ
with_low_part Word old value = value
with_low_part Byte old value = old / 2 ^ 8 * 2 ^ 8 + value

-- what storing a value writes to the bus
abbrev pub write_of : Mode → Width → Place → ℕ → Option Write
write_of mode width (Reg r) value = None
write_of mode width (Mem space addr) value = Some (record { mode = mode; space = space; width = width; addr = addr; value = value })

-- a value is stored, in a register or by a write
unfoldable pub stored : AddrSpace → Width → Place → ℕ → Regs → Part (Option Write)
stored pages width (Reg r) value regs = given None (with_reg regs r (with_low_part width (reg regs r) value))
stored pages width (Mem space addr) value regs = writing pages (record { mode = regs.ps.mode; space = space; width = width; addr = addr; value = value }) regs
