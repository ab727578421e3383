use Rattle.std.specs.Prelude.{ℕ, ◌==◌, if◌then◌else◌, Option, Some, None}
use Rattle.bk_space.specs.declared.reference.Mode.{Mode}
use Rattle.bk_space.specs.declared.reference.Space.{Space}
use Rattle.bk_space.specs.declared.reference.Width.TheVariants.{Word}
use Rattle.bk_space.specs.declared.field.Field.{Field}
use Rattle.bk_space.specs.declared.registers.Regs.{Regs}
use Rattle.bk_space.specs.AddrSpace.{AddrSpace, Write}
use Rattle.bk_space.specs.Registers.{reg, with_reg, stack_of, with_stack}
use Rattle.bk_isa.specs.declared.operation.Bin.TheVariants.{Mov}
use Rattle.bk_isa.specs.Results.{binary_of}
use Rattle.bk_operand.specs.declared.place.Place.{Place}
use Rattle.bk_operand.specs.declared.place.Place.TheVariants.{Reg, Mem}
use Rattle.bk_operand.specs.Part.{Part, given, ◌>>=◌, reading, writing}
use Rattle.bk_operand.specs.Operand.{located}
use Rattle.bk_exec.specs.Given.{Given, done, with_flags, pushed, popped}

-- the value of an operand of the previous mode: register 6 is its stack pointer; in memory the instruction names the space
unfoldable pub fetched_previous : AddrSpace → Space → Place → Regs → Part ℕ
fetched_previous pages space (Reg r) regs = given (if r == 6 then stack_of regs.ps.previous regs else reg regs r) regs
fetched_previous pages space (Mem own addr) regs = reading pages regs.ps.previous space Word addr regs

-- what storing a word for the previous mode writes to the bus
abbrev pub previous_write : Mode → Space → Place → ℕ → Option Write
previous_write mode space (Reg r) value = None
previous_write mode space (Mem own addr) value = Some (record { mode = mode; space = space; width = Word; addr = addr; value = value })

-- a word is stored for the previous mode
unfoldable pub stored_previous : AddrSpace → Space → Place → ℕ → Regs → Part (Option Write)
stored_previous pages space (Reg r) value regs =
    given None (if r == 6 then with_stack regs.ps.previous regs value else with_reg regs r value)
stored_previous pages space (Mem own addr) value regs =
    writing pages (record { mode = regs.ps.previous; space = space; width = Word; addr = addr; value = value }) regs

-- MFPI and MFPD: an operand of the previous mode is pushed on the current stack; the address is formed by current registers
unfoldable pub moving_from : AddrSpace → Space → Field → Regs → Part Given
moving_from pages space src regs = do
  from ← located pages Word src regs
  value ← fetched_previous pages space from.0 from.1
  write ← pushed pages value.0 value.1
  done write.0 (with_flags write.1 (binary_of Mov Word value.0 0 write.1.ps.flags).1)

-- MTPI and MTPD: the current stack is popped, then the address is formed, and the word goes to the previous mode
unfoldable pub moving_to : AddrSpace → Space → Field → Regs → Part Given
moving_to pages space dst regs = do
  word ← popped pages regs
  to ← located pages Word dst word.1
  write ← stored_previous pages space to.0 word.0 to.1
  done write.0 (with_flags write.1 (binary_of Mov Word word.0 0 write.1.ps.flags).1)
