use Rattle.std.specs.Prelude.{ℕ, pos, ◌+◌, ◌-◌, ◌%◌, ◌^◌, Option}
use Rattle.bk_space.specs.declared.reference.Space.TheVariants.{D}
use Rattle.bk_space.specs.declared.reference.Width.TheVariants.{Word}
use Rattle.bk_space.specs.declared.flags.Flags.{Flags}
use Rattle.bk_space.specs.declared.registers.Regs.{Regs}
use Rattle.bk_space.specs.AddrSpace.{AddrSpace, Write}
use Rattle.bk_space.specs.Registers.{reg, with_reg, moved}
use Rattle.bk_operand.specs.Part.{Part, given, ◌>>=◌, reading, writing}
use Rattle.bk_exec.specs.declared.ending.Ending.{Ending}
use Rattle.bk_exec.specs.declared.ending.Ending.TheVariants.{Completed}

-- what an instruction gives where no fault cuts it off: at most one write, and how it ends
abbrev pub Given : Type 0
Given = Option Write × Ending

-- it has completed with at most one write, and leaves these registers
abbrev pub done : Option Write → Regs → Part Given
done write regs = given (write, Completed) regs

-- the condition codes are replaced
abbrev pub with_flags : Regs → Flags → Regs
with_flags regs flags = record regs { ps = record regs.ps { flags = flags } }

-- a word less an amount of at most 2 ^ 16
abbrev pub minus : ℕ → ℕ → ℕ
minus word amount = (word + (2 ^ 16 - amount)) % 2 ^ 16

-- a word is pushed in D space of the current mode: below the stack pointer, which then moves down by 2
unfoldable pub pushed : AddrSpace → ℕ → Regs → Part (Option Write)
pushed pages value regs = do
  write ← writing pages (record { mode = regs.ps.mode; space = D; width = Word; addr = minus (reg regs 6) 2; value = value }) regs
  given write.0 (with_reg write.1 6 (minus (reg regs 6) 2))

-- a word is popped in D space of the current mode: at the stack pointer, which then moves up by 2
unfoldable pub popped : AddrSpace → Regs → Part ℕ
popped pages regs = do
  word ← reading pages regs.ps.mode D Word (reg regs 6) regs
  given word.0 (moved word.1 6 (pos 2))
