use Rattle.std.specs.Prelude.{◌≡◌, Option, Some, None, IsOk}
use Rattle.bk_space.specs.declared.cause.Cause.{Cause}
use Rattle.bk_space.specs.declared.cause.Cause.TheVariants as causes
use Rattle.bk_space.specs.declared.registers.Regs.{Regs}
use Rattle.bk_space.specs.AddrSpace.{AddrSpace, Write, write_at}
use Rattle.bk_exec.specs.Exec.{Done}

-- the faults 0 to 4: an abort, or a reserved instruction
abbrev pub IsCutOff : Cause → Type 0
IsCutOff causes.Odd = Unit {0}
IsCutOff causes.NonResident = Unit {0}
IsCutOff causes.Length = Unit {0}
IsCutOff causes.ReadOnly = Unit {0}
IsCutOff causes.Reserved = Unit {0}
IsCutOff causes.Break = ⊥
IsCutOff causes.Iot = ⊥
IsCutOff causes.Trap = ⊥

-- the registers are those before, and nothing is written
pub record ChangesNothing (before : Regs) (done : Done) : Type 0 where
  pub registers : done.regs ≡ before
  pub nothing : done.write ≡ None

-- no write, or one that completes
abbrev pub IsAllowed : AddrSpace → Option Write → Type 0
IsAllowed pages None = Unit {0}
IsAllowed pages (Some w) = IsOk (write_at pages w.mode w.space w.width w.addr)
