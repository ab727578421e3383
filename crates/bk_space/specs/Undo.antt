use Rattle.std.specs.Prelude.{◌≡◌, ℕ, ℤ, pos, ◌-ℤ◌, Option, Some, None}
use Rattle.bk_space.specs.declared.registers.Regs.{Regs}
use Rattle.bk_space.specs.Registers.{reg, with_reg, wrapped, moved}
use Rattle.bk_space.specs.Trail.{Trail}

-- the registers before a noted change
unfoldable pub taken_back : Option (ℕ × ℤ) → Regs → Regs
taken_back None regs = regs
taken_back (Some note) regs = with_reg regs note.0 (wrapped (pos (reg regs note.0) -ℤ note.1))

-- the registers before all that is noted, with the address of the instruction
unfoldable pub undone : Trail → Regs → Regs
undone trail regs = record (taken_back trail.first (taken_back trail.second regs)) { pc = trail.pc }

-- a note goes behind the first, where there is one
abbrev pub noted_at : Option (ℕ × ℤ) → Trail → ℕ × ℤ → Trail
noted_at None trail note = record trail { first = Some note }
noted_at (Some _) trail note = record trail { second = Some note }

-- one note more
unfoldable pub noted : Trail → ℕ → ℤ → Trail
noted trail n amount = noted_at trail.first trail (n, amount)

-- there is room for another note
pub record HasRoom (trail : Trail) : Type 0 where
  pub second : trail.second ≡ None

-- nothing is noted
pub record IsFresh (trail : Trail) : Type 0 where
  pub first : trail.first ≡ None
  pub second : trail.second ≡ None

-- the registers after a noted change
abbrev pub moved_by : Option (ℕ × ℤ) → Regs → Regs
moved_by None regs = regs
moved_by (Some note) regs = moved regs note.0 note.1

-- since the trail began at these registers, they have changed in the PC and by the noted amounts alone
pub record HasMoved (trail : Trail) (before after : Regs) : Type 0 where
  pub began : trail.pc ≡ before.pc
  pub alone : ◌≡◌ {A = Regs} (record after { pc = before.pc }) (record (moved_by trail.second (moved_by trail.first before)) { pc = before.pc })
