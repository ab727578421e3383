-- Operands in registers.
use Rattle.std.specs.Prelude.{ℕ}
use Rattle.bk_space.specs.declared.field.Field.{Field}

-- mode 0: the field of a register
abbrev pub direct : ℕ → Field
direct r = record { mode = 0; reg = r }
