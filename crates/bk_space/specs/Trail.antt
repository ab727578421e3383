use Rattle.std.specs.Prelude.{ℕ, ℤ, pos, negsuc, ◌+◌, ◌-◌, ◌*◌, ◌%◌, Option, Some, None}
use Rattle.bk_space.specs.declared.note.Note.{Note}

-- the address of an instruction, and up to two registers with the amounts by which they moved
pub record Trail : Type 0 where
  pub pc : ℕ
  pub first : Option (ℕ × ℤ)
  pub second : Option (ℕ × ℤ)

-- a note as register and amount
abbrev pub pair_of : Option Note → Option (ℕ × ℤ)
pair_of None = None
pair_of (Some note) = Some (note.reg, note.amount)

-- a signed amount in five bits
abbrev pub five_bits : ℤ → ℕ
five_bits (pos n) = n % 32
five_bits (negsuc n) = 31 - n % 32

-- the amount in bits 7 to 3 and the register in bits 2 to 0, or 0 where nothing is noted
abbrev pub byte_of : Option (ℕ × ℤ) → ℕ
byte_of None = 0
byte_of (Some note) = five_bits note.1 * 8 + note.0

-- the first change in the low byte, the second in the high byte
abbrev pub sr1_of : Trail → ℕ
sr1_of trail = byte_of trail.second * 256 + byte_of trail.first
