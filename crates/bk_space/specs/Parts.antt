-- The bytes of a word in memory: the low byte stands at the even address.
use Rattle.std.specs.Prelude.{ℕ, ◌+◌, ◌*◌, ◌/◌, ◌%◌, ◌^◌, ◌==◌, if◌then◌else◌}
use Rattle.bk_space.specs.declared.reference.Width.{Width}
use Rattle.bk_space.specs.declared.reference.Width.TheVariants.{Word, Byte}

-- the byte of a word that stands at the address
abbrev pub byte_in : (addr word : ℕ) → ℕ
byte_in addr word = if addr % 2 == 0 then word % 2 ^ 8 else word / 2 ^ 8

-- a word with the byte at the address replaced
abbrev pub with_byte : (addr byte word : ℕ) → ℕ
with_byte addr byte word = if addr % 2 == 0 then word / 2 ^ 8 * 2 ^ 8 + byte else byte * 2 ^ 8 + word % 2 ^ 8

-- a word once a value is written at the address: the value itself, or one of its bytes replaced
abbrev pub merged : Width → (addr value word : ℕ) → ℕ
merged Word addr value word = value
merged Byte addr value word = with_byte addr value word
