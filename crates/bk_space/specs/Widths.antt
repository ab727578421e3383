use Rattle.std.specs.Prelude.{ℕ}
use Rattle.bk_space.specs.declared.reference.Width.{Width}
use Rattle.bk_space.specs.declared.reference.Width.TheVariants.{Word, Byte}

-- how many bits a width has
abbrev pub bits_of : Width → ℕ
bits_of Word = 16
bits_of Byte = 8
