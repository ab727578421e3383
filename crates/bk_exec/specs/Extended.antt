use Rattle.std.specs.Prelude.{ℕ, ◌+◌, ◌*◌, ◌/◌, ◌==◌, if◌then◌else◌, Option, Some, None}
use Rattle.bk_space.specs.declared.reference.Width.TheVariants.{Word}
use Rattle.bk_space.specs.declared.field.Field.{Field}
use Rattle.bk_space.specs.declared.registers.Regs.{Regs}
use Rattle.bk_space.specs.AddrSpace.{AddrSpace}
use Rattle.bk_space.specs.Registers.{reg, with_reg}
use Rattle.bk_isa.specs.declared.operation.EisOp.{EisOp}
use Rattle.bk_isa.specs.declared.operation.EisOp.TheVariants.{Mul, Div, Ash, Ashc}
use Rattle.bk_isa.specs.Extended.{mul_of, div_of, ash_of, ashc_of}
use Rattle.bk_operand.specs.Part.{Part, ◌>>=◌}
use Rattle.bk_operand.specs.Operand.{located, fetched}
use Rattle.bk_exec.specs.Given.{Given, done, with_flags, minus}

-- R or 1: the register of the low half; of an odd register, itself
abbrev pub partner : ℕ → ℕ
partner r = r / 2 * 2 + 1

-- two words go to R and then to R or 1, so that of an odd register the second stays
abbrev pub with_pair : Regs → ℕ → ℕ → ℕ → Regs
with_pair regs r high low = with_reg (with_reg regs r high) (partner r) low

-- MUL: R by the source
unfoldable pub multiplied : ℕ → ℕ → Regs → Regs
multiplied r value regs =
    let product = mul_of (reg regs r) value in
    with_flags (with_pair regs r product.0 product.1) product.2

-- quotient and remainder go to R and R or 1, where there are any
abbrev pub with_quotient : Regs → ℕ → Option (ℕ × ℕ) → Regs
with_quotient regs r None = regs
with_quotient regs r (Some pair) = with_pair regs r pair.0 pair.1

-- DIV: R and R or 1 by the source; quotient and remainder are stored where there are any
unfoldable pub divided : ℕ → ℕ → Regs → Regs
divided r value regs =
    let quotient = div_of (reg regs r) (reg regs (partner r)) value in
    with_flags (with_quotient regs r quotient.0) quotient.1

-- ASH: R, shifted by the source
unfoldable pub shifted : ℕ → ℕ → Regs → Regs
shifted r value regs =
    let word = ash_of (reg regs r) value in
    with_flags (with_reg regs r word.0) word.1

-- ASHC: R and R or 1, shifted by the source
unfoldable pub shifted_pair : ℕ → ℕ → Regs → Regs
shifted_pair r value regs =
    let pair = ashc_of (reg regs r) (reg regs (partner r)) value in
    with_flags (with_pair regs r pair.0 pair.1) pair.2

-- the registers after one of the four
abbrev pub extended_of : EisOp → ℕ → ℕ → Regs → Regs
extended_of Mul r value regs = multiplied r value regs
extended_of Div r value regs = divided r value regs
extended_of Ash r value regs = shifted r value regs
extended_of Ashc r value regs = shifted_pair r value regs

-- MUL, DIV, ASH and ASHC: the registers are read after the source (own)
unfoldable pub extending : AddrSpace → EisOp → ℕ → Field → Regs → Part Given
extending pages op r src regs = do
  from ← located pages Word src regs
  value ← fetched pages Word from.0 from.1
  done None (extended_of op r value.0 value.1)

-- so many words back, unless nothing is left to count
abbrev pub back_by : ℕ → ℕ → Regs → Regs
back_by back left regs = if left == 0 then regs else record regs { pc = minus regs.pc (2 * back) }

-- SOB: the register falls by 1, and where it isn't 0 then, the PC falls by so many words
unfoldable pub looped : ℕ → ℕ → Regs → Regs
looped r back regs =
    let left = minus (reg regs r) 1 in
    back_by back left (with_reg regs r left)
