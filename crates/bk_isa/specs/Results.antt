use Rattle.std.specs.Prelude.{ℕ, ◌+◌, ◌-◌, ◌*◌, ◌/◌, ◌%◌, ◌^◌, ◌==◌, Bool, true, false, not, if◌then◌else◌, ℤ, pos, ◌+ℤ◌, ◌-ℤ◌}
use Rattle.std.specs.Int.RustNames.{bit_and, bit_or, bit_xor}
use Rattle.bk_space.specs.declared.reference.Width.{Width}
use Rattle.bk_space.specs.declared.reference.Width.TheVariants.{Word}
use Rattle.bk_space.specs.declared.flags.Flags.{Flags}
use Rattle.bk_isa.specs.declared.operation.Bin.{Bin}
use Rattle.bk_isa.specs.declared.operation.Bin.TheVariants.{Mov, Cmp, Bit, Bic, Bis, Add, Sub}
use Rattle.bk_isa.specs.declared.operation.Un.{Un}
use Rattle.bk_isa.specs.declared.operation.Un.TheVariants.{Clr, Com, Inc, Dec, Neg, Adc, Sbc, Tst, Ror, Rol, Asr, Asl, Swab, Sxt}
use Rattle.bk_space.specs.Status.{digit}
use Rattle.bk_space.specs.Widths.{bits_of}
use Rattle.bk_isa.specs.Numbers.{signed, top, is_out, is_carry, modulo, floor_over}

-- a result, with N its top bit, Z that it is 0, and V and C as given
abbrev pub with_flags : Width → ℕ → Bool → Bool → ℕ × Flags
with_flags width result v c = (result, record { n = top (bits_of width) result; z = result == 0; v = v; c = c })

-- a value that is moved: V 0, C kept
abbrev pub moved : Width → ℕ → Flags → ℕ × Flags
moved width result old = with_flags width result false old.c

-- an exact operation on two numbers, at the width: V where it is out of the signed range, with the signed values,
-- and C where it is out of the unsigned range, with the unsigned ones
abbrev pub counted : Width → (ℤ → ℤ → ℤ) → ℕ → ℕ → ℕ × Flags
counted width f x y = with_flags width
    (modulo (bits_of width) (f (pos x) (pos y)))
    (is_out (bits_of width) (f (signed (bits_of width) x) (signed (bits_of width) y)))
    (is_carry (bits_of width) (f (pos x) (pos y)))

-- an exact operation with 1: C kept
abbrev pub stepped : Width → (ℤ → ℤ → ℤ) → ℕ → Flags → ℕ × Flags
stepped width f x old = with_flags width
    (modulo (bits_of width) (f (pos x) (pos 1)))
    (is_out (bits_of width) (f (signed (bits_of width) x) (pos 1)))
    old.c

-- all bits turned
abbrev pub turned : Width → ℕ → ℕ
turned width x = 2 ^ bits_of width - 1 - x

-- result and flags of an operation with two operands; CMP and BIT do not store theirs
abbrev pub binary_of : Bin → Width → ℕ → ℕ → Flags → ℕ × Flags
binary_of Mov width src dst old = moved width src old
binary_of Cmp width src dst old = counted width (λ a b. a -ℤ b) src dst
binary_of Bit width src dst old = moved width (bit_and src dst) old
binary_of Bic width src dst old = moved width (bit_and dst (turned width src)) old
binary_of Bis width src dst old = moved width (bit_or src dst) old
binary_of Add width src dst old = counted width (λ a b. a +ℤ b) dst src
binary_of Sub width src dst old = counted width (λ a b. a -ℤ b) dst src

-- XOR of a register into a word
abbrev pub xor_of : ℕ → ℕ → Flags → ℕ × Flags
xor_of reg dst old = moved Word (bit_xor reg dst) old

-- shifted or rotated by one place, with the bit that went out: V where N is not C
abbrev pub shifted : Width → ℕ → Bool → ℕ × Flags
shifted width result out = with_flags width result (if top (bits_of width) result then not out else out) out

-- the number is odd: its low bit goes out to the right
abbrev pub low_bit : ℕ → Bool
low_bit x = x % 2 == 1

-- rotated one place through C: to the right it comes in at the top, to the left at the bottom
abbrev pub ror_of : Width → ℕ → Bool → ℕ
ror_of width x c = x / 2 + digit c * 2 ^ (bits_of width - 1)

-- .. to the left
abbrev pub rol_of : Width → ℕ → Bool → ℕ
rol_of width x c = (2 * x + digit c) % 2 ^ bits_of width

-- shifted one place to the right with its sign: half of the signed value, rounded down
abbrev pub asr_of : Width → ℕ → ℕ
asr_of width x = modulo (bits_of width) (floor_over (signed (bits_of width) x) 2)

-- shifted one place to the left
abbrev pub asl_of : Width → ℕ → ℕ
asl_of width x = (2 * x) % 2 ^ bits_of width

-- the bytes exchanged: N and Z are of the result's low byte
abbrev pub swapped : ℕ → ℕ × Flags
swapped x = (x % 2 ^ 8 * 2 ^ 8 + x / 2 ^ 8, record { n = top 8 (x / 2 ^ 8); z = x / 2 ^ 8 == 0; v = false; c = false })

-- the sign: all ones where N is set, else 0; N and C kept
abbrev pub sign_of : Flags → ℕ × Flags
sign_of old = (if old.n then 2 ^ 16 - 1 else 0, record { n = old.n; z = not old.n; v = false; c = old.c })

-- result and flags of an operation with one operand; TST does not store its
abbrev pub unary_of : Un → Width → ℕ → Flags → ℕ × Flags
unary_of Clr width dst old = with_flags width 0 false false
unary_of Com width dst old = with_flags width (turned width dst) false true
unary_of Inc width dst old = stepped width (λ a b. a +ℤ b) dst old
unary_of Dec width dst old = stepped width (λ a b. a -ℤ b) dst old
unary_of Neg width dst old = counted width (λ a b. a -ℤ b) 0 dst
unary_of Adc width dst old = counted width (λ a b. a +ℤ b) dst (digit old.c)
unary_of Sbc width dst old = counted width (λ a b. a -ℤ b) dst (digit old.c)
unary_of Tst width dst old = with_flags width dst false false
unary_of Ror width dst old = shifted width (ror_of width dst old.c) (low_bit dst)
unary_of Rol width dst old = shifted width (rol_of width dst old.c) (top (bits_of width) dst)
unary_of Asr width dst old = shifted width (asr_of width dst) (low_bit dst)
unary_of Asl width dst old = shifted width (asl_of width dst) (top (bits_of width) dst)
unary_of Swab width dst old = swapped dst
unary_of Sxt width dst old = sign_of old
