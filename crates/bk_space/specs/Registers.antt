-- The registers of a process: R0 to R5, a stack pointer for each mode, the program counter and the status.
use Rattle.std.specs.Prelude.{◌≡◌, ℕ, ℤ, pos, negsuc, ◌+ℤ◌, ◌-◌, ◌%◌, ◌^◌, ◌<◌, ◌==◌, Bool, true, false}
use Rattle.std.specs.Prelude.{◌∷◌, [], length, slice_index, slice_set}
use Rattle.bk_space.specs.declared.reference.Mode.{Mode}
use Rattle.bk_space.specs.declared.reference.Mode.TheVariants.{Supervisor, User}
use Rattle.bk_space.specs.declared.status.Ps.{Ps}
use Rattle.bk_space.specs.declared.registers.Regs.{Regs}

-- the registers with which a process starts
abbrev pub registers_of : Ps → Regs
registers_of ps = record { general = 0 ∷ 0 ∷ 0 ∷ 0 ∷ 0 ∷ 0 ∷ []; supervisor = 0; user = 0; pc = 0; ps = ps }

-- the stack pointer of a mode
abbrev pub stack_of : Mode → Regs → ℕ
stack_of Supervisor regs = regs.supervisor
stack_of User regs = regs.user

-- the stack pointer of a mode is replaced
abbrev pub with_stack : Mode → Regs → ℕ → Regs
with_stack Supervisor regs value = record regs { supervisor = value }
with_stack User regs value = record regs { user = value }

-- of a register's number: the program counter, the stack pointer of the mode, or one of R0 to R5
abbrev pub reg_by : Bool → Bool → Mode → Regs → ℕ → ℕ
reg_by true _ _ regs n = regs.pc
reg_by false true mode regs n = stack_of mode regs
reg_by false false _ regs n = slice_index regs.general n

-- .. replaced
abbrev pub with_reg_by : Bool → Bool → Mode → Regs → ℕ → ℕ → Regs
with_reg_by true _ _ regs n value = record regs { pc = value }
with_reg_by false true mode regs n value = with_stack mode regs value
with_reg_by false false _ regs n value = record regs { general = slice_set regs.general n value }

-- register n: R0 to R5, the stack pointer of the current mode, the program counter
unfoldable pub reg : Regs → ℕ → ℕ
reg regs n = reg_by (n == 7) (n == 6) regs.ps.mode regs n

-- register n is replaced
unfoldable pub with_reg : Regs → ℕ → ℕ → Regs
with_reg regs n value = with_reg_by (n == 7) (n == 6) regs.ps.mode regs n value

-- a whole number modulo 2 to the 16
abbrev pub wrapped : ℤ → ℕ
wrapped (pos n) = n % 2 ^ 16
wrapped (negsuc n) = 2 ^ 16 - 1 - n % 2 ^ 16

-- register n has moved by an amount
unfoldable pub moved : Regs → ℕ → ℤ → Regs
moved regs n amount = with_reg regs n (wrapped (pos (reg regs n) +ℤ amount))

-- six general registers, and each register is a word
pub record IsRegs (regs : Regs) : Type 0 where
  pub six : length regs.general ≡ 6
  pub general : (n : ℕ) → slice_index regs.general n < 2 ^ 16
  pub supervisor : regs.supervisor < 2 ^ 16
  pub user : regs.user < 2 ^ 16
  pub pc : regs.pc < 2 ^ 16
