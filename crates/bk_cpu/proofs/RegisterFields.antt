-- Words whose fields name registers.
use Rattle.std.specs.Prelude.{◌≡◌, ℕ, ◌/◌, ◌%◌, None, Some}
use Rattle.std.proofs.Common.{sym, ◌∙◌, ap, arith}
use Rattle.bk_space.specs.declared.reference.Width.TheVariants.{Word}
use Rattle.bk_space.specs.declared.registers.Regs.{Regs}
use Rattle.bk_space.specs.AddrSpace.{AddrSpace}
use Rattle.bk_isa.specs.declared.operation.Bin.{Bin}
use Rattle.bk_isa.specs.declared.operation.Un.{Un}
use Rattle.bk_isa.specs.Decode.{decode_of, doubles, field_at, look_up, singles}
use Rattle.bk_exec.specs.Given.{done}
use Rattle.bk_exec.specs.Exec.{executed}
use Rattle.bk_exec.specs.Operands.{double_of, single_of}
use Rattle.bk_cpu.specs.Direct.{direct}
use Rattle.bk_cpu.proofs.TopBits.{executed-double, executed-single}

-- a field of mode 0 is that of its register
direct-at : (n r : ℕ) → n / 8 % 8 ≡ 0 → r ≡ n % 8 → direct r ≡ field_at n
direct-at n r zero same = λ i. record { mode = sym zero i; reg = same i }

-- what is done with two registers is what the word does
pub direct-double : (pages : AddrSpace) (word : ℕ) (op : Bin) (src dst : ℕ) (before after : Regs) → look_up doubles (word / 0o10000) ≡ Some (op, Word) → word / 0o1000 % 8 ≡ 0 → word / 0o10 % 8 ≡ 0 → src ≡ word / 64 % 8 → dst ≡ word % 8 → double_of pages op Word (direct src) (direct dst) before ≡ done None after → executed pages (decode_of word) before ≡ done None after
direct-double pages word op src dst before after code high low from to made =
    let source : direct src ≡ field_at (word / 64 % 64) = direct-at (word / 64 % 64) src (omega (arith, high)) (omega (arith, from)) in
    let destination : direct dst ≡ field_at (word % 64) = direct-at (word % 64) dst (omega (arith, low)) (omega (arith, to)) in
    sym (executed-double pages word op Word (direct src) (direct dst) before code source destination) ∙ made

-- mode 2 of the program counter: the field of an immediate operand
immediate-at : (n : ℕ) → n ≡ 0o27 → record { mode = 2; reg = 7 } ≡ field_at n
immediate-at n same = ap field_at (sym same)

-- what is done with the word that follows and a register is what the word does
pub immediate-double : (pages : AddrSpace) (word : ℕ) (op : Bin) (dst : ℕ) (regs : Regs) → look_up doubles (word / 0o10000) ≡ Some (op, Word) → word / 0o100 % 64 ≡ 0o27 → word / 0o10 % 8 ≡ 0 → dst ≡ word % 8 → double_of pages op Word (record { mode = 2; reg = 7 }) (direct dst) regs ≡ executed pages (decode_of word) regs
immediate-double pages word op dst regs code high low to =
    let destination : direct dst ≡ field_at (word % 64) = direct-at (word % 64) dst (omega (arith, low)) (omega (arith, to)) in
    executed-double pages word op Word (record { mode = 2; reg = 7 }) (direct dst) regs code (immediate-at (word / 64 % 64) high) destination

-- .. with one register
pub direct-single : (pages : AddrSpace) (word : ℕ) (op : Un) (dst : ℕ) (before after : Regs) → look_up singles (word / 0o100) ≡ Some (op, Word) → word / 0o10 % 8 ≡ 0 → dst ≡ word % 8 → single_of pages op Word (direct dst) before ≡ done None after → executed pages (decode_of word) before ≡ done None after
direct-single pages word op dst before after code low to made =
    let destination : direct dst ≡ field_at (word % 64) = direct-at (word % 64) dst (omega (arith, low)) (omega (arith, to)) in
    sym (executed-single pages word op Word (direct dst) before code destination) ∙ made
