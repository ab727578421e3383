use Rattle.std.specs.Prelude.{◌≡◌, ℕ, ◌+◌, ◌%◌, ◌^◌, Result, Ok, Err, Option, Some}
use Rattle.bk_space.specs.declared.reference.Mode.{Mode}
use Rattle.bk_space.specs.declared.reference.Space.{Space}
use Rattle.bk_space.specs.declared.reference.Space.TheVariants.{I}
use Rattle.bk_space.specs.declared.reference.Width.{Width}
use Rattle.bk_space.specs.declared.reference.Width.TheVariants.{Word}
use Rattle.bk_space.specs.declared.reference.Abort.{Abort}
use Rattle.bk_space.specs.declared.cause.Cause.{Cause}
use Rattle.bk_space.specs.declared.registers.Regs.{Regs}
use Rattle.bk_space.specs.AddrSpace.{AddrSpace, Write, read_at, write_at}
use Rattle.bk_space.specs.Faults.{cause_of}

-- what a part of an instruction gives: how many references it made, and a value with the registers after it,
-- or the fault that cuts the instruction off
pub record Part (X : Type 0) : Type 0 where
  pub made : ℕ
  pub outcome : Result (X × Regs) Cause

-- a value, with no reference
abbrev pub given : {X : Type 0} → X → Regs → Part X
given x regs = record { made = 0; outcome = Ok (x, regs) }

-- a fault, with no reference
abbrev pub cut_off : {X : Type 0} → Cause → Part X
cut_off cause = record { made = 0; outcome = Err cause }

-- how many references the next part makes: none after a fault
abbrev pub made_after : {X Y : Type 0} → Result (X × Regs) Cause → (X × Regs → Part Y) → ℕ
made_after (Ok x) next = (next x).made
made_after (Err cause) next = 0

-- what the next part gives: after a fault, that fault
abbrev pub outcome_after : {X Y : Type 0} → Result (X × Regs) Cause → (X × Regs → Part Y) → Result (Y × Regs) Cause
outcome_after (Ok x) next = (next x).outcome
outcome_after (Err cause) next = Err cause

-- one part and then the next, with its value and registers
infixl 10 ◌>>=◌
abbrev pub ◌>>=◌ : {X Y : Type 0} → Part X → (X × Regs → Part Y) → Part Y
part >>= next = record { made = part.made + made_after part.outcome next; outcome = outcome_after part.outcome next }

-- what a reference answered, seen by view; an abort is a fault
abbrev pub answered : {X Y : Type 0} → (X → Y) → Result X Abort → Regs → Result (Y × Regs) Cause
answered view (Ok x) regs = Ok (view x, regs)
answered view (Err abort) regs = Err (cause_of abort)

-- one reference that reads
unfoldable pub reading : AddrSpace → Mode → Space → Width → ℕ → Regs → Part ℕ
reading pages mode space width addr regs = record {
  made = 1;
  outcome = answered (λ x. x) (read_at pages mode space width addr) regs;
}

-- one reference that writes, and the write where it completes
unfoldable pub writing : AddrSpace → Write → Regs → Part (Option Write)
writing pages write regs = record {
  made = 1;
  outcome = answered (λ _. Some write) (write_at pages write.mode write.space write.width write.addr) regs;
}

-- a word that moves by an amount below 2 ^ 16
abbrev pub plus : ℕ → ℕ → ℕ
plus word amount = (word + amount) % 2 ^ 16

-- the word at the program counter, which moves by 2
unfoldable pub next_word : AddrSpace → Regs → Part ℕ
next_word pages regs = do
  word ← reading pages regs.ps.mode I Word regs.pc regs
  given word.0 (record word.1 { pc = plus word.1.pc 2 })

-- what a function returned, seen by view, and the registers that it left are what a part gives
abbrev pub Follows : {X Y : Type 0} → (X → Y) → Result X Abort → Regs → Part Y → Type 0
Follows view (Ok x) regs part = part.outcome ≡ Ok (view x, regs)
Follows view (Err abort) regs part = part.outcome ≡ Err (cause_of abort)
