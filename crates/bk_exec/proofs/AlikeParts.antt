-- Changes of registers, and parts of an instruction, that leave as many general registers as they found.
use Rattle.std.proofs.Common.{◌≡◌, ◌∙◌, ◌==◌, ℕ, ℤ, Bool, true, false, Ok, Err, Some, None, length, refl, if◌then◌else◌}
use Rattle.std.specs.Prelude.{Result, Option}
use Rattle.std.proofs.lemmas.List.{length-set}
use Rattle.bk_space.specs.declared.reference.Mode.{Mode}
use Rattle.bk_space.specs.declared.reference.Mode.TheVariants.{Supervisor, User}
use Rattle.bk_space.specs.declared.reference.Space.{Space}
use Rattle.bk_space.specs.declared.reference.Width.{Width}
use Rattle.bk_space.specs.declared.reference.Abort.{Abort}
use Rattle.bk_space.specs.declared.field.Field.{Field}
use Rattle.bk_space.specs.declared.cause.Cause.{Cause}
use Rattle.bk_space.specs.declared.registers.Regs.{Regs}
use Rattle.bk_space.specs.AddrSpace.{AddrSpace, Write, read_at, write_at}
use Rattle.bk_space.specs.Registers.{with_reg, with_reg_by, with_stack, moved}
use Rattle.bk_isa.specs.declared.operation.Cond.{Cond}
use Rattle.bk_isa.specs.declared.operation.EisOp.{EisOp}
use Rattle.bk_isa.specs.declared.operation.EisOp.TheVariants.{Mul, Div, Ash, Ashc}
use Rattle.bk_operand.specs.declared.place.Place.{Place}
use Rattle.bk_operand.specs.declared.place.Place.TheVariants.{Reg, Mem}
use Rattle.bk_operand.specs.Part.{Part, given, cut_off, outcome_after, answered, ◌>>=◌, reading, writing, next_word}
use Rattle.bk_operand.specs.Operand.{pointed, indexed, indexed_deferred, located, fetched, stored}
use Rattle.bk_exec.specs.Given.{pushed, popped}
use Rattle.bk_exec.specs.Extended.{with_pair, with_quotient, multiplied, divided, shifted, shifted_pair, extended_of, looped}
use Rattle.bk_exec.specs.Control.{branched, is_taken}

-- ---- changes of registers

-- as many general registers as before
abbrev pub Alike : Regs → Regs → Type 0
Alike before after = length after.general ≡ length before.general

pub with_stack_alike : (mode : Mode) (regs : Regs) (value : ℕ) → Alike regs (with_stack mode regs value)
with_stack_alike Supervisor regs value = refl
with_stack_alike User regs value = refl

with_reg_by_alike : (b c : Bool) (mode : Mode) (regs : Regs) (n value : ℕ) → Alike regs (with_reg_by b c mode regs n value)
with_reg_by_alike true c mode regs n value = refl
with_reg_by_alike false true mode regs n value = with_stack_alike mode regs value
with_reg_by_alike false false mode regs n value = length-set regs.general n value

pub with_reg_alike : (regs : Regs) (n value : ℕ) → Alike regs (with_reg regs n value)
unfolding with_reg
with_reg_alike regs n value = with_reg_by_alike (n == 7) (n == 6) regs.ps.mode regs n value

moved_alike : (regs : Regs) (n : ℕ) (amount : ℤ) → Alike regs (moved regs n amount)
unfolding moved
moved_alike regs n amount = with_reg_alike regs n _

pub either_alike : (b : Bool) (before x y : Regs) → Alike before x → Alike before y → Alike before (if b then x else y)
either_alike true before x y h k = h
either_alike false before x y h k = k

with_pair_alike : (regs : Regs) (r high low : ℕ) → Alike regs (with_pair regs r high low)
with_pair_alike regs r high low = with_reg_alike (with_reg regs r high) _ low ∙ with_reg_alike regs r high

with_quotient_alike : (regs : Regs) (r : ℕ) (quotient : Option (ℕ × ℕ)) → Alike regs (with_quotient regs r quotient)
with_quotient_alike regs r None = refl
with_quotient_alike regs r (Some pair) = with_pair_alike regs r pair.0 pair.1

pub extended_alike : (op : EisOp) (r value : ℕ) (regs : Regs) → Alike regs (extended_of op r value regs)
unfolding multiplied divided shifted shifted_pair
extended_alike Mul r value regs = with_pair_alike regs r _ _
extended_alike Div r value regs = with_quotient_alike regs r _
extended_alike Ash r value regs = with_reg_alike regs r _
extended_alike Ashc r value regs = with_pair_alike regs r _ _

pub looped_alike : (r back : ℕ) (regs : Regs) → Alike regs (looped r back regs)
unfolding looped
looped_alike r back regs = either_alike _ regs _ _ (with_reg_alike regs r _) (with_reg_alike regs r _)

pub branched_alike : (cond : Cond) (offset : ℕ) (regs : Regs) → Alike regs (branched cond offset regs)
unfolding branched
branched_alike cond offset regs = either_alike (is_taken cond regs.ps.flags) regs _ _ refl refl

-- ---- parts

abbrev pub LeavesAlike : {X : Type 0} → Regs → Result (X × Regs) Cause → Type 0
LeavesAlike before (Ok x) = Alike before x.1
LeavesAlike before (Err cause) = Unit {0}

-- a part leaves as many as there were before it
pub record Keeps {X : Type 0} (before : Regs) (part : Part X) : Type 0 where
  pub left : LeavesAlike before part.outcome

then_by : {X Y : Type 0} (before : Regs) (outcome : Result (X × Regs) Cause) (next : X × Regs → Part Y)
    → LeavesAlike before outcome → ((x : X × Regs) → Alike before x.1 → LeavesAlike before (next x).outcome) → LeavesAlike before (outcome_after outcome next)
then_by before (Ok x) next h k = k x h
then_by before (Err cause) next h k = tt

further : {Y : Type 0} (before between : Regs) (outcome : Result (Y × Regs) Cause) → Alike before between → LeavesAlike between outcome → LeavesAlike before outcome
further before between (Ok y) h k = k ∙ h
further before between (Err cause) h k = tt

-- a part and then the next
pub then_keeps : {X Y : Type 0} (before : Regs) (part : Part X) (next : X × Regs → Part Y)
    → Keeps before part → ((x : X × Regs) → Keeps x.1 (next x)) → Keeps before (part >>= next)
then_keeps before part next h k = record {
  left = then_by before part.outcome next h.left (λ x alike. further before x.1 (next x).outcome alike ((k x).left));
}

pub given_keeps : {X : Type 0} (before after : Regs) (x : X) → Alike before after → Keeps before (given x after)
given_keeps before after x h = record { left = h }

pub cut_keeps : {X : Type 0} (before : Regs) (cause : Cause) → Keeps {X = X} before (cut_off cause)
cut_keeps before cause = record { left = tt }

answered_keeps : {X Y : Type 0} (view : X → Y) (answer : Result X Abort) (regs : Regs) → LeavesAlike regs (answered view answer regs)
answered_keeps view (Ok x) regs = refl
answered_keeps view (Err abort) regs = tt

pub reading_keeps : (pages : AddrSpace) (mode : Mode) (space : Space) (width : Width) (addr : ℕ) (regs : Regs) → Keeps regs (reading pages mode space width addr regs)
unfolding reading
reading_keeps pages mode space width addr regs = record { left = answered_keeps (λ x. x) (read_at pages mode space width addr) regs }

pub writing_keeps : (pages : AddrSpace) (w : Write) (regs : Regs) → Keeps regs (writing pages w regs)
unfolding writing
writing_keeps pages w regs = record { left = answered_keeps (λ _. Some w) (write_at pages w.mode w.space w.width w.addr) regs }

either_keeps : {X : Type 0} (b : Bool) (before : Regs) (x y : Part X) → Keeps before x → Keeps before y → Keeps before (if b then x else y)
either_keeps true before x y h k = h
either_keeps false before x y h k = k

pub next_word_keeps : (pages : AddrSpace) (regs : Regs) → Keeps regs (next_word pages regs)
unfolding next_word
next_word_keeps pages regs = then_keeps regs _ _ (reading_keeps _ _ _ _ _ _) (λ word. given_keeps word.1 _ _ refl)

-- ---- operands

pointed_keeps : (pages : AddrSpace) (space : Space) (addr : ℕ) (regs : Regs) → Keeps regs (pointed pages space addr regs)
unfolding pointed
pointed_keeps pages space addr regs = then_keeps regs _ _ (reading_keeps _ _ _ _ _ _) (λ pointer. given_keeps pointer.1 _ _ refl)

indexed_keeps : (pages : AddrSpace) (r : ℕ) (regs : Regs) → Keeps regs (indexed pages r regs)
unfolding indexed
indexed_keeps pages r regs = then_keeps regs _ _ (next_word_keeps _ _) (λ word. given_keeps word.1 _ _ refl)

indexed_deferred_keeps : (pages : AddrSpace) (r : ℕ) (regs : Regs) → Keeps regs (indexed_deferred pages r regs)
unfolding indexed_deferred
indexed_deferred_keeps pages r regs = then_keeps regs _ _ (next_word_keeps _ _) (λ word. pointed_keeps _ _ _ _)

-- after registers that are alike
since : {X : Type 0} (before between : Regs) (part : Part X) → Alike before between → Keeps between part → Keeps before part
since before between part h k = record { left = further before between part.outcome h k.left }

pub located_keeps : (pages : AddrSpace) (width : Width) (field : Field) (regs : Regs) → Keeps regs (located pages width field regs)
unfolding located
located_keeps pages width field regs =
    either_keeps (field.mode == 0) regs _ _ (given_keeps regs _ _ refl)
    (either_keeps (field.mode == 1) regs _ _ (given_keeps regs _ _ refl)
    (either_keeps (field.mode == 2) regs _ _ (given_keeps regs _ _ (moved_alike regs _ _))
    (either_keeps (field.mode == 3) regs _ _ (since regs _ _ (moved_alike regs _ _) (pointed_keeps _ _ _ _))
    (either_keeps (field.mode == 4) regs _ _ (given_keeps regs _ _ (moved_alike regs _ _))
    (either_keeps (field.mode == 5) regs _ _ (since regs _ _ (moved_alike regs _ _) (pointed_keeps _ _ _ _))
    (either_keeps (field.mode == 6) regs _ _ (indexed_keeps _ _ _) (indexed_deferred_keeps _ _ _)))))))

pub fetched_keeps : (pages : AddrSpace) (width : Width) (place : Place) (regs : Regs) → Keeps regs (fetched pages width place regs)
unfolding fetched
fetched_keeps pages width (Reg r) regs = given_keeps regs _ _ refl
fetched_keeps pages width (Mem space addr) regs = reading_keeps _ _ _ _ _ _

pub stored_keeps : (pages : AddrSpace) (width : Width) (place : Place) (value : ℕ) (regs : Regs) → Keeps regs (stored pages width place value regs)
unfolding stored
stored_keeps pages width (Reg r) value regs = given_keeps regs _ _ (with_reg_alike regs r _)
stored_keeps pages width (Mem space addr) value regs = writing_keeps _ _ _

pub pushed_keeps : (pages : AddrSpace) (value : ℕ) (regs : Regs) → Keeps regs (pushed pages value regs)
unfolding pushed
pushed_keeps pages value regs = then_keeps regs _ _ (writing_keeps _ _ _) (λ write. given_keeps write.1 _ _ (with_reg_alike write.1 _ _))

pub popped_keeps : (pages : AddrSpace) (regs : Regs) → Keeps regs (popped pages regs)
unfolding popped
popped_keeps pages regs = then_keeps regs _ _ (reading_keeps _ _ _ _ _ _) (λ word. given_keeps word.1 _ _ (moved_alike word.1 _ _))
