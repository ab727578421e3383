use Rattle.std.proofs.Common.{◌≡◌, ℕ, ◌+◌, ◌≤◌, ◌==◌, Bool, true, false, if◌then◌else◌, Ok, Err, Some, None, refl, arith}
use Rattle.std.specs.Prelude.{Result, Option}
use Rattle.bk_space.specs.declared.reference.Mode.{Mode}
use Rattle.bk_space.specs.declared.reference.Space.{Space}
use Rattle.bk_space.specs.declared.reference.Width.{Width}
use Rattle.bk_space.specs.declared.field.Field.{Field}
use Rattle.bk_space.specs.declared.cause.Cause.{Cause}
use Rattle.bk_space.specs.declared.registers.Regs.{Regs}
use Rattle.bk_space.specs.AddrSpace.{AddrSpace}
use Rattle.bk_isa.specs.declared.operation.Bin.{Bin}
use Rattle.bk_isa.specs.declared.operation.Bin.TheVariants.{Mov, Cmp, Bit, Bic, Bis, Add, Sub}
use Rattle.bk_isa.specs.declared.operation.Un.{Un}
use Rattle.bk_isa.specs.declared.operation.Un.TheVariants.{Clr, Com, Inc, Dec, Neg, Adc, Sbc, Tst, Ror, Rol, Asr, Asl, Swab, Sxt}
use Rattle.bk_isa.specs.declared.operation.EisOp.{EisOp}
use Rattle.bk_isa.specs.declared.instr.Instr.{Instr}
use Rattle.bk_isa.specs.declared.instr.Instr.TheVariants.{Double, Single, Xor, Eis, Jmp, Jsr, Rts, Sob, Mark, Mfp, Mtp, Branch}
use Rattle.bk_isa.specs.declared.instr.Instr.TheVariants.{Codes, Spl, Emt, Trap, Halt, Wait, Rti, Bpt, Iot, Reset, Rtt}
use Rattle.bk_isa.specs.Decode.{decode_of}
use Rattle.bk_operand.specs.declared.place.Place.{Place}
use Rattle.bk_operand.specs.declared.place.Place.TheVariants.{Reg, Mem}
use Rattle.bk_operand.specs.Part.{Part, made_after, ◌>>=◌, reading, writing, next_word}
use Rattle.bk_operand.specs.Operand.{pointed, indexed, indexed_deferred, located, fetched, stored}
use Rattle.bk_exec.specs.declared.ending.Ending.{Ending}
use Rattle.bk_exec.specs.Given.{Given, pushed, popped}
use Rattle.bk_exec.specs.Operands.{sourced, moved_to, moving, comparing, combining, double_of, setting, testing, changing, single_of, exclusive}
use Rattle.bk_exec.specs.Extended.{extending}
use Rattle.bk_exec.specs.Control.{jump_to, jumping, call_to, calling, returning, marking, resuming}
use Rattle.bk_exec.specs.Previous.{fetched_previous, stored_previous, moving_from, moving_to}
use Rattle.bk_exec.specs.Exec.{executed, running, finished, exec}

after_most : {X Y : Type 0} (outcome : Result (X × Regs) Cause) (next : X × Regs → Part Y) (n : ℕ) → ((x : X × Regs) → (next x).made ≤ n) → made_after outcome next ≤ n
after_most (Ok x) next n h = h x
after_most (Err cause) next n h = omega arith

-- one part makes at most m references and the next at most n: together at most m + n
both_most : {X Y : Type 0} (part : Part X) (next : X × Regs → Part Y) (m n : ℕ) → part.made ≤ m → ((x : X × Regs) → (next x).made ≤ n) → (part >>= next).made ≤ m + n
both_most part next m n h k =
    let rest : made_after part.outcome next ≤ n = after_most part.outcome next n k in
    omega (arith, h, rest)

none : (n : ℕ) → 0 ≤ n
none n = omega arith

one : 1 ≤ 1
one = omega arith

either_most : {X : Type 0} (b : Bool) (x y : Part X) (n : ℕ) → x.made ≤ n → y.made ≤ n → (if b then x else y).made ≤ n
either_most true x y n h k = h
either_most false x y n h k = k

reading_most : (pages : AddrSpace) (mode : Mode) (space : Space) (width : Width) (addr : ℕ) (regs : Regs) → (reading pages mode space width addr regs).made ≤ 1
unfolding reading
reading_most pages mode space width addr regs = one

next_word_most : (pages : AddrSpace) (regs : Regs) → (next_word pages regs).made ≤ 1
unfolding next_word
next_word_most pages regs = both_most _ _ 1 0 (reading_most _ _ _ _ _ _) (λ x. none 0)

pointed_most : (pages : AddrSpace) (space : Space) (addr : ℕ) (regs : Regs) → (pointed pages space addr regs).made ≤ 1
unfolding pointed
pointed_most pages space addr regs = both_most _ _ 1 0 (reading_most _ _ _ _ _ _) (λ x. none 0)

indexed_most : (pages : AddrSpace) (r : ℕ) (regs : Regs) → (indexed pages r regs).made ≤ 1
unfolding indexed
indexed_most pages r regs = both_most _ _ 1 0 (next_word_most _ _) (λ x. none 0)

indexed_deferred_most : (pages : AddrSpace) (r : ℕ) (regs : Regs) → (indexed_deferred pages r regs).made ≤ 2
unfolding indexed_deferred
indexed_deferred_most pages r regs = both_most _ _ 1 1 (next_word_most _ _) (λ x. pointed_most _ _ _ _)

two : (n : ℕ) → n ≤ 1 → n ≤ 2
two n h = omega (arith, h)

-- an operand's place takes at most two references
located_most : (pages : AddrSpace) (width : Width) (field : Field) (regs : Regs) → (located pages width field regs).made ≤ 2
unfolding located
located_most pages width field regs =
    either_most (field.mode == 0) _ _ 2 (none 2)
    (either_most (field.mode == 1) _ _ 2 (none 2)
    (either_most (field.mode == 2) _ _ 2 (none 2)
    (either_most (field.mode == 3) _ _ 2 (two _ (pointed_most _ _ _ _))
    (either_most (field.mode == 4) _ _ 2 (none 2)
    (either_most (field.mode == 5) _ _ 2 (two _ (pointed_most _ _ _ _))
    (either_most (field.mode == 6) _ _ 2 (two _ (indexed_most _ _ _)) (indexed_deferred_most _ _ _)))))))

fetched_most : (pages : AddrSpace) (width : Width) (place : Place) (regs : Regs) → (fetched pages width place regs).made ≤ 1
unfolding fetched
fetched_most pages width (Reg r) regs = none 1
fetched_most pages width (Mem space addr) regs = reading_most _ _ _ _ _ _

stored_most : (pages : AddrSpace) (width : Width) (place : Place) (value : ℕ) (regs : Regs) → (stored pages width place value regs).made ≤ 1
unfolding stored writing
stored_most pages width (Reg r) value regs = none 1
stored_most pages width (Mem space addr) value regs = one

pushed_most : (pages : AddrSpace) (value : ℕ) (regs : Regs) → (pushed pages value regs).made ≤ 1
unfolding pushed writing
pushed_most pages value regs = both_most _ _ 1 0 one (λ x. none 0)

popped_most : (pages : AddrSpace) (regs : Regs) → (popped pages regs).made ≤ 1
unfolding popped
popped_most pages regs = both_most _ _ 1 0 (reading_most _ _ _ _ _ _) (λ x. none 0)

-- what an instruction makes after its word
abbrev HasMost : Part Given → Type 0
HasMost part = part.made ≤ 7

sourced_most : (pages : AddrSpace) (width : Width) (src dst : Field) (regs : Regs) → (sourced pages width src dst regs).made ≤ 5
unfolding sourced
sourced_most pages width src dst regs =
    both_most _ _ 2 3 (located_most _ _ _ _) (λ from. both_most _ _ 1 2 (fetched_most _ _ _ _) (λ value.
    both_most _ _ 2 0 (located_most _ _ _ _) (λ to. none 0)))

moving_most : (pages : AddrSpace) (width : Width) (src dst : Field) (regs : Regs) → HasMost (moving pages width src dst regs)
unfolding moving moved_to
moving_most pages width src dst regs =
    both_most _ _ 5 2 (sourced_most _ _ _ _ _) (λ both. both_most _ _ 1 1 (stored_most _ _ _ _ _) (λ write. none 1))

comparing_most : (pages : AddrSpace) (op : Bin) (width : Width) (src dst : Field) (regs : Regs) → HasMost (comparing pages op width src dst regs)
unfolding comparing
comparing_most pages op width src dst regs =
    both_most _ _ 5 2 (sourced_most _ _ _ _ _) (λ both. both_most _ _ 1 1 (fetched_most _ _ _ _) (λ old. none 1))

combining_most : (pages : AddrSpace) (op : Bin) (width : Width) (src dst : Field) (regs : Regs) → HasMost (combining pages op width src dst regs)
unfolding combining
combining_most pages op width src dst regs =
    both_most _ _ 5 2 (sourced_most _ _ _ _ _) (λ both. both_most _ _ 1 1 (fetched_most _ _ _ _) (λ old.
    both_most _ _ 1 0 (stored_most _ _ _ _ _) (λ write. none 0)))

double_most : (pages : AddrSpace) (op : Bin) (width : Width) (src dst : Field) (regs : Regs) → HasMost (double_of pages op width src dst regs)
unfolding double_of
double_most pages Mov width src dst regs = moving_most _ _ _ _ _
double_most pages Cmp width src dst regs = comparing_most _ _ _ _ _ _
double_most pages Bit width src dst regs = comparing_most _ _ _ _ _ _
double_most pages Bic width src dst regs = combining_most _ _ _ _ _ _
double_most pages Bis width src dst regs = combining_most _ _ _ _ _ _
double_most pages Add width src dst regs = combining_most _ _ _ _ _ _
double_most pages Sub width src dst regs = combining_most _ _ _ _ _ _

setting_most : (pages : AddrSpace) (op : Un) (width : Width) (dst : Field) (regs : Regs) → HasMost (setting pages op width dst regs)
unfolding setting
setting_most pages op width dst regs = both_most _ _ 2 5 (located_most _ _ _ _) (λ to. both_most _ _ 1 4 (stored_most _ _ _ _ _) (λ write. none 4))

testing_most : (pages : AddrSpace) (width : Width) (dst : Field) (regs : Regs) → HasMost (testing pages width dst regs)
unfolding testing
testing_most pages width dst regs = both_most _ _ 2 5 (located_most _ _ _ _) (λ to. both_most _ _ 1 4 (fetched_most _ _ _ _) (λ old. none 4))

changing_most : (pages : AddrSpace) (op : Un) (width : Width) (dst : Field) (regs : Regs) → HasMost (changing pages op width dst regs)
unfolding changing
changing_most pages op width dst regs =
    both_most _ _ 2 5 (located_most _ _ _ _) (λ to. both_most _ _ 1 4 (fetched_most _ _ _ _) (λ old. both_most _ _ 1 3 (stored_most _ _ _ _ _) (λ write. none 3)))

single_most : (pages : AddrSpace) (op : Un) (width : Width) (dst : Field) (regs : Regs) → HasMost (single_of pages op width dst regs)
unfolding single_of
single_most pages Clr width dst regs = setting_most _ _ _ _ _
single_most pages Com width dst regs = changing_most _ _ _ _ _
single_most pages Inc width dst regs = changing_most _ _ _ _ _
single_most pages Dec width dst regs = changing_most _ _ _ _ _
single_most pages Neg width dst regs = changing_most _ _ _ _ _
single_most pages Adc width dst regs = changing_most _ _ _ _ _
single_most pages Sbc width dst regs = changing_most _ _ _ _ _
single_most pages Tst width dst regs = testing_most _ _ _ _
single_most pages Ror width dst regs = changing_most _ _ _ _ _
single_most pages Rol width dst regs = changing_most _ _ _ _ _
single_most pages Asr width dst regs = changing_most _ _ _ _ _
single_most pages Asl width dst regs = changing_most _ _ _ _ _
single_most pages Swab width dst regs = changing_most _ _ _ _ _
single_most pages Sxt width dst regs = setting_most _ _ _ _ _

exclusive_most : (pages : AddrSpace) (r : ℕ) (dst : Field) (regs : Regs) → HasMost (exclusive pages r dst regs)
unfolding exclusive
exclusive_most pages r dst regs =
    both_most _ _ 2 5 (located_most _ _ _ _) (λ to. both_most _ _ 1 4 (fetched_most _ _ _ _) (λ old. both_most _ _ 1 3 (stored_most _ _ _ _ _) (λ write. none 3)))

extending_most : (pages : AddrSpace) (op : EisOp) (r : ℕ) (src : Field) (regs : Regs) → HasMost (extending pages op r src regs)
unfolding extending
extending_most pages op r src regs = both_most _ _ 2 5 (located_most _ _ _ _) (λ from. both_most _ _ 1 4 (fetched_most _ _ _ _) (λ value. none 4))

jump_most : (place : Place) (regs : Regs) → (jump_to place regs).made ≤ 5
jump_most (Reg r) regs = none 5
jump_most (Mem space addr) regs = none 5

jumping_most : (pages : AddrSpace) (dst : Field) (regs : Regs) → HasMost (jumping pages dst regs)
unfolding jumping
jumping_most pages dst regs = both_most _ _ 2 5 (located_most _ _ _ _) (λ to. jump_most to.0 to.1)

call_most : (pages : AddrSpace) (r : ℕ) (place : Place) (regs : Regs) → (call_to pages r place regs).made ≤ 5
unfolding call_to
call_most pages r (Reg n) regs = none 5
call_most pages r (Mem space addr) regs = both_most _ _ 1 4 (pushed_most _ _ _) (λ write. none 4)

calling_most : (pages : AddrSpace) (r : ℕ) (dst : Field) (regs : Regs) → HasMost (calling pages r dst regs)
unfolding calling
calling_most pages r dst regs = both_most _ _ 2 5 (located_most _ _ _ _) (λ to. call_most pages r to.0 to.1)

returning_most : (pages : AddrSpace) (r : ℕ) (regs : Regs) → HasMost (returning pages r regs)
unfolding returning
returning_most pages r regs = both_most _ _ 1 6 (popped_most _ _) (λ word. none 6)

marking_most : (pages : AddrSpace) (count : ℕ) (regs : Regs) → HasMost (marking pages count regs)
unfolding marking
marking_most pages count regs = both_most _ _ 1 6 (reading_most _ _ _ _ _ _) (λ word. none 6)

resuming_most : (pages : AddrSpace) (ending : Ending) (regs : Regs) → HasMost (resuming pages ending regs)
unfolding resuming
resuming_most pages ending regs = both_most _ _ 1 6 (reading_most _ _ _ _ _ _) (λ pc. both_most _ _ 1 5 (reading_most _ _ _ _ _ _) (λ ps. none 5))

fetched_previous_most : (pages : AddrSpace) (space : Space) (place : Place) (regs : Regs) → (fetched_previous pages space place regs).made ≤ 1
unfolding fetched_previous
fetched_previous_most pages space (Reg r) regs = none 1
fetched_previous_most pages space (Mem own addr) regs = reading_most _ _ _ _ _ _

stored_previous_most : (pages : AddrSpace) (space : Space) (place : Place) (value : ℕ) (regs : Regs) → (stored_previous pages space place value regs).made ≤ 1
unfolding stored_previous writing
stored_previous_most pages space (Reg r) value regs = none 1
stored_previous_most pages space (Mem own addr) value regs = one

moving_from_most : (pages : AddrSpace) (space : Space) (src : Field) (regs : Regs) → HasMost (moving_from pages space src regs)
unfolding moving_from
moving_from_most pages space src regs =
    both_most _ _ 2 5 (located_most _ _ _ _) (λ from. both_most _ _ 1 4 (fetched_previous_most _ _ _ _) (λ value. both_most _ _ 1 3 (pushed_most _ _ _) (λ write. none 3)))

moving_to_most : (pages : AddrSpace) (space : Space) (dst : Field) (regs : Regs) → HasMost (moving_to pages space dst regs)
unfolding moving_to
moving_to_most pages space dst regs =
    both_most _ _ 1 6 (popped_most _ _) (λ word. both_most _ _ 2 4 (located_most _ _ _ _) (λ to. both_most _ _ 1 3 (stored_previous_most _ _ _ _ _) (λ write. none 3)))

executed_most : (pages : AddrSpace) (instr : Option Instr) (regs : Regs) → HasMost (executed pages instr regs)
unfolding executed
executed_most pages None regs = none 7
executed_most pages (Some (Double op width src dst)) regs = double_most _ _ _ _ _ _
executed_most pages (Some (Single op width dst)) regs = single_most _ _ _ _ _
executed_most pages (Some (Xor r dst)) regs = exclusive_most _ _ _ _
executed_most pages (Some (Eis op r src)) regs = extending_most _ _ _ _ _
executed_most pages (Some (Jmp dst)) regs = jumping_most _ _ _
executed_most pages (Some (Jsr r dst)) regs = calling_most _ _ _ _
executed_most pages (Some (Rts r)) regs = returning_most _ _ _
executed_most pages (Some (Sob r back)) regs = none 7
executed_most pages (Some (Mark count)) regs = marking_most _ _ _
executed_most pages (Some (Mfp space src)) regs = moving_from_most _ _ _ _
executed_most pages (Some (Mtp space dst)) regs = moving_to_most _ _ _ _
executed_most pages (Some (Branch cond offset)) regs = none 7
executed_most pages (Some (Codes set mask)) regs = none 7
executed_most pages (Some (Spl level)) regs = none 7
executed_most pages (Some (Emt n)) regs = none 7
executed_most pages (Some (Trap n)) regs = none 7
executed_most pages (Some Halt) regs = none 7
executed_most pages (Some Wait) regs = none 7
executed_most pages (Some Rti) regs = resuming_most _ _ _
executed_most pages (Some Bpt) regs = none 7
executed_most pages (Some Iot) regs = none 7
executed_most pages (Some Reset) regs = none 7
executed_most pages (Some Rtt) regs = resuming_most _ _ _

running_most : (pages : AddrSpace) (regs : Regs) → (running pages regs).made ≤ 8
unfolding running
running_most pages regs = both_most _ _ 1 7 (next_word_most _ _) (λ word. executed_most pages (decode_of word.0) word.1)

finished_made : (before : Regs) (made : ℕ) (outcome : Result (Given × Regs) Cause) → (finished before made outcome).references ≡ made
finished_made before made (Ok x) = refl
finished_made before made (Err cause) = refl

-- one instruction makes at most eight references
pub exec_most : (pages : AddrSpace) (regs : Regs) → (exec pages regs).references ≤ 8
unfolding exec
exec_most pages regs = rw (finished_made regs (running pages regs).made (running pages regs).outcome) (running_most pages regs)
