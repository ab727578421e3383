-- An instruction leaves as many general registers as it found.
use Rattle.std.proofs.Common.{◌≡◌, ◌∙◌, ◌==◌, ℕ, Ok, Err, Some, None, length, refl}
use Rattle.std.specs.Prelude.{Result, Option}
use Rattle.bk_space.specs.declared.reference.Space.{Space}
use Rattle.bk_space.specs.declared.reference.Width.{Width}
use Rattle.bk_space.specs.declared.field.Field.{Field}
use Rattle.bk_space.specs.declared.cause.Cause.{Cause}
use Rattle.bk_space.specs.declared.registers.Regs.{Regs}
use Rattle.bk_space.specs.AddrSpace.{AddrSpace}
use Rattle.bk_space.specs.Registers.{with_reg}
use Rattle.bk_isa.specs.declared.operation.Bin.{Bin}
use Rattle.bk_isa.specs.declared.operation.Bin.TheVariants.{Mov, Cmp, Bit, Bic, Bis, Add, Sub}
use Rattle.bk_isa.specs.declared.operation.Un.{Un}
use Rattle.bk_isa.specs.declared.operation.Un.TheVariants.{Clr, Com, Inc, Dec, Neg, Adc, Sbc, Tst, Ror, Rol, Asr, Asl, Swab, Sxt}
use Rattle.bk_isa.specs.declared.operation.EisOp.{EisOp}
use Rattle.bk_isa.specs.declared.instr.Instr.{Instr}
use Rattle.bk_isa.specs.declared.instr.Instr.TheVariants.{Double, Single, Xor, Eis, Jmp, Jsr, Rts, Sob, Mark, Mfp, Mtp, Branch}
use Rattle.bk_isa.specs.declared.instr.Instr.TheVariants.{Codes, Spl, Emt, Trap, Halt, Wait, Rti, Bpt, Iot, Reset, Rtt}
use Rattle.bk_isa.specs.Decode.{decode_of}
use Rattle.bk_operand.specs.declared.place.Place.{Place}
use Rattle.bk_operand.specs.declared.place.Place.TheVariants.{Reg, Mem}
use Rattle.bk_exec.specs.declared.ending.Ending.{Ending}
use Rattle.bk_exec.specs.Given.{Given}
use Rattle.bk_exec.specs.Operands.{sourced, moved_to, moving, comparing, combining, double_of, setting, testing, changing, single_of, exclusive}
use Rattle.bk_exec.specs.Extended.{extending}
use Rattle.bk_exec.specs.Control.{jump_to, jumping, call_to, calling, returning, marking, resuming}
use Rattle.bk_exec.specs.Previous.{fetched_previous, stored_previous, moving_from, moving_to}
use Rattle.bk_exec.specs.Exec.{executed, running, finished, exec}
use Rattle.bk_exec.proofs.AlikeParts.{Alike, with_stack_alike, with_reg_alike, either_alike, extended_alike, looped_alike, branched_alike}
use Rattle.bk_exec.proofs.AlikeParts.{LeavesAlike, Keeps, then_keeps, given_keeps, cut_keeps, reading_keeps, writing_keeps}
use Rattle.bk_exec.proofs.AlikeParts.{next_word_keeps, located_keeps, fetched_keeps, stored_keeps, pushed_keeps, popped_keeps}

sourced_keeps : (pages : AddrSpace) (width : Width) (src dst : Field) (regs : Regs) → Keeps regs (sourced pages width src dst regs)
unfolding sourced
sourced_keeps pages width src dst regs =
    then_keeps _ _ _ (located_keeps _ _ _ _) (λ from. then_keeps _ _ _ (fetched_keeps _ _ _ _) (λ value.
    then_keeps _ _ _ (located_keeps _ _ _ _) (λ to. given_keeps to.1 _ _ refl)))

moving_keeps : (pages : AddrSpace) (width : Width) (src dst : Field) (regs : Regs) → Keeps regs (moving pages width src dst regs)
unfolding moving moved_to
moving_keeps pages width src dst regs =
    then_keeps _ _ _ (sourced_keeps _ _ _ _ _) (λ both. then_keeps _ _ _ (stored_keeps _ _ _ _ _) (λ write. given_keeps write.1 _ _ refl))

comparing_keeps : (pages : AddrSpace) (op : Bin) (width : Width) (src dst : Field) (regs : Regs) → Keeps regs (comparing pages op width src dst regs)
unfolding comparing
comparing_keeps pages op width src dst regs =
    then_keeps _ _ _ (sourced_keeps _ _ _ _ _) (λ both. then_keeps _ _ _ (fetched_keeps _ _ _ _) (λ old. given_keeps old.1 _ _ refl))

combining_keeps : (pages : AddrSpace) (op : Bin) (width : Width) (src dst : Field) (regs : Regs) → Keeps regs (combining pages op width src dst regs)
unfolding combining
combining_keeps pages op width src dst regs =
    then_keeps _ _ _ (sourced_keeps _ _ _ _ _) (λ both. then_keeps _ _ _ (fetched_keeps _ _ _ _) (λ old.
    then_keeps _ _ _ (stored_keeps _ _ _ _ _) (λ write. given_keeps write.1 _ _ refl)))

double_keeps : (pages : AddrSpace) (op : Bin) (width : Width) (src dst : Field) (regs : Regs) → Keeps regs (double_of pages op width src dst regs)
unfolding double_of
double_keeps pages Mov width src dst regs = moving_keeps _ _ _ _ _
double_keeps pages Cmp width src dst regs = comparing_keeps _ _ _ _ _ _
double_keeps pages Bit width src dst regs = comparing_keeps _ _ _ _ _ _
double_keeps pages Bic width src dst regs = combining_keeps _ _ _ _ _ _
double_keeps pages Bis width src dst regs = combining_keeps _ _ _ _ _ _
double_keeps pages Add width src dst regs = combining_keeps _ _ _ _ _ _
double_keeps pages Sub width src dst regs = combining_keeps _ _ _ _ _ _

setting_keeps : (pages : AddrSpace) (op : Un) (width : Width) (dst : Field) (regs : Regs) → Keeps regs (setting pages op width dst regs)
unfolding setting
setting_keeps pages op width dst regs =
    then_keeps _ _ _ (located_keeps _ _ _ _) (λ to. then_keeps _ _ _ (stored_keeps _ _ _ _ _) (λ write. given_keeps write.1 _ _ refl))

testing_keeps : (pages : AddrSpace) (width : Width) (dst : Field) (regs : Regs) → Keeps regs (testing pages width dst regs)
unfolding testing
testing_keeps pages width dst regs =
    then_keeps _ _ _ (located_keeps _ _ _ _) (λ to. then_keeps _ _ _ (fetched_keeps _ _ _ _) (λ old. given_keeps old.1 _ _ refl))

changing_keeps : (pages : AddrSpace) (op : Un) (width : Width) (dst : Field) (regs : Regs) → Keeps regs (changing pages op width dst regs)
unfolding changing
changing_keeps pages op width dst regs =
    then_keeps _ _ _ (located_keeps _ _ _ _) (λ to. then_keeps _ _ _ (fetched_keeps _ _ _ _) (λ old.
    then_keeps _ _ _ (stored_keeps _ _ _ _ _) (λ write. given_keeps write.1 _ _ refl)))

single_keeps : (pages : AddrSpace) (op : Un) (width : Width) (dst : Field) (regs : Regs) → Keeps regs (single_of pages op width dst regs)
unfolding single_of
single_keeps pages Clr width dst regs = setting_keeps _ _ _ _ _
single_keeps pages Com width dst regs = changing_keeps _ _ _ _ _
single_keeps pages Inc width dst regs = changing_keeps _ _ _ _ _
single_keeps pages Dec width dst regs = changing_keeps _ _ _ _ _
single_keeps pages Neg width dst regs = changing_keeps _ _ _ _ _
single_keeps pages Adc width dst regs = changing_keeps _ _ _ _ _
single_keeps pages Sbc width dst regs = changing_keeps _ _ _ _ _
single_keeps pages Tst width dst regs = testing_keeps _ _ _ _
single_keeps pages Ror width dst regs = changing_keeps _ _ _ _ _
single_keeps pages Rol width dst regs = changing_keeps _ _ _ _ _
single_keeps pages Asr width dst regs = changing_keeps _ _ _ _ _
single_keeps pages Asl width dst regs = changing_keeps _ _ _ _ _
single_keeps pages Swab width dst regs = changing_keeps _ _ _ _ _
single_keeps pages Sxt width dst regs = setting_keeps _ _ _ _ _

exclusive_keeps : (pages : AddrSpace) (r : ℕ) (dst : Field) (regs : Regs) → Keeps regs (exclusive pages r dst regs)
unfolding exclusive
exclusive_keeps pages r dst regs =
    then_keeps _ _ _ (located_keeps _ _ _ _) (λ to. then_keeps _ _ _ (fetched_keeps _ _ _ _) (λ old.
    then_keeps _ _ _ (stored_keeps _ _ _ _ _) (λ write. given_keeps write.1 _ _ refl)))

extending_keeps : (pages : AddrSpace) (op : EisOp) (r : ℕ) (src : Field) (regs : Regs) → Keeps regs (extending pages op r src regs)
unfolding extending
extending_keeps pages op r src regs =
    then_keeps _ _ _ (located_keeps _ _ _ _) (λ from. then_keeps _ _ _ (fetched_keeps _ _ _ _) (λ value.
    given_keeps value.1 _ _ (extended_alike op r value.0 value.1)))

jump_keeps : (place : Place) (regs : Regs) → Keeps regs (jump_to place regs)
jump_keeps (Reg r) regs = cut_keeps regs _
jump_keeps (Mem space addr) regs = given_keeps regs _ _ refl

jumping_keeps : (pages : AddrSpace) (dst : Field) (regs : Regs) → Keeps regs (jumping pages dst regs)
unfolding jumping
jumping_keeps pages dst regs = then_keeps _ _ _ (located_keeps _ _ _ _) (λ to. jump_keeps to.0 to.1)

call_keeps : (pages : AddrSpace) (r : ℕ) (place : Place) (regs : Regs) → Keeps regs (call_to pages r place regs)
unfolding call_to
call_keeps pages r (Reg n) regs = cut_keeps regs _
call_keeps pages r (Mem space addr) regs = then_keeps _ _ _ (pushed_keeps _ _ _) (λ write. given_keeps write.1 _ _ (with_reg_alike write.1 r _))

calling_keeps : (pages : AddrSpace) (r : ℕ) (dst : Field) (regs : Regs) → Keeps regs (calling pages r dst regs)
unfolding calling
calling_keeps pages r dst regs = then_keeps _ _ _ (located_keeps _ _ _ _) (λ to. call_keeps pages r to.0 to.1)

returning_keeps : (pages : AddrSpace) (r : ℕ) (regs : Regs) → Keeps regs (returning pages r regs)
unfolding returning
returning_keeps pages r regs = then_keeps _ _ _ (popped_keeps _ _) (λ word. given_keeps word.1 _ _ (with_reg_alike (record word.1 { pc = _ }) r word.0))

marking_keeps : (pages : AddrSpace) (count : ℕ) (regs : Regs) → Keeps regs (marking pages count regs)
unfolding marking
marking_keeps pages count regs =
    then_keeps _ _ _ (reading_keeps _ _ _ _ _ _) (λ word. given_keeps word.1 _ _ (with_reg_alike (record (with_reg word.1 6 _) { pc = _ }) 5 word.0 ∙ with_reg_alike word.1 6 _))

resuming_keeps : (pages : AddrSpace) (ending : Ending) (regs : Regs) → Keeps regs (resuming pages ending regs)
unfolding resuming
resuming_keeps pages ending regs =
    then_keeps _ _ _ (reading_keeps _ _ _ _ _ _) (λ pc. then_keeps _ _ _ (reading_keeps _ _ _ _ _ _) (λ ps. given_keeps ps.1 _ _ (with_reg_alike ps.1 6 _)))

fetched_previous_keeps : (pages : AddrSpace) (space : Space) (place : Place) (regs : Regs) → Keeps regs (fetched_previous pages space place regs)
unfolding fetched_previous
fetched_previous_keeps pages space (Reg r) regs = given_keeps regs _ _ refl
fetched_previous_keeps pages space (Mem own addr) regs = reading_keeps _ _ _ _ _ _

stored_previous_keeps : (pages : AddrSpace) (space : Space) (place : Place) (value : ℕ) (regs : Regs) → Keeps regs (stored_previous pages space place value regs)
unfolding stored_previous
stored_previous_keeps pages space (Reg r) value regs =
    given_keeps regs _ _ (either_alike (r == 6) regs _ _ (with_stack_alike regs.ps.previous regs value) (with_reg_alike regs r value))
stored_previous_keeps pages space (Mem own addr) value regs = writing_keeps _ _ _

moving_from_keeps : (pages : AddrSpace) (space : Space) (src : Field) (regs : Regs) → Keeps regs (moving_from pages space src regs)
unfolding moving_from
moving_from_keeps pages space src regs =
    then_keeps _ _ _ (located_keeps _ _ _ _) (λ from. then_keeps _ _ _ (fetched_previous_keeps _ _ _ _) (λ value.
    then_keeps _ _ _ (pushed_keeps _ _ _) (λ write. given_keeps write.1 _ _ refl)))

moving_to_keeps : (pages : AddrSpace) (space : Space) (dst : Field) (regs : Regs) → Keeps regs (moving_to pages space dst regs)
unfolding moving_to
moving_to_keeps pages space dst regs =
    then_keeps _ _ _ (popped_keeps _ _) (λ word. then_keeps _ _ _ (located_keeps _ _ _ _) (λ to.
    then_keeps _ _ _ (stored_previous_keeps _ _ _ _ _) (λ write. given_keeps write.1 _ _ refl)))

executed_keeps : (pages : AddrSpace) (instr : Option Instr) (regs : Regs) → Keeps regs (executed pages instr regs)
unfolding executed
executed_keeps pages None regs = cut_keeps regs _
executed_keeps pages (Some (Double op width src dst)) regs = double_keeps _ _ _ _ _ _
executed_keeps pages (Some (Single op width dst)) regs = single_keeps _ _ _ _ _
executed_keeps pages (Some (Xor r dst)) regs = exclusive_keeps _ _ _ _
executed_keeps pages (Some (Eis op r src)) regs = extending_keeps _ _ _ _ _
executed_keeps pages (Some (Jmp dst)) regs = jumping_keeps _ _ _
executed_keeps pages (Some (Jsr r dst)) regs = calling_keeps _ _ _ _
executed_keeps pages (Some (Rts r)) regs = returning_keeps _ _ _
executed_keeps pages (Some (Sob r back)) regs = given_keeps regs _ _ (looped_alike r back regs)
executed_keeps pages (Some (Mark count)) regs = marking_keeps _ _ _
executed_keeps pages (Some (Mfp space src)) regs = moving_from_keeps _ _ _ _
executed_keeps pages (Some (Mtp space dst)) regs = moving_to_keeps _ _ _ _
executed_keeps pages (Some (Branch cond offset)) regs = given_keeps regs _ _ (branched_alike cond offset regs)
executed_keeps pages (Some (Codes set mask)) regs = given_keeps regs _ _ refl
executed_keeps pages (Some (Spl level)) regs = given_keeps regs _ _ refl
executed_keeps pages (Some (Emt n)) regs = given_keeps regs _ _ refl
executed_keeps pages (Some (Trap n)) regs = given_keeps regs _ _ refl
executed_keeps pages (Some Halt) regs = cut_keeps regs _
executed_keeps pages (Some Wait) regs = given_keeps regs _ _ refl
executed_keeps pages (Some Rti) regs = resuming_keeps _ _ _
executed_keeps pages (Some Bpt) regs = given_keeps regs _ _ refl
executed_keeps pages (Some Iot) regs = given_keeps regs _ _ refl
executed_keeps pages (Some Reset) regs = given_keeps regs _ _ refl
executed_keeps pages (Some Rtt) regs = resuming_keeps _ _ _

running_keeps : (pages : AddrSpace) (regs : Regs) → Keeps regs (running pages regs)
unfolding running
running_keeps pages regs = then_keeps _ _ _ (next_word_keeps _ _) (λ word. executed_keeps pages (decode_of word.0) word.1)

finished_alike : (before : Regs) (made : ℕ) (outcome : Result (Given × Regs) Cause) → LeavesAlike before outcome → Alike before (finished before made outcome).regs
finished_alike before made (Ok x) h = h
finished_alike before made (Err cause) h = refl

-- an instruction leaves as many general registers as it found
pub exec_alike : (pages : AddrSpace) (regs : Regs) → length (exec pages regs).regs.general ≡ length regs.general
unfolding exec
exec_alike pages regs = finished_alike regs (running pages regs).made (running pages regs).outcome ((running_keeps pages regs).left)
