use Rattle.std.proofs.Common.{◌≡◌, ℕ, Ok, Err, Some, None, is_ok, refl, ap}
use Rattle.std.specs.Prelude.{Result, Option}
use Rattle.bk_space.specs.declared.reference.Space.{Space}
use Rattle.bk_space.specs.declared.reference.Width.{Width}
use Rattle.bk_space.specs.declared.reference.Abort.{Abort}
use Rattle.bk_space.specs.declared.field.Field.{Field}
use Rattle.bk_space.specs.declared.cause.Cause.{Cause}
use Rattle.bk_space.specs.declared.registers.Regs.{Regs}
use Rattle.bk_space.specs.AddrSpace.{AddrSpace, Write, write_at}
use Rattle.bk_isa.specs.declared.operation.Bin.{Bin}
use Rattle.bk_isa.specs.declared.operation.Bin.TheVariants.{Mov, Cmp, Bit, Bic, Bis, Add, Sub}
use Rattle.bk_isa.specs.declared.operation.Un.{Un}
use Rattle.bk_isa.specs.declared.operation.Un.TheVariants.{Clr, Com, Inc, Dec, Neg, Adc, Sbc, Tst, Ror, Rol, Asr, Asl, Swab, Sxt}
use Rattle.bk_isa.specs.declared.operation.EisOp.{EisOp}
use Rattle.bk_isa.specs.declared.instr.Instr.{Instr}
use Rattle.bk_isa.specs.declared.instr.Instr.TheVariants.{Double, Single, Xor, Eis, Jmp, Jsr, Rts, Sob, Mark, Mfp, Mtp, Branch}
use Rattle.bk_isa.specs.declared.instr.Instr.TheVariants.{Codes, Spl, Emt, Trap, Halt, Wait, Rti, Bpt, Iot, Reset, Rtt}
use Rattle.bk_isa.specs.Decode.{decode_of}
use Rattle.bk_operand.specs.declared.place.Place.{Place}
use Rattle.bk_operand.specs.declared.place.Place.TheVariants.{Reg, Mem}
use Rattle.bk_operand.specs.Part.{Part, given, cut_off, outcome_after, answered, ◌>>=◌, writing}
use Rattle.bk_operand.specs.Operand.{stored}
use Rattle.bk_exec.specs.declared.ending.Ending.{Ending}
use Rattle.bk_exec.specs.Given.{Given, done, pushed}
use Rattle.bk_exec.specs.Operands.{moved_to, moving, comparing, combining, double_of, setting, testing, changing, single_of, exclusive}
use Rattle.bk_exec.specs.Extended.{extending}
use Rattle.bk_exec.specs.Control.{jump_to, jumping, call_to, calling, returning, marking, resuming}
use Rattle.bk_exec.specs.Previous.{stored_previous, moving_from, moving_to}
use Rattle.bk_exec.specs.Exec.{executed, running, finished, exec}
use Rattle.bk_exec.specs.Laws.{IsAllowed}

abbrev GivesAllowed : AddrSpace → Result (Option Write × Regs) Cause → Type 0
GivesAllowed pages (Ok x) = IsAllowed pages x.0
GivesAllowed pages (Err cause) = Unit {0}

-- a part that gives a write gives one that is allowed
record GivesWrite (pages : AddrSpace) (part : Part (Option Write)) : Type 0 where
  write : GivesAllowed pages part.outcome

abbrev EndsAllowed : AddrSpace → Result (Given × Regs) Cause → Type 0
EndsAllowed pages (Ok x) = IsAllowed pages x.0.0
EndsAllowed pages (Err cause) = Unit {0}

-- an instruction gives a write that is allowed, if it gives one
record Allowed (pages : AddrSpace) (part : Part Given) : Type 0 where
  write : EndsAllowed pages part.outcome

then_by : {X : Type 0} (pages : AddrSpace) (outcome : Result (X × Regs) Cause) (next : X × Regs → Part Given)
    → ((x : X × Regs) → Allowed pages (next x)) → EndsAllowed pages (outcome_after outcome next)
then_by pages (Ok x) next h = (h x).write
then_by pages (Err cause) next h = tt

-- whatever came before
then_allowed : {X : Type 0} (pages : AddrSpace) (part : Part X) (next : X × Regs → Part Given) → ((x : X × Regs) → Allowed pages (next x)) → Allowed pages (part >>= next)
then_allowed pages part next h = record { write = then_by pages part.outcome next h }

done_by : (pages : AddrSpace) (outcome : Result (Option Write × Regs) Cause) (leaves : Option Write × Regs → Regs)
    → GivesAllowed pages outcome → EndsAllowed pages (outcome_after outcome (λ x. done x.0 (leaves x)))
done_by pages (Ok x) leaves h = h
done_by pages (Err cause) leaves h = tt

-- after a part that gives the write
done_allowed : (pages : AddrSpace) (part : Part (Option Write)) (leaves : Option Write × Regs → Regs) → GivesWrite pages part → Allowed pages (part >>= λ x. done x.0 (leaves x))
done_allowed pages part leaves h = record { write = done_by pages part.outcome leaves h.write }

-- no write
nothing : {pages : AddrSpace} {regs : Regs} {ending : Ending} → Allowed pages (given (None, ending) regs)
nothing = record { write = tt }

cut : {pages : AddrSpace} {cause : Cause} → Allowed pages (cut_off cause)
cut = record { write = tt }

written_allowed : (pages : AddrSpace) (w : Write) (regs : Regs) (answer : Result (Unit {0}) Abort) → write_at pages w.mode w.space w.width w.addr ≡ answer
    → GivesAllowed pages (answered (λ _. Some w) answer regs)
written_allowed pages w regs (Ok u) e = ap is_ok e
written_allowed pages w regs (Err abort) e = tt

writing_allowed : (pages : AddrSpace) (w : Write) (regs : Regs) → GivesWrite pages (writing pages w regs)
unfolding writing
writing_allowed pages w regs = record { write = written_allowed pages w regs (write_at pages w.mode w.space w.width w.addr) refl }

stored_allowed : (pages : AddrSpace) (width : Width) (place : Place) (value : ℕ) (regs : Regs) → GivesWrite pages (stored pages width place value regs)
unfolding stored
stored_allowed pages width (Reg r) value regs = record { write = tt }
stored_allowed pages width (Mem space addr) value regs = writing_allowed pages _ regs

stored_previous_allowed : (pages : AddrSpace) (space : Space) (place : Place) (value : ℕ) (regs : Regs) → GivesWrite pages (stored_previous pages space place value regs)
unfolding stored_previous
stored_previous_allowed pages space (Reg r) value regs = record { write = tt }
stored_previous_allowed pages space (Mem own addr) value regs = writing_allowed pages _ regs

given_by : (pages : AddrSpace) (outcome : Result (Option Write × Regs) Cause) (leaves : Option Write × Regs → Regs)
    → GivesAllowed pages outcome → GivesAllowed pages (outcome_after outcome (λ x. given x.0 (leaves x)))
given_by pages (Ok x) leaves h = h
given_by pages (Err cause) leaves h = tt

given_allowed : (pages : AddrSpace) (part : Part (Option Write)) (leaves : Option Write × Regs → Regs) → GivesWrite pages part → GivesWrite pages (part >>= λ x. given x.0 (leaves x))
given_allowed pages part leaves h = record { write = given_by pages part.outcome leaves h.write }

pushed_allowed : (pages : AddrSpace) (value : ℕ) (regs : Regs) → GivesWrite pages (pushed pages value regs)
unfolding pushed
pushed_allowed pages value regs = given_allowed pages _ _ (writing_allowed pages _ regs)

moving_allowed : (pages : AddrSpace) (width : Width) (src dst : Field) (regs : Regs) → Allowed pages (moving pages width src dst regs)
unfolding moving moved_to
moving_allowed pages width src dst regs = then_allowed pages _ _ (λ both. done_allowed pages _ _ (stored_allowed pages _ _ _ _))

comparing_allowed : (pages : AddrSpace) (op : Bin) (width : Width) (src dst : Field) (regs : Regs) → Allowed pages (comparing pages op width src dst regs)
unfolding comparing
comparing_allowed pages op width src dst regs = then_allowed pages _ _ (λ both. then_allowed pages _ _ (λ old. nothing))

combining_allowed : (pages : AddrSpace) (op : Bin) (width : Width) (src dst : Field) (regs : Regs) → Allowed pages (combining pages op width src dst regs)
unfolding combining
combining_allowed pages op width src dst regs =
    then_allowed pages _ _ (λ both. then_allowed pages _ _ (λ old. done_allowed pages _ _ (stored_allowed pages _ _ _ _)))

double_allowed : (pages : AddrSpace) (op : Bin) (width : Width) (src dst : Field) (regs : Regs) → Allowed pages (double_of pages op width src dst regs)
unfolding double_of
double_allowed pages Mov width src dst regs = moving_allowed _ _ _ _ _
double_allowed pages Cmp width src dst regs = comparing_allowed _ _ _ _ _ _
double_allowed pages Bit width src dst regs = comparing_allowed _ _ _ _ _ _
double_allowed pages Bic width src dst regs = combining_allowed _ _ _ _ _ _
double_allowed pages Bis width src dst regs = combining_allowed _ _ _ _ _ _
double_allowed pages Add width src dst regs = combining_allowed _ _ _ _ _ _
double_allowed pages Sub width src dst regs = combining_allowed _ _ _ _ _ _

setting_allowed : (pages : AddrSpace) (op : Un) (width : Width) (dst : Field) (regs : Regs) → Allowed pages (setting pages op width dst regs)
unfolding setting
setting_allowed pages op width dst regs = then_allowed pages _ _ (λ to. done_allowed pages _ _ (stored_allowed pages _ _ _ _))

testing_allowed : (pages : AddrSpace) (width : Width) (dst : Field) (regs : Regs) → Allowed pages (testing pages width dst regs)
unfolding testing
testing_allowed pages width dst regs = then_allowed pages _ _ (λ to. then_allowed pages _ _ (λ old. nothing))

changing_allowed : (pages : AddrSpace) (op : Un) (width : Width) (dst : Field) (regs : Regs) → Allowed pages (changing pages op width dst regs)
unfolding changing
changing_allowed pages op width dst regs =
    then_allowed pages _ _ (λ to. then_allowed pages _ _ (λ old. done_allowed pages _ _ (stored_allowed pages _ _ _ _)))

single_allowed : (pages : AddrSpace) (op : Un) (width : Width) (dst : Field) (regs : Regs) → Allowed pages (single_of pages op width dst regs)
unfolding single_of
single_allowed pages Clr width dst regs = setting_allowed _ _ _ _ _
single_allowed pages Com width dst regs = changing_allowed _ _ _ _ _
single_allowed pages Inc width dst regs = changing_allowed _ _ _ _ _
single_allowed pages Dec width dst regs = changing_allowed _ _ _ _ _
single_allowed pages Neg width dst regs = changing_allowed _ _ _ _ _
single_allowed pages Adc width dst regs = changing_allowed _ _ _ _ _
single_allowed pages Sbc width dst regs = changing_allowed _ _ _ _ _
single_allowed pages Tst width dst regs = testing_allowed _ _ _ _
single_allowed pages Ror width dst regs = changing_allowed _ _ _ _ _
single_allowed pages Rol width dst regs = changing_allowed _ _ _ _ _
single_allowed pages Asr width dst regs = changing_allowed _ _ _ _ _
single_allowed pages Asl width dst regs = changing_allowed _ _ _ _ _
single_allowed pages Swab width dst regs = changing_allowed _ _ _ _ _
single_allowed pages Sxt width dst regs = setting_allowed _ _ _ _ _

exclusive_allowed : (pages : AddrSpace) (r : ℕ) (dst : Field) (regs : Regs) → Allowed pages (exclusive pages r dst regs)
unfolding exclusive
exclusive_allowed pages r dst regs =
    then_allowed pages _ _ (λ to. then_allowed pages _ _ (λ old. done_allowed pages _ _ (stored_allowed pages _ _ _ _)))

extending_allowed : (pages : AddrSpace) (op : EisOp) (r : ℕ) (src : Field) (regs : Regs) → Allowed pages (extending pages op r src regs)
unfolding extending
extending_allowed pages op r src regs = then_allowed pages _ _ (λ from. then_allowed pages _ _ (λ value. nothing))

jump_allowed : (pages : AddrSpace) (place : Place) (regs : Regs) → Allowed pages (jump_to place regs)
jump_allowed pages (Reg r) regs = cut
jump_allowed pages (Mem space addr) regs = nothing

jumping_allowed : (pages : AddrSpace) (dst : Field) (regs : Regs) → Allowed pages (jumping pages dst regs)
unfolding jumping
jumping_allowed pages dst regs = then_allowed pages _ _ (λ to. jump_allowed pages to.0 to.1)

call_allowed : (pages : AddrSpace) (r : ℕ) (place : Place) (regs : Regs) → Allowed pages (call_to pages r place regs)
unfolding call_to
call_allowed pages r (Reg n) regs = cut
call_allowed pages r (Mem space addr) regs = done_allowed pages _ _ (pushed_allowed pages _ _)

calling_allowed : (pages : AddrSpace) (r : ℕ) (dst : Field) (regs : Regs) → Allowed pages (calling pages r dst regs)
unfolding calling
calling_allowed pages r dst regs = then_allowed pages _ _ (λ to. call_allowed pages r to.0 to.1)

returning_allowed : (pages : AddrSpace) (r : ℕ) (regs : Regs) → Allowed pages (returning pages r regs)
unfolding returning
returning_allowed pages r regs = then_allowed pages _ _ (λ word. nothing)

marking_allowed : (pages : AddrSpace) (count : ℕ) (regs : Regs) → Allowed pages (marking pages count regs)
unfolding marking
marking_allowed pages count regs = then_allowed pages _ _ (λ word. nothing)

resuming_allowed : (pages : AddrSpace) (ending : Ending) (regs : Regs) → Allowed pages (resuming pages ending regs)
unfolding resuming
resuming_allowed pages ending regs = then_allowed pages _ _ (λ pc. then_allowed pages _ _ (λ ps. nothing))

moving_from_allowed : (pages : AddrSpace) (space : Space) (src : Field) (regs : Regs) → Allowed pages (moving_from pages space src regs)
unfolding moving_from
moving_from_allowed pages space src regs =
    then_allowed pages _ _ (λ from. then_allowed pages _ _ (λ value. done_allowed pages _ _ (pushed_allowed pages _ _)))

moving_to_allowed : (pages : AddrSpace) (space : Space) (dst : Field) (regs : Regs) → Allowed pages (moving_to pages space dst regs)
unfolding moving_to
moving_to_allowed pages space dst regs =
    then_allowed pages _ _ (λ word. then_allowed pages _ _ (λ to. done_allowed pages _ _ (stored_previous_allowed pages _ _ _ _)))

executed_allowed : (pages : AddrSpace) (instr : Option Instr) (regs : Regs) → Allowed pages (executed pages instr regs)
unfolding executed
executed_allowed pages None regs = cut
executed_allowed pages (Some (Double op width src dst)) regs = double_allowed _ _ _ _ _ _
executed_allowed pages (Some (Single op width dst)) regs = single_allowed _ _ _ _ _
executed_allowed pages (Some (Xor r dst)) regs = exclusive_allowed _ _ _ _
executed_allowed pages (Some (Eis op r src)) regs = extending_allowed _ _ _ _ _
executed_allowed pages (Some (Jmp dst)) regs = jumping_allowed _ _ _
executed_allowed pages (Some (Jsr r dst)) regs = calling_allowed _ _ _ _
executed_allowed pages (Some (Rts r)) regs = returning_allowed _ _ _
executed_allowed pages (Some (Sob r back)) regs = nothing
executed_allowed pages (Some (Mark count)) regs = marking_allowed _ _ _
executed_allowed pages (Some (Mfp space src)) regs = moving_from_allowed _ _ _ _
executed_allowed pages (Some (Mtp space dst)) regs = moving_to_allowed _ _ _ _
executed_allowed pages (Some (Branch cond offset)) regs = nothing
executed_allowed pages (Some (Codes set mask)) regs = nothing
executed_allowed pages (Some (Spl level)) regs = nothing
executed_allowed pages (Some (Emt n)) regs = nothing
executed_allowed pages (Some (Trap n)) regs = nothing
executed_allowed pages (Some Halt) regs = cut
executed_allowed pages (Some Wait) regs = nothing
executed_allowed pages (Some Rti) regs = resuming_allowed _ _ _
executed_allowed pages (Some Bpt) regs = nothing
executed_allowed pages (Some Iot) regs = nothing
executed_allowed pages (Some Reset) regs = nothing
executed_allowed pages (Some Rtt) regs = resuming_allowed _ _ _

running_allowed : (pages : AddrSpace) (regs : Regs) → Allowed pages (running pages regs)
unfolding running
running_allowed pages regs = then_allowed pages _ _ (λ word. executed_allowed pages (decode_of word.0) word.1)

finished_allowed : (pages : AddrSpace) (before : Regs) (made : ℕ) (outcome : Result (Given × Regs) Cause) → EndsAllowed pages outcome → IsAllowed pages (finished before made outcome).write
finished_allowed pages before made (Ok x) h = h
finished_allowed pages before made (Err cause) h = tt

-- the write of an instruction completes
pub exec_allowed : (pages : AddrSpace) (regs : Regs) → IsAllowed pages (exec pages regs).write
unfolding exec
exec_allowed pages regs = finished_allowed pages regs (running pages regs).made (running pages regs).outcome ((running_allowed pages regs).write)
