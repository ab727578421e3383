-- What a turn counts at most, and that every event keeps the fixed part.
use Rattle.std.proofs.Common.{◌≡◌, ℕ, ◌+◌, ◌≤◌, Bool, true, false, cond, List, [], ◌∷◌, Option, Some, None, refl, ◌∙◌, arith}
use Rattle.std.specs.Prelude.{slice_get, slice_index}
use Rattle.std.proofs.lemmas.List.Sums.{sum_by-cons}
use Rattle.bk_space.specs.AddrSpace.{Write, applied, page_number}
use Rattle.bk_path.specs.Paths.{Path}
use Rattle.bk_exec.specs.declared.event.Event.{Event}
use Rattle.bk_exec.specs.declared.event.Event.TheVariants.{Ran, Call, Fault}
use Rattle.bk_exec.specs.Exec.{Done, exec}
use Rattle.bk_exec.proofs.MostLemmas.{exec_most}
use Rattle.bk_process.specs.declared.process.Process.{Process}
use Rattle.bk_process.specs.declared.status.Status9.{Status9}
use Rattle.bk_process.specs.declared.status.Status9.TheVariants.{Running, Paused, Stopped}
use Rattle.bk_report.specs.declared.item.ReportItem.{ReportItem}
use Rattle.bk_report.specs.declared.item.ReportItem.TheVariants as items
use Rattle.bk_state.specs.State.{State, Object, find, process_of}
use Rattle.bk_state.specs.Contents.{with_contents}
use Rattle.bk_state.specs.Causes.{answer_in, cause_in}
use Rattle.bk_state.specs.RowCalls.{changed_by}
use Rattle.bk_state.specs.Answers.{Called, called}
use Rattle.bk_system.specs.declared.at.At.{At}
use Rattle.bk_system.specs.Space.{space_of}
use Rattle.bk_system.specs.Step.{Step}
use Rattle.bk_system.specs.Turn.{stored_in, written_by, written, with_push, with_pushes, byte_item, settled, fault_number, is_reflected, less, faulted}
use Rattle.bk_system.specs.Turn.{ended, executed, turn_by, turn_of_process, turn_of}
use Rattle.bk_system.specs.Arrivals.{arrived}
use Rattle.bk_system.specs.Event.{Event as Happening, Arrive, Turn, EndSlot, slot_ended, happens, all_happen}
use Rattle.bk_system.specs.Report.{is_call, calls_in}

-- ---- a write keeps the fixed part

changed_by-fixed : (v : State) (path : Path) (change : Object → Object) (o : Option Object) → (changed_by v path change o).fixed ≡ v.fixed
changed_by-fixed v path change None = refl
changed_by-fixed v path change (Some o) = refl

written_by-fixed : (v : State) (w : Write) (o : Option (Option Path)) → (written_by v w o).fixed ≡ v.fixed
written_by-fixed v w (Some (Some path)) = changed_by-fixed v path (with_contents (stored_in w)) (find v path)
written_by-fixed v w (Some None) = refl
written_by-fixed v w None = refl

pub written-fixed : (windows : List (Option Path)) (v : State) (w : Write) → (written windows v w).fixed ≡ v.fixed
unfolding written
written-fixed windows v w = written_by-fixed v w (slice_get windows (page_number w.mode w.space w.addr))

pub applied-fixed : (windows : List (Option Path)) (v : State) (w : Option Write) → (applied (written windows) v w).fixed ≡ v.fixed
applied-fixed windows v None = refl
applied-fixed windows v (Some w) = written-fixed windows v w

with_pushes-fixed : (v : State) (p : Process) → (with_pushes v p).fixed ≡ v.fixed
with_pushes-fixed v p =
    written-fixed p.windows (with_push p.windows (less p.registers.supervisor 2) _ v) _ ∙ written-fixed p.windows v _

-- ---- a turn

-- what the state's fixed part, the references and the calls of a step are at most
pub record Bounded (v : State) (references calls : ℕ) (step : Step) : Type 0 where
  pub fixed : step.state.fixed ≡ v.fixed
  pub references_are : step.references ≤ references
  pub calls_are : calls_in step.items ≤ calls

byte_item-calls : (at : At) (sent : Option (ℕ × ℕ)) → calls_in (byte_item at sent) ≡ 0
byte_item-calls at None = refl
byte_item-calls at (Some sent) = refl

calls-cons : (x : ReportItem) (xs : List ReportItem) → calls_in (x ∷ xs) ≡ cond (is_call x) 1 0 + calls_in xs
calls-cons x xs = sum_by-cons (λ (y : ReportItem). cond (is_call y) 1 0) x xs

settled-Bounded : (v : State) (at : At) (p : Process) (number references : ℕ) (c : Called) → Bounded v references 1 (settled v at p number references c)
settled-Bounded v at p number references c = record {
  fixed = refl;
  references_are = omega arith;
  calls_are = omega (arith, byte_item-calls at c.sent, calls-cons (items.Call at.slot at.turn at.subject number p.registers.general (answer_in c.cause) (cause_in c.cause)) (byte_item at c.sent));
}

faulted-Bounded : (v : State) (at : At) (p : Process) (number references entry : ℕ) (reflected : Bool) → Bounded v (references + 2) 1 (faulted v at p number references entry reflected)
faulted-Bounded v at p number references entry true = record { fixed = with_pushes-fixed v p; references_are = omega arith; calls_are = omega arith }
faulted-Bounded v at p number references entry false = record { fixed = refl; references_are = omega arith; calls_are = omega arith }

ended-Bounded : (v : State) (at : At) (p : Process) (references : ℕ) (event : Event) → Bounded v (references + 2) 1 (ended v at p references event)
ended-Bounded v at p references Ran = record { fixed = refl; references_are = omega arith; calls_are = omega arith }
ended-Bounded v at p references (Call number) =
    let b = settled-Bounded v at p number references (called v at.subject p number) in
    record { fixed = b.fixed; references_are = omega (arith, b.references_are); calls_are = b.calls_are }
ended-Bounded v at p references (Fault cause) =
    faulted-Bounded v at p (fault_number cause) references (slice_index p.entries (fault_number cause)) (is_reflected v at.subject p (slice_index p.entries (fault_number cause)))

nothing-Bounded : (v : State) → Bounded v 10 1 (record { state = v; items = []; references = 0 })
nothing-Bounded v = record { fixed = refl; references_are = omega arith; calls_are = omega arith }

executed-Bounded : (v : State) (at : At) (p : Process) (x : Done) → x.references ≤ 8 → Bounded v 10 1 (executed v at p x)
executed-Bounded v at p x few =
    let b = ended-Bounded (applied (written p.windows) v x.write) at (record p { registers = x.regs }) x.references x.outcome in
    record { fixed = b.fixed ∙ applied-fixed p.windows v x.write; references_are = omega (arith, b.references_are, few); calls_are = b.calls_are }

turn_by-Bounded : (v : State) (at : At) (p : Process) (status : Status9) → Bounded v 10 1 (turn_by v at p status)
turn_by-Bounded v at p Running = executed-Bounded v at p (exec (space_of v at.subject p.windows) p.registers) (exec_most (space_of v at.subject p.windows) p.registers)
turn_by-Bounded v at p Paused = nothing-Bounded v
turn_by-Bounded v at p (Stopped cause) = nothing-Bounded v

turn_of_process-Bounded : (v : State) (at : At) (p : Option Process) → Bounded v 10 1 (turn_of_process v at p)
turn_of_process-Bounded v at None = nothing-Bounded v
turn_of_process-Bounded v at (Some p) = turn_by-Bounded v at p p.status

-- a turn makes at most ten references, eight by its instruction and two by a reflection, and one call
pub turn_of-Bounded : (at : At) (v : State) → Bounded v 10 1 (turn_of at v)
unfolding turn_of
turn_of-Bounded at v = turn_of_process-Bounded v at (process_of v at.subject)

-- ---- events

pub slot_ended-fixed : (v : State) → (slot_ended v).fixed ≡ v.fixed
unfolding slot_ended
slot_ended-fixed v = refl

-- every event keeps the fixed part
pub happens-fixed : (v : State) (event : Happening) → (happens v event).state.fixed ≡ v.fixed
unfolding happens arrived
happens-fixed v (Arrive line bytes) = refl
happens-fixed v (Turn at) = (turn_of-Bounded at v).fixed
happens-fixed v EndSlot = slot_ended-fixed v

pub all_happen-fixed : (v : State) (events : List Happening) → (all_happen v events).state.fixed ≡ v.fixed
all_happen-fixed v [] = refl
all_happen-fixed v (event ∷ events) = all_happen-fixed (happens v event).state events ∙ happens-fixed v event
