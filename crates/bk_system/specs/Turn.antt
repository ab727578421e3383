-- A turn: one instruction of a subject, and the kernel call or the reflected fault that it ends as.
use Rattle.std.specs.Prelude.{ℕ, ◌+◌, ◌-◌, ◌%◌, ◌^◌, ◌==◌, Bool, true, false, not, ◌&&◌}
use Rattle.std.specs.Prelude.{List, [], ◌∷◌, Option, Some, None, slice_get, slice_index, slice_set, Result, Ok, Err}
use Rattle.bk_space.specs.AddrSpace.{Write, page_number, put, write_at, applied}
use Rattle.bk_space.specs.Status.{status_of, word_of}
use Rattle.bk_space.specs.declared.reference.Mode.{Mode}
use Rattle.bk_space.specs.declared.reference.Mode.TheVariants.{Supervisor, User}
use Rattle.bk_space.specs.declared.reference.Space.TheVariants.{D}
use Rattle.bk_space.specs.declared.reference.Width.TheVariants.{Word}
use Rattle.bk_space.specs.declared.reference.Abort.{Abort}
use Rattle.bk_space.specs.declared.cause.Cause as fault
use Rattle.bk_space.specs.declared.cause.Cause.TheVariants as faults
use Rattle.bk_exec.specs.declared.event.Event.{Event}
use Rattle.bk_exec.specs.declared.event.Event.TheVariants.{Ran, Call, Fault}
use Rattle.bk_exec.specs.Exec.{Done, exec}
use Rattle.bk_path.specs.Paths.{Path}
use Rattle.bk_process.specs.declared.process.Process.{Process}
use Rattle.bk_process.specs.declared.status.Status9.{Status9}
use Rattle.bk_process.specs.declared.status.Status9.TheVariants.{Running, Paused, Stopped}
use Rattle.bk_report.specs.declared.ReportItem.{ReportItem}
use Rattle.bk_report.specs.declared.ReportItem.TheVariants as items
use Rattle.bk_state.specs.State.{State, Contents, Children, Words, Messages, Typed, process_of}
use Rattle.bk_state.specs.Contents.{with_contents}
use Rattle.bk_state.specs.Causes.{answer_in, cause_in}
use Rattle.bk_state.specs.RowCalls.{changed_at}
use Rattle.bk_state.specs.Answers.{Called, called, level_after}
use Rattle.bk_system.specs.declared.at.At.{At}
use Rattle.bk_system.specs.Space.{space_of}
use Rattle.bk_system.specs.Step.{Step, nothing}

-- ---- the write of an instruction

-- of contents that are words
abbrev pub stored_in : Write → Contents → Contents
stored_in w Children = Children
stored_in w (Words words) = Words (put w.width w.addr w.value words)
stored_in w (Messages waiting lost) = Messages waiting lost
stored_in w (Typed bytes) = Typed bytes

-- in the segment that a window shows
abbrev pub written_by : State → Write → Option (Option Path) → State
written_by v w (Some (Some path)) = changed_at v path (with_contents (stored_in w))
written_by v w (Some None) = v
written_by v w None = v

-- the write is made in the segment that the window shows, so that each window which shows its path sees it
unfoldable pub written : (windows : List (Option Path)) → State → Write → State
written windows v w = written_by v w (slice_get windows (page_number w.mode w.space w.addr))

-- ---- the process of a subject

-- the subject's process becomes this one
abbrev pub with_process : State → (s : ℕ) → Process → State
with_process v s p = record v { processes = slice_set v.processes s p }

-- ---- kernel calls

-- the item of a byte that went out
abbrev pub byte_item : At → Option (ℕ × ℕ) → List ReportItem
byte_item at None = []
byte_item at (Some sent) = items.Byte at.slot at.turn sent.0 sent.1 ∷ []

-- the state after a call, and its items: the call with R0 to R5 as found, and the byte that went out
abbrev pub settled : State → At → Process → (number references : ℕ) → Called → Step
settled v at p number references c = record {
  state = record v {
    objects = c.objects;
    access = c.access;
    current = slice_set v.current at.subject (level_after v at.subject c.raised);
    processes = slice_set v.processes at.subject c.process;
  };
  items =
      items.Call at.slot at.turn at.subject number p.registers.general (answer_in c.cause) (cause_in c.cause)
      ∷ byte_item at c.sent;
  references = references;
}

-- ---- faults

-- the faults by their numbers, 0 to 7
abbrev pub fault_number : fault.Cause → ℕ
fault_number faults.Odd = 0
fault_number faults.NonResident = 1
fault_number faults.Length = 2
fault_number faults.ReadOnly = 3
fault_number faults.Reserved = 4
fault_number faults.Break = 5
fault_number faults.Iot = 6
fault_number faults.Trap = 7

-- the mode is user
abbrev pub is_user : Mode → Bool
is_user Supervisor = false
is_user User = true

-- an address less n, around the end of the space
abbrev pub less : (addr n : ℕ) → ℕ
less addr n = (addr + (2 ^ 16 - n)) % 2 ^ 16

-- the reference completes
abbrev pub completes : {X : Type 0} → Result X Abort → Bool
completes (Ok x) = true
completes (Err abort) = false

-- a write of the word at the address in supervisor D space would complete; to test it makes no reference
abbrev pub is_writable : State → (s : ℕ) → (windows : List (Option Path)) → (addr : ℕ) → Bool
is_writable v s windows addr = completes (write_at (space_of v s windows) Supervisor D Word addr)

-- in user mode, with an entry that isn't 0, and with the two words below the supervisor stack pointer writable
abbrev pub is_reflected : State → (s : ℕ) → Process → (entry : ℕ) → Bool
is_reflected v s p entry =
    is_user p.registers.ps.mode && not (entry == 0)
    && is_writable v s p.windows (less p.registers.supervisor 2) && is_writable v s p.windows (less p.registers.supervisor 4)

-- a word is written in supervisor D space
abbrev pub with_push : (windows : List (Option Path)) → (addr value : ℕ) → State → State
with_push windows addr value v = written windows v (record { mode = Supervisor; space = D; width = Word; addr = addr; value = value })

-- the process goes on at its entry, in supervisor mode
abbrev pub entered : Process → (entry : ℕ) → Process
entered p entry = record p {
  registers = record p.registers { supervisor = less p.registers.supervisor 4; pc = entry; ps = status_of Supervisor User };
}

-- the old status goes to the stack, and then the old program counter
abbrev pub with_pushes : State → Process → State
with_pushes v p =
    with_push p.windows (less p.registers.supervisor 4) p.registers.pc
    (with_push p.windows (less p.registers.supervisor 2) (word_of p.registers.ps) v)

-- a fault is reflected, or stops the process
abbrev pub faulted : State → At → Process → (number references entry : ℕ) → (reflected : Bool) → Step
faulted v at p number references entry true = record {
  state = with_process (with_pushes v p) at.subject (entered p entry);
  items = items.Fault at.slot at.turn at.subject number p.registers.pc true ∷ [];
  references = references + 2;
}
faulted v at p number references entry false = record {
  state = with_process v at.subject (record p { status = Stopped number });
  items = items.Fault at.slot at.turn at.subject number p.registers.pc false ∷ [];
  references = references;
}

-- ---- the turn

-- the process has the registers that the instruction left, and its write is made; then what it ended as
abbrev pub ended : State → At → Process → (references : ℕ) → Event → Step
ended v at p references Ran = record { state = with_process v at.subject p; items = []; references = references }
ended v at p references (Call number) = settled v at p number references (called v at.subject p number)
ended v at p references (Fault cause) =
    let entry = slice_index p.entries (fault_number cause) in
    faulted v at p (fault_number cause) references entry (is_reflected v at.subject p entry)

-- the process after its instruction
abbrev pub executed : State → At → Process → Done → Step
executed v at p x = ended (applied (written p.windows) v x.write) at (record p { registers = x.regs }) x.references x.outcome

-- a paused or stopped process does nothing
abbrev pub turn_by : State → At → Process → Status9 → Step
turn_by v at p Running = executed v at p (exec (space_of v at.subject p.windows) p.registers)
turn_by v at p Paused = nothing v
turn_by v at p (Stopped cause) = nothing v

-- a number that is no subject's does nothing
abbrev pub turn_of_process : State → At → Option Process → Step
turn_of_process v at None = nothing v
turn_of_process v at (Some p) = turn_by v at p p.status

-- the turn of a subject
unfoldable pub turn_of : At → State → Step
turn_of at v = turn_of_process v at (process_of v at.subject)
