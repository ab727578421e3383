-- The trap sequence: an instruction that doesn't end as it ran enters kernel mode through a vector.
use Rattle.std.specs.Prelude.{ℕ, ◌+◌, ◌-◌, ◌*◌, ◌/◌, ◌%◌, List, Option, Some, None}
use Rattle.bk_space.specs.declared.cause.Cause.{Cause}
use Rattle.bk_space.specs.declared.cause.Cause.TheVariants.{Odd, NonResident, Length, ReadOnly, Reserved, Break, Iot, Trap}
use Rattle.bk_space.specs.declared.reference.Mode.{Mode}
use Rattle.bk_space.specs.declared.registers.Regs.{Regs}
use Rattle.bk_space.specs.Status.{mode_bits, word_of}
use Rattle.bk_exec.specs.declared.event.Event.{Event}
use Rattle.bk_exec.specs.declared.event.Event.TheVariants.{Ran, Call, Fault}
use Rattle.bk_core.specs.Memory.{with_word, word_at}
use Rattle.bk_machine.specs.declared.registers.KernelRegs.{KernelRegs}

-- the vector of a fault: the three aborts of a page go by memory management, a T fault by that of BPT
abbrev pub fault_vector : Cause → ℕ
fault_vector Odd = 0o4
fault_vector NonResident = 0o250
fault_vector Length = 0o250
fault_vector ReadOnly = 0o250
fault_vector Reserved = 0o10
fault_vector Break = 0o14
fault_vector Iot = 0o20
fault_vector Trap = 0o34

-- the vector by which an instruction traps; one that ran doesn't
abbrev pub vector_of : Event → Option ℕ
vector_of Ran = None
vector_of (Call n) = Some 0o30
vector_of (Fault cause) = Some (fault_vector cause)

-- the kernel's stack pointer outside kernel mode: the stack grows downward from the end of the kernel's blocks (own)
abbrev pub kernel_stack : ℕ
kernel_stack = 0o10000

-- the kernel's stack pointer in kernel mode, where a status and a program counter are pushed
abbrev pub trap_stack : ℕ
trap_stack = kernel_stack - 4

-- a status word with the mode as its previous mode, bits 13 and 12
abbrev pub with_previous : Mode → ℕ → ℕ
with_previous mode word = word / 0o40000 * 0o40000 + mode_bits mode * 0o10000 + word % 0o10000

-- the registers of kernel mode behind a vector: its program counter and its status, which gets the mode of the process as its
-- previous mode
abbrev pub entered_at : (at : ℕ) → Regs → List ℕ → KernelRegs
entered_at at regs words = record { pc = word_at words at; sp = trap_stack; ps = with_previous regs.ps.mode (word_at words (at + 2)) }

-- core once the status of the process, and then its program counter, are on the kernel's stack
abbrev pub pushed : Regs → List ℕ → List ℕ
pushed regs words = with_word (with_word words (kernel_stack - 2) (word_of regs.ps)) trap_stack regs.pc

-- the registers of kernel mode through a vector, if there is one
abbrev pub entered_by : Option ℕ → Regs → List ℕ → Option KernelRegs
entered_by None regs words = None
entered_by (Some at) regs words = Some (entered_at at regs words)

-- core once a trap has gone through a vector, if there is one
abbrev pub trapped_by : Option ℕ → Regs → List ℕ → List ℕ
trapped_by None regs words = words
trapped_by (Some at) regs words = pushed regs words

-- the registers of kernel mode after an instruction that ended so, by the registers of the process at its end and by core
abbrev pub entered : Event → Regs → List ℕ → Option KernelRegs
entered event regs words = entered_by (vector_of event) regs words

-- core after an instruction that ended so, by the registers of the process at its end
abbrev pub trapped : Event → Regs → List ℕ → List ℕ
trapped event regs words = trapped_by (vector_of event) regs words
