-- A fault that a process takes at its entry, by what a machine holds: its status and its program counter go to its stack.
use Rattle.std.specs.Prelude.{ℕ, Bool, not, ◌&&◌, ◌==◌}
use Rattle.bk_space.specs.AddrSpace.{Write, write_at}
use Rattle.bk_space.specs.Status.{word_of}
use Rattle.bk_space.specs.declared.reference.Mode.TheVariants.{Supervisor}
use Rattle.bk_space.specs.declared.reference.Space.TheVariants.{D}
use Rattle.bk_space.specs.declared.reference.Width.TheVariants.{Word}
use Rattle.bk_space.specs.declared.registers.Regs.{Regs}
use Rattle.bk_machine.specs.Paged.{Paged, after_write, shown_in}
use Rattle.bk_system.specs.Turn.{completes, is_user, less}

-- the write of a word in supervisor D space
abbrev pub push_at : (addr value : ℕ) → Write
push_at addr value = record { mode = Supervisor; space = D; width = Word; addr = addr; value = value }

-- it would complete
abbrev pub can_push : Paged → (addr : ℕ) → Bool
can_push bus addr = completes (write_at (shown_in bus) Supervisor D Word addr)

-- the two words below the supervisor stack pointer can be written
abbrev pub has_room : Paged → Regs → Bool
has_room bus regs = can_push bus (less regs.supervisor 2) && can_push bus (less regs.supervisor 4)

-- in user mode, with an entry that isn't 0, and with room
abbrev pub takes_fault : Paged → Regs → (entry : ℕ) → Bool
takes_fault bus regs entry = is_user regs.ps.mode && not (entry == 0) && has_room bus regs

-- the status is written, and then the program counter
abbrev pub with_both : Paged → Regs → Paged
with_both bus regs = after_write (after_write bus (push_at (less regs.supervisor 2) (word_of regs.ps))) (push_at (less regs.supervisor 4) regs.pc)
