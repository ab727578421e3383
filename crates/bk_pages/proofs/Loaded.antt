-- A machine in which a process is loaded, and the states that its core stands for with a store.
use Rattle.std.proofs.Common.{◌≡◌, ℕ, ◌≤◌, Bool, true, false, ◌&&◌, not, ◌==◌, List, length, refl, sym, ap, subst, ◌∙◌}
use Rattle.std.proofs.lemmas.Bool.{and_parts}
use Rattle.bk_space.specs.AddrSpace.{AddrSpace, applied, write_at}
use Rattle.bk_space.specs.declared.address.TheConstants.{PAGES}
use Rattle.bk_space.specs.declared.reference.Mode.TheVariants.{Supervisor}
use Rattle.bk_space.specs.declared.reference.Space.TheVariants.{D}
use Rattle.bk_space.specs.declared.reference.Width.TheVariants.{Word}
use Rattle.bk_exec.specs.Exec.{Done, exec}
use Rattle.bk_exec.proofs.WriteLemmas.{exec_allowed}
use Rattle.bk_process.specs.declared.process.Process.{Process}
use Rattle.bk_state.specs.State.{State}
use Rattle.bk_store.specs.Stored.{Stored}
use Rattle.bk_store.specs.Joined.{AreExtentsApart}
use Rattle.bk_store.specs.Stands.{StandsFor}
use Rattle.bk_system.specs.Space.{space_of}
use Rattle.bk_system.specs.Turn.{completes, is_reflected, is_user, is_writable, less, with_pushes, written}
use Rattle.bk_mmu.specs.ActivePages.{ActivePage}
use Rattle.bk_machine.specs.Paged.{after_write, paged, shown_in}
use Rattle.bk_machine.specs.Machine.{MachineState, bus_of, instruction_of, other_words, written_of}
use Rattle.bk_pages.specs.Pages.{pages_for}
use Rattle.bk_pages.specs.Pushing.{has_room, takes_fault, with_both}
use Rattle.bk_pages.specs.StandsFor.{IsLoaded, kept_in}
use Rattle.bk_pages.proofs.Shown.{shown-space}
use Rattle.bk_pages.proofs.Written.{stands-applied, stands-same}
use Rattle.bk_pages.proofs.Pushed.{stands-pushed}

-- the process that is loaded is the one with the machine's registers
pub kept_in-same : (machine : MachineState) (store : Stored) (subject : ℕ) (process : Process) → IsLoaded machine store subject process → kept_in machine process ≡ process
kept_in-same machine store subject process loaded = ap (λ regs. record process { registers = regs }) loaded.registers

pub kept_in-loaded : (machine : MachineState) (store : Stored) (subject : ℕ) (process : Process) → IsLoaded machine store subject process → IsLoaded machine store subject (kept_in machine process)
kept_in-loaded machine store subject process loaded = subst (IsLoaded machine store subject) (sym (kept_in-same machine store subject process loaded)) loaded

and-regrouped : (a b c : Bool) → (a && (b && c)) ≡ (a && b && c)
and-regrouped true b c = refl
and-regrouped false b c = refl

module _ (machine : MachineState) (store : Stored) (subject : ℕ) (process : Process) (loaded : IsLoaded machine store subject process) (apart : AreExtentsApart store)
    (short : length process.windows ≤ PAGES) (v : State) (stands : StandsFor store machine.core.words v) where
  -- its pages show the space of the subject
  pub space-is : shown_in (bus_of machine) ≡ space_of v subject process.windows
  space-is = ap (λ registers. shown_in (paged registers machine.core.words)) loaded.pages ∙ shown-space store apart machine.core.words subject process.windows v short stands

  -- so its instruction is the one over that space
  pub instruction-is : instruction_of machine ≡ exec (space_of v subject process.windows) machine.process
  instruction-is = ap (λ space. exec space machine.process) space-is

  abbrev Leaves : List ActivePage → Type 0
  Leaves registers =
      let done : Done = exec (shown_in (paged registers machine.core.words)) machine.process in
      StandsFor store (applied after_write (paged registers machine.core.words) done.write).words (applied (written process.windows) v done.write)

  -- store and core stand for the state with the instruction's write
  pub written-stands : (words : List ℕ) → other_words words ≡ other_words (written_of machine).words →
      StandsFor store words (applied (written process.windows) v (exec (space_of v subject process.windows) machine.process).write)
  written-stands words others =
      let shown : AddrSpace = shown_in (paged (pages_for store subject process.windows) machine.core.words) in
      let all = stands-applied store apart machine.core.words subject process.windows short v stands (exec shown machine.process).write (exec_allowed shown machine.process) in
      stands-same store words (written_of machine).words (applied (written process.windows) v (exec (space_of v subject process.windows) machine.process).write) apart others
      (subst (λ (done : Done). StandsFor store (written_of machine).words (applied (written process.windows) v done.write)) instruction-is (subst Leaves (sym loaded.pages) all))

  -- the process takes a fault where the subject would
  pub taken-is : (entry : ℕ) → takes_fault (bus_of machine) process.registers entry ≡ is_reflected v subject process entry
  taken-is entry =
      ap (λ (space : AddrSpace). is_user process.registers.ps.mode && not (entry == 0)
      && (completes (write_at space Supervisor D Word (less process.registers.supervisor 2)) && completes (write_at space Supervisor D Word (less process.registers.supervisor 4)))) space-is
      ∙ and-regrouped (is_user process.registers.ps.mode && not (entry == 0)) (is_writable v subject process.windows (less process.registers.supervisor 2)) (is_writable v subject process.windows (less process.registers.supervisor 4))

  -- and then store and core stand for the state with both words on its stack
  pub pushed-stands : (entry : ℕ) → takes_fault (bus_of machine) process.registers entry ≡ true → StandsFor store (with_both (bus_of machine) process.registers).words (with_pushes v process)
  pushed-stands entry takes =
      let room = (and_parts (is_user process.registers.ps.mode && not (entry == 0)) (has_room (bus_of machine) process.registers) takes).1 in
      subst (λ registers. StandsFor store (with_both (paged registers machine.core.words) process.registers).words (with_pushes v process)) (sym loaded.pages)
      (stands-pushed store apart machine.core.words subject process.windows short v process.registers stands
      (subst (λ registers. has_room (paged registers machine.core.words) process.registers ≡ true) loaded.pages room))
