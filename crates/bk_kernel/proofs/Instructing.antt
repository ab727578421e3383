-- The machine comes to where the instructions of its process lead.
use Rattle.std.proofs.Common.{◌≡◌, ◌⊎◌, ℕ, zero, suc, ◌<◌, List, Option, Some, refl, sym, ap, subst, ◌∙◌, arith}
use mathlib.Core.Logic.{inl, inr}
use Rattle.std.specs.Prelude.{slice_set}
use Rattle.bk_path.specs.Paths.{Path}
use Rattle.bk_space.specs.AddrSpace.{applied}
use Rattle.bk_space.specs.Counts.{counted_on}
use Rattle.bk_exec.specs.Exec.{Done, exec}
use Rattle.bk_exec.specs.declared.event.Event.{Event}
use Rattle.bk_exec.specs.declared.event.Event.TheVariants.{Ran}
use Rattle.bk_machine.specs.Machine.{MachineState}
use Rattle.bk_process.specs.declared.process.Process.{Process}
use Rattle.bk_state.specs.State.{State}
use Rattle.bk_state.specs.declared.clearance.Clearance.{Clearance}
use Rattle.bk_store.specs.Stored.{Stored}
use Rattle.bk_store.specs.Stands.{StandsFor}
use Rattle.bk_system.specs.Space.{space_of}
use Rattle.bk_system.specs.Turn.{with_process, written}
use Rattle.bk_kernel.specs.Instructions.{Going, HasGone, HasRun, WentOn, going_from, gone, next_of, told_next}
use Rattle.bk_kernel.specs.Tables.{state_from}
use Rattle.bk_kernel.proofs.Kept.{applied-only, gone-state}

-- no instruction has run yet
pub gone-none : (store : Stored) (machine : MachineState) (v : State) (s : ℕ) (windows : List (Option Path)) → StandsFor store machine.core.words v → HasGone store machine machine v s windows 0
unfolding gone
gone-none store machine v s windows stands = record {
  ran = λ k lt. absurd (omega (arith, lt));
  stands = stands;
  registers = refl;
  references = refl;
}

-- instructions change the objects alone
pub gone-only : (s : ℕ) (windows : List (Option Path)) (g : Going) (n : ℕ) → (gone s windows g n).state ≡ record g.state { objects = (gone s windows g n).state.objects }
unfolding gone
gone-only s windows g zero = refl
gone-only s windows g (suc n) =
    applied-only windows (gone s windows g n).state (next_of s windows (gone s windows g n)).write
    ∙ ap (λ (v : State). record v { objects = (gone s windows g (suc n)).state.objects }) (gone-only s windows g n)

-- one more
module _ (store : Stored) (old machine new : MachineState) (v : State) (s : ℕ) (windows : List (Option Path)) (n : ℕ) (event : Event) (h : HasGone store old machine v s windows n) where
  abbrev g : Going
  g = gone s windows (going_from old v) n

  abbrev x : Done
  x = exec (space_of g.state s windows) machine.process

  same : x ≡ next_of s windows g
  same = ap (exec (space_of g.state s windows)) h.registers

  -- what was told of the instruction holds of the next one
  pub went-on : event ≡ x.outcome → new.process ≡ x.regs → new.references ≡ counted_on machine.references x.references → StandsFor store new.core.words (applied (written windows) g.state x.write) →
      new.last ≡ Some (record { before = machine.process; after = new.process; event = event }) → WentOn store old new v s windows (suc n) event
  unfolding gone
  went-on ends registers references stands last = record {
    before = n;
    turns_are = refl;
    ran = h.ran;
    ends = ends ∙ ap (λ (y : Done). y.outcome) same;
    stands = subst (λ (y : Done). StandsFor store new.core.words (applied (written windows) g.state y.write)) same stands;
    registers = registers ∙ ap (λ (y : Done). y.regs) same;
    references = references ∙ (λ i. counted_on (h.references i) (same i).references);
    last = last ∙ (λ i. Some (record { before = h.registers i; after = (registers ∙ ap (λ (y : Done). y.regs) same) i; event = (ends ∙ ap (λ (y : Done). y.outcome) same) i }));
  }

le-split : (k n : ℕ) → k < suc n → (k < n) ⊎ (k ≡ n)
le-split zero zero lt = inr refl
le-split zero (suc n) lt = inl (omega arith)
le-split (suc k) zero lt = absurd (omega (arith, lt))
le-split (suc k) (suc n) lt = by (le-split k n (omega (arith, lt)))
  where
    by : (k < n) ⊎ (k ≡ n) → (suc k < suc n) ⊎ (suc k ≡ suc n)
    by (inl below) = inl (omega (arith, below))
    by (inr same) = inr (ap suc same)

-- where the last one ran too, all of them have
pub gone-more : (store : Stored) (old new : MachineState) (v : State) (s : ℕ) (windows : List (Option Path)) (turns : ℕ) (event : Event) → event ≡ Ran → WentOn store old new v s windows turns event → HasGone store old new v s windows turns
gone-more store old new v s windows turns event ran on = subst (HasGone store old new v s windows) (sym on.turns_are) (record {
  ran = λ k lt. by k (below k lt);
  stands = on.stands;
  registers = on.registers;
  references = on.references;
})
  where
    below : (k : ℕ) → k < suc on.before → (k < on.before) ⊎ (k ≡ on.before)
    below k lt = le-split k on.before lt

    by : (k : ℕ) → (k < on.before) ⊎ (k ≡ on.before) → (next_of s windows (gone s windows (going_from old v) k)).outcome ≡ Ran
    by k (inl lt) = on.ran k lt
    by k (inr is) = ap (λ n. (next_of s windows (gone s windows (going_from old v) n)).outcome) is ∙ sym on.ends ∙ ran

-- the tables once the process has the registers that the machine came to
pub has-run : (clearances : List Clearance) (lines : List ℕ) (turns : ℕ) (schedule : List ℕ) (processes : List Process) (store : Stored) (machine new : MachineState) (s : ℕ) (p q : Process) (made : ℕ) (event : Event) →
    machine.process ≡ p.registers → q ≡ record p { registers = new.process } →
    WentOn store machine new (state_from clearances lines turns schedule processes store machine.core.words) s p.windows made event →
    HasRun (record { state = state_from clearances lines turns schedule processes store machine.core.words; machine = machine; loaded = s })
    (record { state = state_from clearances lines turns schedule (slice_set processes s q) store new.core.words; machine = new; loaded = s }) p made event
has-run clearances lines turns schedule processes store machine new s p q made event registers becomes on = record {
  before = on.before;
  turns_are = on.turns_are;
  ran = λ k lt. ap (λ (h : Going). (next_of s p.windows (gone s p.windows h k)).outcome) (sym begins) ∙ on.ran k lt;
  ends = on.ends ∙ ap (λ (h : Going). (next_of s p.windows (gone s p.windows h on.before)).outcome) begins;
  state =
      gone-state clearances lines turns schedule processes store machine.core.words new.core.words v (gone s p.windows (going_from machine v) (suc on.before)).state s q
      (record p { registers = (gone s p.windows (going_from machine v) (suc on.before)).registers }) refl (gone-only s p.windows (going_from machine v) (suc on.before))
      (becomes ∙ ap (λ r. record p { registers = r }) on.registers) on.stands
      ∙ ap (λ (h : Going). with_process (gone s p.windows h (suc on.before)).state s (record p { registers = (gone s p.windows h (suc on.before)).registers })) begins;
  references = on.references ∙ ap (λ (h : Going). (gone s p.windows h (suc on.before)).references) begins;
  last = on.last ∙ ap (λ (h : Going). Some (told_next s p.windows (gone s p.windows h on.before))) begins;
}
  where
    v : State
    v = state_from clearances lines turns schedule processes store machine.core.words

    begins : going_from machine v ≡ record { state = v; registers = p.registers; references = machine.references }
    begins = λ i. record { state = v; registers = registers i; references = machine.references }
