-- Instructions of one process, as turns of its subject.
use Rattle.std.proofs.Common.{◌≡◌, ℕ, zero, suc, ◌+◌, ◌-◌, ◌^◌, ◌≤◌, ◌<◌, max, min, Bool, true, false, List, [], ◌++◌, length, Option, Some, None, refl, sym, ap, subst, ◌∙◌, arith}
use Rattle.std.specs.Prelude.{slice_index, if◌then◌else◌}
use Rattle.bk_path.specs.Paths.{Path}
use Rattle.bk_space.specs.AddrSpace.{AddrSpace}
use Rattle.bk_space.specs.Counts.{counted_on}
use Rattle.bk_exec.specs.Exec.{Done, exec}
use Rattle.bk_exec.specs.declared.event.Event.{Event}
use Rattle.bk_exec.specs.declared.event.Event.TheVariants.{Ran, Call, Fault}
use Rattle.bk_process.specs.declared.process.Process.{Process}
use Rattle.bk_process.specs.declared.status.Status9.TheVariants.{Running}
use Rattle.bk_state.specs.State.{State, process_of}
use Rattle.bk_system.specs.declared.at.At.{At}
use Rattle.bk_system.specs.Space.{space_of}
use Rattle.bk_system.specs.Step.{Step, joined, nothing}
use Rattle.bk_system.specs.Turn.{ended, executed, fault_number, faulted, is_reflected, turn_of, with_process}
use Rattle.bk_kernel.specs.Instructions.{Going, after_one, gone, next_of, told_next}
use Rattle.bk_kernel.specs.Stretch.{turn_after, turns_from}
use Rattle.bk_kernel.specs.Tables.{instruction_told, is_running, last_after, last_by, runs}
use Rattle.bk_kernel.proofs.Placed.{applied-placed, applied-processes, ended-placed, idle-turn, process-placed, running-turn, space-placed, with_process-same}

-- ---- counts

pub counted_none : (n : ℕ) → counted_on n 0 ≡ n
unfolding counted_on
counted_none n = refl

-- a count below 2^64 rises up to its last value
pub counted_is : (n k : ℕ) → n ≤ 2 ^ 64 - 1 → counted_on n k ≡ max n (min (n + k) (2 ^ 64 - 1))
unfolding counted_on
counted_is n zero small = omega (arith, small)
counted_is n (suc k) small = omega (arith, small)

-- two rises one after another are one
pub counted_twice : (n a b : ℕ) → counted_on (counted_on n a) b ≡ counted_on n (a + b)
unfolding counted_on
counted_twice n zero zero = refl
counted_twice n zero (suc b) = let e : zero + suc b ≡ suc b = omega arith in ap (counted_on n) (sym e)
counted_twice n (suc a) zero = let e : suc a + 0 ≡ suc a = omega arith in ap (counted_on n) (sym e)
counted_twice n (suc a) (suc b) =
    let e : suc a + suc b ≡ suc (a + suc b) = omega arith in
    let f : min (min (n + suc a) (2 ^ 64 - 1) + suc b) (2 ^ 64 - 1) ≡ min (n + suc (a + suc b)) (2 ^ 64 - 1) = omega arith in
    f ∙ ap (counted_on n) (sym e)

-- ---- what an instruction ends as, beside the references that it made before

module _ (v : State) (at : At) (p : Process) (references : ℕ) where
  fault-from : (number entry : ℕ) (is_taken : Bool) → faulted v at p number references entry is_taken ≡ record (faulted v at p number 0 entry is_taken) { references = references + (faulted v at p number 0 entry is_taken).references }
  fault-from number entry true = refl
  fault-from number entry false = λ i. record (faulted v at p number 0 entry false) { references = plain i }
    where
      plain : references ≡ references + 0
      plain = omega arith

  -- the references are added, and all else is the same
  pub ended-from : (event : Event) → ended v at p references event ≡ record (ended v at p 0 event) { references = references + (ended v at p 0 event).references }
  ended-from Ran = λ i. record (ended v at p 0 Ran) { references = plain i }
    where
      plain : references ≡ references + 0
      plain = omega arith
  ended-from (Call number) = λ i. record (ended v at p 0 (Call number)) { references = plain i }
    where
      plain : references ≡ references + 0
      plain = omega arith
  ended-from (Fault cause) =
      let entry = slice_index p.entries (fault_number cause) in
      fault-from (fault_number cause) entry (is_reflected v at.subject p entry)

-- ---- instructions

-- the state with the registers in the process's place
abbrev pub placed : (s : ℕ) → Process → Going → State
placed s p g = with_process g.state s (record p { registers = g.registers })

module _ (s : ℕ) (windows : List (Option Path)) (g : Going) where
  -- no instruction changes a process
  pub gone-processes : (n : ℕ) → (gone s windows g n).state.processes ≡ g.state.processes
  unfolding gone
  gone-processes zero = refl
  gone-processes (suc n) = applied-processes windows (gone s windows g n).state (next_of s windows (gone s windows g n)).write ∙ gone-processes n

module _ (at : At) (p : Process) (running : p.status ≡ Running) where
  abbrev s : ℕ
  s = at.subject

  abbrev registers_in : Going → Process
  registers_in h = record p { registers = h.registers }

  there : (h : Going) → s < length h.state.processes → process_of (placed s p h) s ≡ Some (registers_in h)
  there h within = process-placed h.state s (registers_in h) within

  next-placed : (h : Going) → exec (space_of (placed s p h) s p.windows) h.registers ≡ next_of s p.windows h
  next-placed h = ap (λ (space : AddrSpace). exec space h.registers) (space-placed h.state s (registers_in h) s p.windows)

  -- a turn is the next instruction, and what it ends as
  pub turn-placed : (h : Going) → s < length h.state.processes →
      turn_of at (placed s p h) ≡ ended (after_one s p.windows h).state at (registers_in (after_one s p.windows h)) (next_of s p.windows h).references (next_of s p.windows h).outcome
  turn-placed h within =
      let x = next_of s p.windows h in
      running-turn (placed s p h) at (registers_in h) (there h within) running
      ∙ ap (executed (placed s p h) at (registers_in h)) (next-placed h)
      ∙ ap (λ (w : State). ended w at (registers_in (after_one s p.windows h)) x.references x.outcome) (applied-placed p.windows h.state s (registers_in h) x.write)
      ∙ ended-placed (after_one s p.windows h).state at (registers_in (after_one s p.windows h)) (registers_in h) x.references x.outcome

  -- the machine tells the instruction
  pub told-placed : (h : Going) → s < length h.state.processes → (last : Option _) → last_after (placed s p h) s last ≡ Some (told_next s p.windows h)
  told-placed h within last =
      ap (last_by (placed s p h) s last) (there h within)
      ∙ ap (λ status. if is_running status then Some (instruction_told (placed s p h) s (registers_in h)) else last) running
      ∙ ap (λ (x : Done). Some (record { before = h.registers; after = x.regs; event = x.outcome })) (next-placed h)

-- ---- turns

module _ (at : At) (v : State) (p : Process) (count : ℕ) (found : process_of v at.subject ≡ Some p) (running : p.status ≡ Running) (within : at.subject < length v.processes) where
  abbrev g : Going
  g = record { state = v; registers = p.registers; references = count }

  abbrev after : (n : ℕ) → Going
  after n = gone at.subject p.windows g n

  pub within-gone : (n : ℕ) → at.subject < length (after n).state.processes
  within-gone n = subst (λ (ps : List Process). at.subject < length ps) (sym (gone-processes at.subject p.windows g n)) within

  -- so many turns, each of which ran
  pub record AreGone (n : ℕ) : Type 0 where
    pub state : (turns_from at v n).state ≡ placed at.subject p (after n)
    pub items : (turns_from at v n).items ≡ []
    pub references : counted_on count (turns_from at v n).references ≡ (after n).references

  pub turns-gone : (n : ℕ) → ((k : ℕ) → k < n → (next_of at.subject p.windows (after k)).outcome ≡ Ran) → AreGone n
  unfolding gone turns_from counted_on
  turns-gone zero ran = record {
    state = sym (with_process-same v at.subject p found);
    items = refl;
    references = refl;
  }
  turns-gone (suc n) ran = let old = turns-gone n (λ k lt. ran k (omega (arith, lt))) in next n old (ran n (omega arith))
    where
      next : (n : ℕ) → AreGone n → (next_of at.subject p.windows (after n)).outcome ≡ Ran → AreGone (suc n)
      next n old last =
          let x = next_of at.subject p.windows (after n) in
          let h = after_one at.subject p.windows (after n) in
          let turn : turn_of (turn_after at n) (turns_from at v n).state ≡ ended h.state (turn_after at n) (record p { registers = h.registers }) x.references Ran =
          ap (turn_of (turn_after at n)) old.state ∙ turn-placed (turn_after at n) p running (after n) (within-gone n)
          ∙ ap (ended h.state (turn_after at n) (record p { registers = h.registers }) x.references) last in
          record {
            state = ap (λ (step : Step). step.state) turn;
            items = (λ i. old.items i ++ (turn i).items);
            references =
                sym (counted_twice count (turns_from at v n).references (turn_of (turn_after at n) (turns_from at v n).state).references)
                ∙ (λ i. counted_on (old.references i) (turn i).references);
          }

-- no turn, and one turn
pub no-turn : (at : At) (v : State) → (turns_from at v 0).state ≡ v
unfolding turns_from
no-turn at v = refl

pub one-turn : (at : At) (v : State) → turns_from at v 1 ≡ turn_of at v
unfolding turns_from
one-turn at v =
    (λ i. joined (nothing v) (turn_of (record { slot = at.slot; turn = first i; subject = at.subject }) v))
    ∙ (λ i. record (turn_of at v) { references = only i })
  where
    first : zero + at.turn ≡ at.turn
    first = omega arith

    only : zero + (turn_of at v).references ≡ (turn_of at v).references
    only = omega arith

-- ---- turns of a process that doesn't run

pub turns-idle : (at : At) (v : State) (n : ℕ) → runs (process_of v at.subject) ≡ false → turns_from at v n ≡ nothing v
unfolding turns_from
turns-idle at v zero idle = refl
turns-idle at v (suc n) idle =
    ap (λ (a : Step). joined a (turn_of (turn_after at n) a.state)) (turns-idle at v n idle)
    ∙ ap (joined (nothing v)) (idle-turn v (turn_after at n) idle)

pub told-idle : (v : State) (s : ℕ) (last : Option _) → runs (process_of v s) ≡ false → last_after v s last ≡ last
told-idle v s last idle = by (process_of v s) idle
  where
    by : (o : Option Process) → runs o ≡ false → last_by v s last o ≡ last
    by None h = refl
    by (Some p) h = ap (λ b. if b then Some (instruction_told v s p) else last) h
