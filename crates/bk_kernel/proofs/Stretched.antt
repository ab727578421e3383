-- What the instructions of a process and the end of the last of them come to, as turns of its subject.
use Rattle.std.proofs.Common.{◌≡◌, ℕ, suc, ◌+◌, ◌-◌, ◌≤◌, ◌<◌, false, ◌++◌, length, Option, Some, None, sym, ap, ◌∙◌, arith}
use Rattle.std.specs.Prelude.{if◌then◌else◌}
use Rattle.std.proofs.lemmas.Option.{slice_get_within}
use Rattle.bk_space.specs.Counts.{counted_on}
use Rattle.bk_exec.specs.Exec.{Done}
use Rattle.bk_exec.specs.declared.event.Event.{Event}
use Rattle.bk_process.specs.declared.process.Process.{Process}
use Rattle.bk_process.specs.declared.status.Status9.TheVariants.{Running}
use Rattle.bk_report.specs.declared.item.ReportItem.{ReportItem}
use Rattle.bk_state.specs.State.{State, process_of}
use Rattle.bk_system.specs.declared.at.At.{At}
use Rattle.bk_system.specs.Step.{Step, joined, nothing}
use Rattle.bk_system.specs.Turn.{ended, turn_of}
use Rattle.bk_kernel.specs.Instructions.{Going, HasRun, gone, next_of}
use Rattle.bk_kernel.specs.Items.{items_of}
use Rattle.bk_kernel.specs.Stretch.{IsStretch, turn_after, turns_from}
use Rattle.bk_kernel.specs.Tables.{TablesState, is_running, last_after, runs}
use Rattle.bk_kernel.proofs.Going.{AreGone, counted_none, counted_twice, ended-from, told-idle, told-placed, turn-placed, turns-gone, turns-idle, within-gone}
use Rattle.bk_kernel.proofs.Placed.{ended-placed, process-placed}

-- turns of a process that doesn't run
pub stretch-idle : (t : TablesState) (at : At) (most : ℕ) → 1 ≤ most → runs (process_of t.state at.subject) ≡ false → IsStretch t t at most most (None, None)
stretch-idle t at most some idle =
    let all : turns_from at t.state most ≡ nothing t.state = turns-idle at t.state most idle in
    let quiet : turns_from at t.state (most - 1) ≡ nothing t.state = turns-idle at t.state (most - 1) idle in
    record {
      before = most - 1;
      turns_are = omega (arith, some);
      few = omega arith;
      quiet = ap (λ (step : Step). step.items) quiet;
      items = sym (ap (λ (step : Step). step.items) all);
      state = sym (ap (λ (step : Step). step.state) all);
      references = sym (counted_none t.machine.references) ∙ ap (λ (step : Step). counted_on t.machine.references step.references) (sym all);
      runs = ap (λ b. if b then counted_on t.machine.runs most else t.machine.runs) (sym idle);
      last = sym (ap (λ (step : Step). last_after step.state at.subject t.machine.last) quiet ∙ told-idle t.state at.subject t.machine.last idle);
    }

module _ (old middle new : TablesState) (at last : At) (p : Process) (most turns : ℕ) (event : Event) (pair : Option ReportItem × Option ReportItem)
    (found : process_of old.state at.subject ≡ Some p) (running : p.status ≡ Running) (few : turns ≤ most)
    (ran : HasRun (record old { loaded = at.subject }) middle p turns event) (middle_runs : middle.machine.runs ≡ counted_on old.machine.runs turns)
    (is_last : last ≡ turn_after at (turns - 1))
    (state : (q : Process) → process_of middle.state last.subject ≡ Some q → new.state ≡ (ended middle.state last q 0 event).state)
    (items : (q : Process) → process_of middle.state last.subject ≡ Some q → items_of pair ≡ (ended middle.state last q 0 event).items)
    (references : (q : Process) → process_of middle.state last.subject ≡ Some q → new.machine.references ≡ counted_on middle.machine.references (ended middle.state last q 0 event).references)
    (new_runs : new.machine.runs ≡ middle.machine.runs) (new_last : new.machine.last ≡ middle.machine.last) where
  abbrev s : ℕ
  s = at.subject

  abbrev b : ℕ
  b = ran.before

  abbrev r : ℕ
  r = old.machine.references

  within : s < length old.state.processes
  within = slice_get_within old.state.processes s p found

  abbrev came_to : (n : ℕ) → Going
  came_to n = gone s p.windows (record { state = old.state; registers = p.registers; references = r }) n

  abbrev x : Done
  x = next_of s p.windows (came_to b)

  abbrev q : Process
  q = record p { registers = (came_to (suc b)).registers }

  are : AreGone at old.state p r found running within b
  are = turns-gone at old.state p r found running within b ran.ran

  last-is : last ≡ turn_after at b
  last-is = is_last ∙ ap (turn_after at) (omega (arith, ran.turns_are))

  there : process_of middle.state last.subject ≡ Some q
  there = ap (λ (l : At). process_of middle.state l.subject) last-is ∙ ap (λ (v : State). process_of v s) ran.state ∙ process-placed (came_to (suc b)).state s q (within-gone at old.state p r found running within (suc b))

  -- the end of the last instruction, over the state without what stands in the place of the process
  ends : ended middle.state last q 0 event ≡ ended (came_to (suc b)).state (turn_after at b) q 0 x.outcome
  ends = (λ i. ended (ran.state i) (last-is i) q 0 (ran.ends i)) ∙ ended-placed (came_to (suc b)).state (turn_after at b) q q 0 x.outcome

  -- the last turn is that
  turn : turn_of (turn_after at b) (turns_from at old.state b).state
      ≡ record (ended middle.state last q 0 event) { references = x.references + (ended middle.state last q 0 event).references }
  unfolding gone
  turn =
      ap (turn_of (turn_after at b)) are.state ∙ turn-placed (turn_after at b) p running (came_to b) (within-gone at old.state p r found running within b)
      ∙ ended-from (came_to (suc b)).state (turn_after at b) q x.references x.outcome
      ∙ ap (λ (step : Step). record step { references = x.references + step.references }) (sym ends)

  abbrev e : Step
  e = ended middle.state last q 0 event

  all : turns_from at old.state turns ≡ record { state = e.state; items = e.items; references = (turns_from at old.state b).references + (x.references + e.references) }
  unfolding turns_from
  all =
      ap (turns_from at old.state) ran.turns_are
      ∙ ap (joined (turns_from at old.state b)) turn
      ∙ (λ i. record { state = e.state; items = are.items i ++ e.items; references = (turns_from at old.state b).references + (x.references + e.references) })

  counts : middle.machine.references ≡ counted_on (counted_on r (turns_from at old.state b).references) x.references
  unfolding gone
  counts = ran.references ∙ ap (λ n. counted_on n x.references) (sym are.references)

  pub stretch-gone : IsStretch old new at most turns pair
  stretch-gone = record {
    before = b;
    turns_are = ran.turns_are;
    few = few;
    quiet = are.items;
    items = items q there ∙ ap (λ (step : Step). step.items) (sym all);
    state = state q there ∙ ap (λ (step : Step). step.state) (sym all);
    references =
        references q there
        ∙ ap (λ n. counted_on n e.references) counts
        ∙ counted_twice (counted_on r (turns_from at old.state b).references) x.references e.references
        ∙ counted_twice r (turns_from at old.state b).references (x.references + e.references)
        ∙ ap (λ (step : Step). counted_on r step.references) (sym all);
    runs = new_runs ∙ middle_runs ∙ ap (λ v. if v then counted_on old.machine.runs turns else old.machine.runs) (sym (ap runs found ∙ ap is_running running));
    last =
        new_last ∙ ran.last
        ∙ sym (told-placed at p running (came_to b) (within-gone at old.state p r found running within b) old.machine.last)
        ∙ ap (λ (v : State). last_after v s old.machine.last) (sym are.state);
  }
