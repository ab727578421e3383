use Rattle.std.proofs.Common.{◌≡◌, ◌∙◌, Some, refl, sym, subst}
use Rattle.std.specs.Prelude.{slice_set}
use Rattle.bk_process.specs.declared.process.Process.{Process}
use Rattle.bk_state.specs.State.{State, process_of}
use Rattle.bk_store.specs.Stands.{StandsFor}
use Rattle.bk_pages.specs.StandsFor.{IsLoaded}
use Rattle.bk_pages.proofs.Loaded.{kept_in-loaded}
use Rattle.bk_kernel.specs.Instructions.{HasRun, WentOn}
use Rattle.bk_kernel.specs.Tables.{TablesState, state_from}
use Rattle.bk_kernel.proofs.Instructing.{has-run}
use Rattle.bk_kernel.proofs.Kept.{found-process, kept-stands}
use Rattle.bk_kernel.proofs.Loading.{has-set, item-there, kept-set}
use Rattle.bk_kernel.proofs.tables.Tables.run.Goals as goal

pub run_on-ran-requires-clause-loaded : goal.run_on-ran-requires-clause-loaded
run_on-ran-requires-clause-loaded c =
    let t = c.self.inside in
    let q = c.index_mut-process.result.now in
    kept_in-loaded t.machine t.store t.loaded q (c.self.invariant.loaded.is q (item-there t.processes.items t.loaded q c.self.invariant.loaded.there c.index_mut-process.ensures.value))

pub invariant_of-self : goal.invariant_of-self
invariant_of-self c =
    let t = c.self.inside in
    let now : Process = c.save.new.process in
    record {
      tables = kept-set t.processes.items t.loaded now c.self.invariant.tables;
      loaded = has-set t.processes.items t.store c.run_on-ran.new.machine t.loaded now c.self.invariant.loaded.there
          (subst (IsLoaded c.run_on-ran.new.machine t.store t.loaded) (sym c.save.ensures) c.run_on-ran.ensures.loaded);
    }

pub returns-clause-ran : goal.returns-clause-ran
returns-clause-ran c =
    let t = c.self.inside in
    let q : Process = c.index_mut-process.result.now in
    let now : Process = c.save.new.process in
    let v : State = state_from t.clearances.items t.lines.items t.turns t.schedule.items t.processes.items t.store t.machine.core.words in
    let stands : StandsFor t.store t.machine.core.words v = kept-stands t.clearances.items t.lines.items t.turns t.schedule.items t.processes.items t.store t.machine.core.words c.self.invariant.tables.lines_are in
    let new : TablesState = record { state = state_from t.clearances.items t.lines.items t.turns t.schedule.items (slice_set t.processes.items t.loaded now) t.store c.run_on-ran.new.machine.core.words; machine = c.run_on-ran.new.machine; loaded = t.loaded } in
    subst (λ (old : TablesState). (p : Process) → process_of old.state old.loaded ≡ Some p → HasRun old new p c.run_on-ran.result.turns c.run_on-ran.result.event) c.self.view_is
    (λ p there.
    let found : q ≡ p = found-process t.processes.items v t.loaded p q refl there c.index_mut-process.ensures.value in
    has-run t.clearances.items t.lines.items t.turns t.schedule.items t.processes.items t.store t.machine c.run_on-ran.new.machine t.loaded p now c.run_on-ran.result.turns c.run_on-ran.result.event
    (c.self.invariant.loaded.is p there).registers
    (c.save.ensures ∙ (λ i. record (found i) { registers = c.run_on-ran.new.machine.process }))
    (subst (λ (x : Process). WentOn t.store t.machine c.run_on-ran.new.machine v t.loaded x.windows c.run_on-ran.result.turns c.run_on-ran.result.event) found (c.run_on-ran.ensures.went v stands)))
