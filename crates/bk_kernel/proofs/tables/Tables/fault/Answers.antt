use Rattle.std.proofs.Common.{◌≡◌, ◌∙◌, ℕ, Some, refl, ap, subst}
use Rattle.std.specs.Prelude.{slice_index, slice_set, if◌then◌else◌}
use Rattle.bk_process.specs.declared.process.Process.{Process}
use Rattle.bk_process.specs.declared.status.Status9.TheVariants.{Stopped}
use Rattle.bk_state.specs.State.{State, process_of}
use Rattle.bk_store.specs.Stands.{StandsFor}
use Rattle.bk_system.specs.Turn.{entered, fault_number, is_reflected, with_pushes}
use Rattle.bk_kernel.specs.Tables.{TablesState, interrupted, state_from}
use Rattle.bk_kernel.proofs.Kept.{found-process, interrupted-state, kept-stands}
use Rattle.bk_kernel.proofs.Loading.{found-loaded, has-set, item-there, kept-set}
use Rattle.bk_kernel.proofs.tables.Tables.fault.Goals as goal

pub fault-requires-clause-loaded : goal.fault-requires-clause-loaded
fault-requires-clause-loaded c =
    let t = c.self.inside in
    let q = c.index_mut-process.result.now in
    c.self.invariant.loaded.is q (item-there t.processes.items t.loaded q c.self.invariant.loaded.there c.index_mut-process.ensures.value)

pub invariant_of-self : goal.invariant_of-self
invariant_of-self c =
    let t = c.self.inside in
    record {
      tables = kept-set t.processes.items t.loaded c.fault.new.process c.self.invariant.tables;
      loaded = has-set t.processes.items t.store c.fault.new.machine t.loaded c.fault.new.process c.self.invariant.loaded.there c.fault.ensures.loaded;
    }

pub returns-clause-pc : goal.returns-clause-pc
returns-clause-pc c = λ p there.
    let t = c.self.inside in
    c.fault.ensures.pc
    ∙ ap (λ (x : Process). x.registers.pc)
    (found-loaded t.processes.items c.args.self.now.state t.loaded c.args.self.now.loaded p c.index_mut-process.result.now (ap (λ (x : TablesState). x.state.processes) c.self.view_is) (ap (λ (x : TablesState). x.loaded) c.self.view_is) there c.index_mut-process.ensures.value)

pub returns-clause-taken : goal.returns-clause-taken
returns-clause-taken c =
    let t = c.self.inside in
    let n : ℕ = fault_number c.args.cause in
    let v : State = state_from t.clearances.items t.lines.items t.turns t.schedule.items t.processes.items t.store t.machine.core.words in
    let stands : StandsFor t.store t.machine.core.words v = kept-stands t.clearances.items t.lines.items t.turns t.schedule.items t.processes.items t.store t.machine.core.words c.self.invariant.tables.lines_are in
    subst (λ (old : TablesState). (p : Process) → process_of old.state old.loaded ≡ Some p → c.fault.result.taken ≡ is_reflected old.state old.loaded p (slice_index p.entries n)) c.self.view_is
    (λ p there.
    c.fault.ensures.taken v stands
    ∙ ap (λ (x : Process). is_reflected v t.loaded x (slice_index x.entries n)) (found-process t.processes.items v t.loaded p c.index_mut-process.result.now refl there c.index_mut-process.ensures.value))

pub returns-clause-state : goal.returns-clause-state
returns-clause-state c =
    let t = c.self.inside in
    let n : ℕ = fault_number c.args.cause in
    let v : State = state_from t.clearances.items t.lines.items t.turns t.schedule.items t.processes.items t.store t.machine.core.words in
    let stands : StandsFor t.store t.machine.core.words v = kept-stands t.clearances.items t.lines.items t.turns t.schedule.items t.processes.items t.store t.machine.core.words c.self.invariant.tables.lines_are in
    let made : (p : Process) → process_of v t.loaded ≡ Some p → state_from t.clearances.items t.lines.items t.turns t.schedule.items (slice_set t.processes.items t.loaded c.fault.new.process) t.store c.fault.new.machine.core.words ≡ interrupted v t.loaded p n (slice_index p.entries n) c.fault.result.taken = λ p there.
    let found : c.index_mut-process.result.now ≡ p = found-process t.processes.items v t.loaded p c.index_mut-process.result.now refl there c.index_mut-process.ensures.value in
    interrupted-state t.clearances.items t.lines.items t.turns t.schedule.items t.processes.items t.store t.machine.core.words c.fault.new.machine.core.words v t.loaded p c.fault.new.process n (slice_index p.entries n) c.fault.result.taken refl
    (c.fault.ensures.process ∙ ap (λ (x : Process). if c.fault.result.taken then entered x (slice_index x.entries n) else record x { status = Stopped n }) found)
    (subst (λ (x : Process). StandsFor t.store c.fault.new.machine.core.words (if c.fault.result.taken then with_pushes v x else v)) found (c.fault.ensures.state v stands)) in
    subst (λ (old : TablesState). (p : Process) → process_of old.state old.loaded ≡ Some p →
    state_from t.clearances.items t.lines.items t.turns t.schedule.items (slice_set t.processes.items t.loaded c.fault.new.process) t.store c.fault.new.machine.core.words
    ≡ interrupted old.state old.loaded p n (slice_index p.entries n) c.fault.result.taken) c.self.view_is made
