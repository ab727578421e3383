use Rattle.std.proofs.Common.{◌≡◌, ◌≤◌, ◌∙◌, Some, length, refl, ap, subst, arith}
use Rattle.bk_machine.specs.Machine.{bus_of}
use Rattle.bk_machine.specs.Paged.{paged, shown_in}
use Rattle.bk_process.specs.declared.process.Process.{Process}
use Rattle.bk_state.specs.State.{State, process_of}
use Rattle.bk_store.specs.Stands.{StandsFor as StoreStandsFor}
use Rattle.bk_system.specs.Space.{space_of}
use Rattle.bk_kernel.specs.StandsFor.{StandsFor}
use Rattle.bk_kernel.specs.Tables.{TablesState, state_from}
use Rattle.bk_kernel.proofs.Kept.{found-process, kept-stands}
use Rattle.bk_kernel.proofs.Standing.{stands-for}
use Rattle.bk_kernel.proofs.tables.Tables.law_stands_for.Goals as goal

pub returns : goal.returns
returns c =
    let t = c.self.inside in
    let v : State = state_from t.clearances.items t.lines.items t.turns t.schedule.items t.processes.items t.store t.machine.core.words in
    let stands : StoreStandsFor t.store t.machine.core.words v = kept-stands t.clearances.items t.lines.items t.turns t.schedule.items t.processes.items t.store t.machine.core.words c.self.invariant.tables.lines_are in
    record {
      stands = (t.store, subst (λ (x : TablesState). StandsFor t.store x.machine x.loaded x.state) c.self.view_is (stands-for t.store t.machine t.loaded v stands c.law_contents.ensures.extents c.self.invariant.loaded));
      space = subst (λ (x : TablesState). (p : Process) → process_of x.state x.loaded ≡ Some p → shown_in (bus_of x.machine) ≡ space_of x.state x.loaded p.windows) c.self.view_is
          (λ p there.
          let found = found-process t.processes.items v t.loaded p c.index.result.now refl there c.index.ensures in
          let short : length p.windows ≤ 32 = omega (arith, c.law_windows.ensures, ap (λ (x : Process). length x.windows) found) in
          ap (λ registers. shown_in (paged registers t.machine.core.words)) (c.self.invariant.loaded.is p there).pages
          ∙ c.law_space.ensures t.machine.core.words v t.loaded p.windows short stands);
    }
