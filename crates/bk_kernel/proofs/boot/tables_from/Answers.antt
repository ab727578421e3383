use Rattle.std.proofs.Common.{◌≡◌, ◌∙◌, length, sym, ap, subst, arith}
use Rattle.std.proofs.lemmas.List.{length-map}
use Rattle.bk_core.specs.Memory.{Memory}
use Rattle.bk_machine.specs.Machine.{MachineState}
use Rattle.bk_machine.specs.Vectors.{HasVectors}
use Rattle.bk_process.specs.declared.process.Process.{Process}
use Rattle.bk_state.specs.Start.{process_from, state_of}
use Rattle.bk_state.specs.State.{State}
use Rattle.bk_kernel.specs.Tables.{state_from}
use Rattle.bk_kernel.proofs.Loading.{has-loaded, item-there, set-loaded, set-nothing}
use Rattle.bk_kernel.proofs.boot.tables_from.Goals as goal

pub index-first-requires : goal.index-first-requires
unfolding state_of
index-first-requires c =
    let size : length c.in_ok-loaded.loaded.processes.items ≡ length c.args.image.now.subjects =
    ap (λ (v : State). length v.processes) c.in_ok-loaded.ensures.state ∙ length-map c.args.image.now.subjects process_from in
    omega (arith, size, c.requires.counts.some_subjects, c.in_ok-loaded.loaded.processes.ok.0)

pub invariant_of-result : goal.invariant_of-result
unfolding state_of
invariant_of-result c =
    let loaded = c.in_ok-loaded.loaded in
    let lent : MachineState = record c.in_ok-machine.machine { core = c.load.new.core } in
    let first : Process = c.index-first.result.now in
    let size : length loaded.processes.items ≡ length c.args.image.now.subjects =
    ap (λ (v : State). length v.processes) c.in_ok-loaded.ensures.state ∙ length-map c.args.image.now.subjects process_from in
    record {
      tables = c.in_ok-loaded.ensures.kept;
      loaded = has-loaded loaded.processes.items loaded.store c.set_pages.new.machine 0 first (item-there loaded.processes.items 0 first (omega (arith, size, c.requires.counts.some_subjects)) c.index-first.ensures)
          (set-loaded lent c.set_process.new.self c.set_pages.new.machine loaded.store 0 first c.set_process.ensures c.set_pages.ensures.rest c.set_pages.ensures.pages c.in_ok-machine.ensures.kernel
          (c.law_vectors.ensures.kept c.core_mut.result.now.words c.load.new.core.words c.load.ensures.kernel
          (subst (λ (m : Memory). HasVectors m.words) (sym c.core_mut.ensures.value) c.in_ok-machine.ensures.vectors)));
    }

pub returns-clause-state : goal.returns-clause-state
returns-clause-state c =
    let loaded = c.in_ok-loaded.loaded in
    let lent : MachineState = record c.in_ok-machine.machine { core = c.load.new.core } in
    ap (λ (m : Memory). state_from loaded.clearances.items loaded.lines.items loaded.turns loaded.schedule.items loaded.processes.items loaded.store m.words)
    (set-nothing lent c.set_process.new.self c.set_pages.new.machine c.index-first.result.now c.set_process.ensures c.set_pages.ensures.rest).1
    ∙ c.in_ok-loaded.ensures.state

pub returns-clause-nothing : goal.returns-clause-nothing
returns-clause-nothing c =
    let lent : MachineState = record c.in_ok-machine.machine { core = c.load.new.core } in
    let nothing = (set-nothing lent c.set_process.new.self c.set_pages.new.machine c.index-first.result.now c.set_process.ensures c.set_pages.ensures.rest).0 in
    record {
      references = nothing.references ∙ c.in_ok-machine.ensures.references;
      runs = nothing.runs ∙ c.in_ok-machine.ensures.runs;
      last = nothing.last ∙ c.in_ok-machine.ensures.last;
    }
