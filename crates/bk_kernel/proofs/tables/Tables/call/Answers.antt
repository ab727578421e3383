use Rattle.std.proofs.Common.{◌≡◌, ◌<◌, ◌∙◌, ℕ, Some, length, refl, sym, ap, subst, arith}
use Rattle.std.specs.Prelude.{option_map, slice_set}
use Rattle.bk_calls.specs.Made.{answer_of, line_byte, seen_by}
use Rattle.bk_calls.specs.declared.caller.Caller.{Caller}
use Rattle.bk_core.specs.Memory.{Memory}
use Rattle.bk_load.specs.Kept.{IsKept}
use Rattle.bk_machine.specs.Machine.{MachineState, kernel_words}
use Rattle.bk_pages.specs.Pages.{pages_for}
use Rattle.bk_process.specs.declared.process.Process.{Process}
use Rattle.bk_state.specs.Answers.{Called, called}
use Rattle.bk_state.specs.State.{State, process_of}
use Rattle.bk_state.proofs.Raised.{raised-listed}
use Rattle.bk_kernel.specs.Tables.{TablesState, risen, served, state_from}
use Rattle.bk_kernel.proofs.Kept.{call-alike, found-process, known-risen, served-state}
use Rattle.bk_kernel.proofs.Loading.{has-set, item-there, kept-levels, kept-set, loaded-there, pages-alike, set-loaded, set-nothing}
use Rattle.bk_kernel.proofs.tables.Tables.call.Goals as goal

pub set_changed-requires-clause-kept : goal.set_changed-requires-clause-kept
set_changed-requires-clause-kept c = λ unchanged.
    let t = c.self.inside in
    let q : Process = c.index_mut-process.result.now in
    let lent : MachineState = record t.machine { core = c.call-reply.new.core } in
    let kept = c.call-reply.ensures.pages (sym c.changes_pages-changed.ensures ∙ unchanged) in
    let loaded = c.self.invariant.loaded.is q (item-there t.processes.items t.loaded q c.self.invariant.loaded.there c.index_mut-process.ensures.value) in
    ap (λ (m : MachineState). m.pages.registers) c.set_process.ensures ∙ loaded.pages
    ∙ pages-alike t.store c.call-reply.new.store t.loaded q.windows kept.extents kept.access
    ∙ ap (pages_for c.call-reply.new.store t.loaded) (sym kept.windows)

pub invariant_of-self : goal.invariant_of-self
invariant_of-self c =
    let t = c.self.inside in
    let q = c.call-reply.new.process in
    let lent : MachineState = record t.machine { core = c.call-reply.new.core } in
    let (p, there, old) = loaded-there t.processes.items t.store t.machine t.loaded c.self.invariant.loaded in
    let below : t.loaded < length t.clearances.items = omega (arith, c.self.invariant.loaded.there, c.self.invariant.tables.processes_are) in
    let caller : Caller = record { subject = t.loaded; f_s = c.index-levels.result.now.greatest; f_c = c.index-levels.result.now.current; subjects = c.len.result } in
    let listed : (n : ℕ) → c.call-reply.result.level ≡ Some n → n < length t.store.levels = λ n is.
    raised-listed (seen_by caller t.store c.core_mut-core.result.now.words) t.loaded c.index_mut-process.result.now n c.args.number (sym c.call-reply.ensures.made.level ∙ is) in
    record {
      tables = kept-set t.processes.items t.loaded q
          (subst (λ cs. IsKept cs (length t.lines.items) (length t.processes.items) (length c.call-reply.new.store.levels) c.call-reply.new.store.lines) (sym (c.set_levels.ensures ∙ ap (slice_set t.clearances.items t.loaded) c.risen.ensures))
          (subst (λ n. IsKept (slice_set t.clearances.items t.loaded (risen c.call-reply.result.level c.index-levels.result.now)) (length t.lines.items) (length t.processes.items) n c.call-reply.new.store.lines) (sym (ap length c.call-reply.ensures.made.levels))
          (subst (λ n. IsKept (slice_set t.clearances.items t.loaded (risen c.call-reply.result.level c.index-levels.result.now)) (length t.lines.items) (length t.processes.items) (length t.store.levels) n) (sym c.call-reply.ensures.made.lines)
          (kept-levels t.clearances.items t.loaded (risen c.call-reply.result.level c.index-levels.result.now) c.self.invariant.tables
          (known-risen t.clearances.items t.loaded c.index-levels.result.now below c.index-levels.ensures (length t.store.levels) c.call-reply.result.level c.self.invariant.tables.known listed)))));
      loaded = has-set t.processes.items c.call-reply.new.store c.set_changed.new.machine t.loaded q c.self.invariant.loaded.there
          (set-loaded lent c.set_process.new.self c.set_changed.new.machine c.call-reply.new.store t.loaded q c.set_process.ensures c.set_changed.ensures.rest c.set_changed.ensures.pages old.outside
          (c.law_vectors.ensures.kept t.machine.core.words c.call-reply.new.core.words (c.call-reply.ensures.made.kernel ∙ ap (λ (m : Memory). kernel_words m.words) c.core_mut-core.ensures.value) old.vectors));
    }

pub returns-clause-state : goal.returns-clause-state
returns-clause-state c =
    let t = c.self.inside in
    let s : ℕ = t.loaded in
    let q : Process = c.index_mut-process.result.now in
    let v : State = state_from t.clearances.items t.lines.items t.turns t.schedule.items t.processes.items t.store t.machine.core.words in
    let lent : MachineState = record t.machine { core = c.call-reply.new.core } in
    let caller : Caller = record { subject = s; f_s = c.index-levels.result.now.greatest; f_c = c.index-levels.result.now.current; subjects = c.len.result } in
    let below : s < length t.clearances.items = omega (arith, c.self.invariant.loaded.there, c.self.invariant.tables.processes_are) in
    let core : c.set_changed.new.machine.core ≡ c.call-reply.new.core = (set-nothing lent c.set_process.new.self c.set_changed.new.machine c.call-reply.new.process c.set_process.ensures c.set_changed.ensures.rest).1 in
    let made : (p : Process) → process_of v s ≡ Some p →
    state_from c.set_levels.new.clearances.items t.lines.items t.turns t.schedule.items (slice_set t.processes.items s c.call-reply.new.process) c.call-reply.new.store c.set_changed.new.machine.core.words ≡ served v s (called v s p c.args.number) = λ p there.
    let alike : called (seen_by caller t.store c.core_mut-core.result.now.words) s q c.args.number ≡ called v s p c.args.number =
    ap (λ (m : Memory). called (seen_by caller t.store m.words) s q c.args.number) c.core_mut-core.ensures.value
    ∙ call-alike t.clearances.items t.lines.items t.turns t.schedule.items t.processes.items t.store t.machine.core.words v caller q c.args.number c.index-levels.result.now
    refl below (omega (arith, c.len.ensures, t.clearances.ok.0)) c.index-levels.ensures refl refl
    ∙ ap (λ (x : Process). called v s x c.args.number) (found-process t.processes.items v s p q refl there c.index_mut-process.ensures.value) in
    (λ i. state_from ((c.set_levels.ensures ∙ ap (slice_set t.clearances.items s) c.risen.ensures) i) t.lines.items t.turns t.schedule.items (slice_set t.processes.items s c.call-reply.new.process) c.call-reply.new.store (core i).words)
    ∙ served-state t.clearances.items t.lines.items t.turns t.schedule.items t.processes.items t.store c.call-reply.new.store t.machine.core.words c.call-reply.new.core.words v s c.call-reply.new.process
    c.index-levels.result.now c.call-reply.result.level (called v s p c.args.number)
    below c.index-levels.ensures (c.call-reply.ensures.made.level ∙ ap (λ (x : Called). x.raised) alike)
    refl c.call-reply.ensures.made.levels (c.call-reply.ensures.made.objects ∙ ap (λ (x : Called). x.objects) alike) (c.call-reply.ensures.made.access ∙ ap (λ (x : Called). x.access) alike)
    (c.call-reply.ensures.made.process ∙ ap (λ (x : Called). x.process) alike) in
    subst (λ (old : TablesState). (p : Process) → process_of old.state old.loaded ≡ Some p →
    state_from c.set_levels.new.clearances.items t.lines.items t.turns t.schedule.items (slice_set t.processes.items s c.call-reply.new.process) c.call-reply.new.store c.set_changed.new.machine.core.words
    ≡ served old.state old.loaded (called old.state old.loaded p c.args.number)) c.self.view_is made

pub returns-clause-answer : goal.returns-clause-answer
returns-clause-answer c =
    let t = c.self.inside in
    let s : ℕ = t.loaded in
    let q : Process = c.index_mut-process.result.now in
    let v : State = state_from t.clearances.items t.lines.items t.turns t.schedule.items t.processes.items t.store t.machine.core.words in
    let caller : Caller = record { subject = s; f_s = c.index-levels.result.now.greatest; f_c = c.index-levels.result.now.current; subjects = c.len.result } in
    let below : s < length t.clearances.items = omega (arith, c.self.invariant.loaded.there, c.self.invariant.tables.processes_are) in
    subst (λ (old : TablesState). (p : Process) → process_of old.state old.loaded ≡ Some p → c.call-reply.result.answer ≡ answer_of (called old.state old.loaded p c.args.number).cause) c.self.view_is
    (λ p there.
    c.call-reply.ensures.made.answer
    ∙ ap (λ (x : Called). answer_of x.cause)
    (ap (λ (m : Memory). called (seen_by caller t.store m.words) s q c.args.number) c.core_mut-core.ensures.value
    ∙ call-alike t.clearances.items t.lines.items t.turns t.schedule.items t.processes.items t.store t.machine.core.words v caller q c.args.number c.index-levels.result.now
    refl below (omega (arith, c.len.ensures, t.clearances.ok.0)) c.index-levels.ensures refl refl
    ∙ ap (λ (x : Process). called v s x c.args.number) (found-process t.processes.items v s p q refl there c.index_mut-process.ensures.value)))

pub returns-clause-sent : goal.returns-clause-sent
returns-clause-sent c =
    let t = c.self.inside in
    let s : ℕ = t.loaded in
    let q : Process = c.index_mut-process.result.now in
    let v : State = state_from t.clearances.items t.lines.items t.turns t.schedule.items t.processes.items t.store t.machine.core.words in
    let caller : Caller = record { subject = s; f_s = c.index-levels.result.now.greatest; f_c = c.index-levels.result.now.current; subjects = c.len.result } in
    let below : s < length t.clearances.items = omega (arith, c.self.invariant.loaded.there, c.self.invariant.tables.processes_are) in
    subst (λ (old : TablesState). (p : Process) → process_of old.state old.loaded ≡ Some p → c.call-reply.result.sent ≡ option_map line_byte (called old.state old.loaded p c.args.number).sent) c.self.view_is
    (λ p there.
    c.call-reply.ensures.made.sent
    ∙ ap (λ (x : Called). option_map line_byte x.sent)
    (ap (λ (m : Memory). called (seen_by caller t.store m.words) s q c.args.number) c.core_mut-core.ensures.value
    ∙ call-alike t.clearances.items t.lines.items t.turns t.schedule.items t.processes.items t.store t.machine.core.words v caller q c.args.number c.index-levels.result.now
    refl below (omega (arith, c.len.ensures, t.clearances.ok.0)) c.index-levels.ensures refl refl
    ∙ ap (λ (x : Process). called v s x c.args.number) (found-process t.processes.items v s p q refl there c.index_mut-process.ensures.value)))
