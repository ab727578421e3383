use Rattle.std.proofs.Common.{arith, ap, sym, subst, ◌∙◌, slice_index, if◌then◌else◌}
use Rattle.bk_process.specs.declared.process.Process.{Process}
use Rattle.bk_machine.specs.Machine.{bus_of}
use Rattle.bk_machine.specs.Paged.{Paged}
use Rattle.bk_machine.proofs.VectorLemmas.{vectors-kept}
use Rattle.bk_store.specs.Stands.{StandsFor}
use Rattle.bk_system.specs.Turn.{is_reflected, with_pushes}
use Rattle.bk_pages.specs.Pages.{pages_for}
use Rattle.bk_pages.specs.Pushing.{with_both}
use Rattle.bk_pages.proofs.Loaded.{pushed-stands, taken-is}
use Rattle.bk_pages.proofs.faulting.fault.Goals as goal

pub returns-then-reflect-clause-taken : goal.returns-then-reflect-clause-taken
returns-then-reflect-clause-taken c = λ v stands.
    sym c.if-reflect.true ∙ c.reflect.ensures.taken
    ∙ taken-is c.args.machine.now c.args.store.now c.args.subject c.args.process.now c.requires.loaded c.law_contents.ensures.extents (omega (arith, c.law_windows.ensures)) v stands c.fault_entry-entry.result
    ∙ ap (is_reflected v c.args.subject c.args.process.now) (c.fault_entry-entry.ensures ∙ ap (slice_index c.args.process.now.entries) c.number_of-number.ensures.value)

pub returns-then-reflect-clause-state : goal.returns-then-reflect-clause-state
returns-then-reflect-clause-state c = λ v stands.
    let written = c.reflect.ensures.written ∙ ap (λ b. if b then with_both (bus_of c.args.machine.now) c.args.process.now.registers else bus_of c.args.machine.now) c.if-reflect.true in
    subst (λ (bus : Paged). StandsFor c.args.store.now bus.words (with_pushes v c.args.process.now)) (sym written)
    (pushed-stands c.args.machine.now c.args.store.now c.args.subject c.args.process.now c.requires.loaded c.law_contents.ensures.extents (omega (arith, c.law_windows.ensures)) v stands
    c.fault_entry-entry.result (sym c.reflect.ensures.taken ∙ c.if-reflect.true))

pub returns-then-reflect-clause-loaded : goal.returns-then-reflect-clause-loaded
returns-then-reflect-clause-loaded c = record {
  registers = c.reflect.ensures.registers;
  outside = c.reflect.ensures.kernel ∙ c.requires.loaded.outside;
  vectors = vectors-kept c.args.machine.now.core.words c.reflect.new.machine.core.words c.reflect.ensures.words c.requires.loaded.vectors;
  pages = c.reflect.ensures.pages ∙ c.requires.loaded.pages ∙ ap (pages_for c.args.store.now c.args.subject) (sym c.reflect.ensures.windows);
}

pub returns-else-reflect-clause-taken : goal.returns-else-reflect-clause-taken
returns-else-reflect-clause-taken c = λ v stands.
    sym c.if-reflect.false ∙ c.reflect.ensures.taken
    ∙ taken-is c.args.machine.now c.args.store.now c.args.subject c.args.process.now c.requires.loaded c.law_contents.ensures.extents (omega (arith, c.law_windows.ensures)) v stands c.fault_entry-entry.result
    ∙ ap (is_reflected v c.args.subject c.args.process.now) (c.fault_entry-entry.ensures ∙ ap (slice_index c.args.process.now.entries) c.number_of-number.ensures.value)

pub returns-else-reflect-clause-loaded : goal.returns-else-reflect-clause-loaded
returns-else-reflect-clause-loaded c = record {
  registers = c.reflect.ensures.registers ∙ sym (ap (λ (p : Process). p.registers) c.set_status.ensures);
  outside = c.reflect.ensures.kernel ∙ c.requires.loaded.outside;
  vectors = vectors-kept c.args.machine.now.core.words c.reflect.new.machine.core.words c.reflect.ensures.words c.requires.loaded.vectors;
  pages = c.reflect.ensures.pages ∙ c.requires.loaded.pages
      ∙ ap (pages_for c.args.store.now c.args.subject) (sym (ap (λ (p : Process). p.windows) c.set_status.ensures ∙ c.reflect.ensures.windows));
}
