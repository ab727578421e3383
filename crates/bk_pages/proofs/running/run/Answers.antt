use Rattle.std.proofs.Common.{arith, ap, refl, ◌∙◌}
use Rattle.bk_space.specs.Counts.{counted_on}
use Rattle.bk_exec.specs.Exec.{Done}
use Rattle.bk_pages.specs.StandsFor.{kept_in}
use Rattle.bk_pages.proofs.Loaded.{instruction-is, written-stands}
use Rattle.bk_pages.proofs.running.run.Goals as goal

pub returns-clause-event : goal.returns-clause-event
returns-clause-event c = λ v stands. c.run_and_leave.ensures.event
    ∙ ap (λ (done : Done). done.outcome) (instruction-is c.args.machine.now c.args.store.now c.args.subject (kept_in c.args.machine.now c.args.process.now) c.requires.loaded c.law_contents.ensures.extents (omega (arith, c.law_windows.ensures)) v stands)

pub returns-clause-registers : goal.returns-clause-registers
returns-clause-registers c = λ v stands. c.run_and_leave.ensures.process
    ∙ ap (λ (done : Done). done.regs) (instruction-is c.args.machine.now c.args.store.now c.args.subject (kept_in c.args.machine.now c.args.process.now) c.requires.loaded c.law_contents.ensures.extents (omega (arith, c.law_windows.ensures)) v stands)

pub returns-clause-references : goal.returns-clause-references
returns-clause-references c = λ v stands. c.run_and_leave.ensures.references
    ∙ ap (λ (done : Done). counted_on c.args.machine.now.references done.references) (instruction-is c.args.machine.now c.args.store.now c.args.subject (kept_in c.args.machine.now c.args.process.now) c.requires.loaded c.law_contents.ensures.extents (omega (arith, c.law_windows.ensures)) v stands)

pub returns-clause-state : goal.returns-clause-state
returns-clause-state c = λ v stands.
    written-stands c.args.machine.now c.args.store.now c.args.subject (kept_in c.args.machine.now c.args.process.now) c.requires.loaded c.law_contents.ensures.extents (omega (arith, c.law_windows.ensures)) v stands
    c.run_and_leave.new.machine.core.words c.run_and_leave.ensures.others

pub returns-clause-loaded : goal.returns-clause-loaded
returns-clause-loaded c = record {
  registers = refl;
  outside = c.run_and_leave.ensures.outside;
  vectors = c.run_and_leave.ensures.vectors c.requires.loaded.vectors;
  pages = c.run_and_leave.ensures.pages ∙ c.requires.loaded.pages;
}
