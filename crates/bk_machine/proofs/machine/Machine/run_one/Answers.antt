use Rattle.std.proofs.Common.{ap, ◌∙◌}
use Rattle.bk_exec.specs.Exec.{exec}
use Rattle.bk_exec.proofs.WriteLemmas.{exec_allowed}
use Rattle.bk_machine.specs.Paged.{Paged, paged, shown_in}
use Rattle.bk_machine.specs.Machine.{MachineState, other_words, written_of}
use Rattle.bk_machine.specs.Trap.{vector_of}
use Rattle.bk_machine.proofs.Kernel.{last-told, ran-vectors, trapped-others}
use Rattle.bk_machine.proofs.machine.Machine.run_one.Goals as goal

pub returns-clause-vectors : goal.returns-clause-vectors
returns-clause-vectors c =
    let shown = shown_in (paged c.self.inside.bus.mmu.registers c.self.inside.bus.core.words) in
    ran-vectors c.self.inside.bus.mmu c.self.inside.bus.core c.args.self.now.core.words c.trap-self-inside.new.core.words (paged c.step-event.new.bus.mmu.registers c.step-event.new.bus.core.words)
    (exec shown c.self.inside.process).write c.step-event.result c.step-event.new.regs (ap (λ (m : MachineState). m.core.words) c.self.view_is) (exec_allowed shown c.self.inside.process) c.step-event.ensures.written c.trap-self-inside.ensures.words

pub returns-clause-others : goal.returns-clause-others
returns-clause-others c =
    ap other_words c.trap-self-inside.ensures.words
    ∙ trapped-others (vector_of c.step-event.result) c.step-event.new.regs c.step-event.new.bus.core.words
    ∙ ap (λ (s : Paged). other_words s.words) c.step-event.ensures.written
    ∙ ap (λ (m : MachineState). other_words (written_of m).words) c.self.view_is

pub returns-clause-last : goal.returns-clause-last
returns-clause-last c =
    last-told c.one_more-self-inside.result c.self.inside.process c.self.inside.after c.step-event.new.regs c.args.self.now.process c.step-event.result c.one_more-self-inside.ensures.some (ap (λ (m : MachineState). m.process) c.self.view_is)
