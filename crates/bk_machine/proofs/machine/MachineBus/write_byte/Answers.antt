use Rattle.std.proofs.Common.{ap, ◌∙◌}
use Rattle.bk_space.specs.declared.reference.Width.TheVariants.{Byte}
use Rattle.bk_machine.specs.Paged.{paged}
use Rattle.bk_machine.specs.Machine.{MachineState, kernel_words}
use Rattle.bk_machine.proofs.Kernel.{answered-kernel}
use Rattle.bk_machine.proofs.machine.MachineBus.write_byte.Goals as goal

pub returns-clause-kernel : goal.returns-clause-kernel
returns-clause-kernel c =
    answered-kernel c.self.inside.bus.mmu c.self.inside.bus.core (paged c.write_byte.new.self.mmu.registers c.write_byte.new.self.core.words) (record { mode = c.args.mode; space = c.args.space; width = Byte; addr = c.args.addr; value = c.args.value }) c.write_byte.result
    c.write_byte.ensures.answer c.write_byte.ensures.written c.write_byte.ensures.kept
    ∙ ap (λ (m : MachineState). kernel_words m.core.words) c.self.view_is
