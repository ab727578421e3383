use Rattle.std.proofs.Common.{◌≡◌, sym, subst}
use Rattle.bk_space.specs.Counts.{counted_on}
use Rattle.bk_space.specs.declared.reference.Width.TheVariants.{Word}
use Rattle.bk_exec.specs.Operands.{double_of}
use Rattle.bk_cpu.specs.Direct.{direct}
use Rattle.bk_cpu.specs.Reached.{Reaches, left_by, result_of}
use Rattle.bk_cpu.proofs.RegisterFields.{immediate-double}
use Rattle.bk_cpu.proofs.words.double_immediate.Goals as goal

pub returns-clause-reaches : goal.returns-clause-reaches
returns-clause-reaches g c =
    let pages = g.B.Bus.shown (g.B.Bus.state c.args.bus.now) in
    let part = immediate-double pages c.args.word c.args.op c.register.result c.args.regs.now c.requires.code c.requires.src c.requires.dst c.register.ensures.value in
    let how = subst (λ r. Reaches r c.double.new.regs (double_of pages c.args.op Word (record { mode = 2; reg = 7 }) (direct c.register.result) c.args.regs.now)) (sym c.outcome_of.ensures) c.double.ensures.reaches in
    subst (λ p. Reaches (result_of c.outcome_of.result) c.double.new.regs p) part how

pub returns-clause-count : goal.returns-clause-count
returns-clause-count g c =
    let part = immediate-double (g.B.Bus.shown (g.B.Bus.state c.args.bus.now)) c.args.word c.args.op c.register.result c.args.regs.now c.requires.code c.requires.src c.requires.dst c.register.ensures.value in
    subst (λ p. g.B.Bus.references c.double.new.bus ≡ counted_on (g.B.Bus.references c.args.bus.now) p.made) part c.double.ensures.count

pub returns-clause-state : goal.returns-clause-state
returns-clause-state g c =
    let part = immediate-double (g.B.Bus.shown (g.B.Bus.state c.args.bus.now)) c.args.word c.args.op c.register.result c.args.regs.now c.requires.code c.requires.src c.requires.dst c.register.ensures.value in
    subst (λ p. g.B.Bus.state c.double.new.bus ≡ left_by g.B.Bus.after (g.B.Bus.state c.args.bus.now) p.outcome) part c.double.ensures.state
