use Rattle.std.proofs.Common.{◌≡◌, sym, subst}
use Rattle.bk_space.specs.Counts.{counted_on}
use Rattle.bk_exec.specs.Operands.{single_of}
use Rattle.bk_cpu.specs.Reached.{Reaches, left_by, result_of}
use Rattle.bk_cpu.proofs.TopBits.{executed-single}
use Rattle.bk_cpu.proofs.words.single_in.Goals as goal

pub returns-clause-reaches : goal.returns-clause-reaches
returns-clause-reaches g c =
    let part = executed-single (g.B.Bus.shown (g.B.Bus.state c.args.bus.now)) c.args.word c.args.op c.args.width c.field.result c.args.regs.now c.requires.code c.field.ensures.value in
    let how = subst (λ r. Reaches r c.single.new.regs (single_of (g.B.Bus.shown (g.B.Bus.state c.args.bus.now)) c.args.op c.args.width c.field.result c.args.regs.now)) (sym c.outcome_of.ensures) c.single.ensures.reaches in
    subst (λ p. Reaches (result_of c.outcome_of.result) c.single.new.regs p) part how

pub returns-clause-count : goal.returns-clause-count
returns-clause-count g c =
    let part = executed-single (g.B.Bus.shown (g.B.Bus.state c.args.bus.now)) c.args.word c.args.op c.args.width c.field.result c.args.regs.now c.requires.code c.field.ensures.value in
    subst (λ p. g.B.Bus.references c.single.new.bus ≡ counted_on (g.B.Bus.references c.args.bus.now) p.made) part c.single.ensures.count

pub returns-clause-state : goal.returns-clause-state
returns-clause-state g c =
    let part = executed-single (g.B.Bus.shown (g.B.Bus.state c.args.bus.now)) c.args.word c.args.op c.args.width c.field.result c.args.regs.now c.requires.code c.field.ensures.value in
    subst (λ p. g.B.Bus.state c.single.new.bus ≡ left_by g.B.Bus.after (g.B.Bus.state c.args.bus.now) p.outcome) part c.single.ensures.state
