use Rattle.std.proofs.Common.{◌≡◌, refl, sym, ap, subst}
use Rattle.bk_space.specs.Counts.{counted_on}
use Rattle.bk_space.proofs.CountLemmas.{counted_on-zero}
use Rattle.bk_cpu.specs.Reached.{ended, left_by}
use Rattle.bk_cpu.proofs.TopBits.{executed-call}
use Rattle.bk_cpu.proofs.words.call_in.Goals as goal

pub returns-clause-reaches : goal.returns-clause-reaches
returns-clause-reaches g c =
    let part = executed-call (g.B.Bus.shown (g.B.Bus.state c.args.bus.now)) c.args.word c.args.regs.now c.requires.code in
    ap (λ p. ended p.outcome) (sym part)

pub returns-clause-count : goal.returns-clause-count
returns-clause-count g c =
    let part = executed-call (g.B.Bus.shown (g.B.Bus.state c.args.bus.now)) c.args.word c.args.regs.now c.requires.code in
    let count = g.B.Bus.references c.args.bus.now in
    subst (λ p. count ≡ counted_on count p.made) part (sym (counted_on-zero count))

pub returns-clause-state : goal.returns-clause-state
returns-clause-state g c =
    let part = executed-call (g.B.Bus.shown (g.B.Bus.state c.args.bus.now)) c.args.word c.args.regs.now c.requires.code in
    let state = g.B.Bus.state c.args.bus.now in
    subst (λ p. state ≡ left_by g.B.Bus.after state p.outcome) part refl
