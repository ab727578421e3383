use Rattle.std.proofs.Common.{sym, ◌∙◌, ap}
use Rattle.bk_space.specs.Counts.{counted_on}
use Rattle.bk_space.proofs.CountLemmas.{counted_on-zero}
use Rattle.bk_cpu.specs.Reached.{ended, left_by}
use Rattle.bk_cpu.proofs.RegisterFields.{direct-double}
use Rattle.bk_cpu.proofs.words.double_registers.Goals as goal

pub returns-clause-reaches : goal.returns-clause-reaches
returns-clause-reaches g c =
    let pages = g.B.Bus.shown (g.B.Bus.state c.args.bus.now) in
    let part = direct-double pages c.args.word c.args.op c.register.result c.register-2.result c.args.regs.now c.double_direct.new.regs c.requires.code c.requires.src c.requires.dst c.register.ensures.value c.register-2.ensures.value (c.double_direct.ensures pages) in
    ap (λ p. ended p.outcome) part

pub returns-clause-count : goal.returns-clause-count
returns-clause-count g c =
    let pages = g.B.Bus.shown (g.B.Bus.state c.args.bus.now) in
    let part = direct-double pages c.args.word c.args.op c.register.result c.register-2.result c.args.regs.now c.double_direct.new.regs c.requires.code c.requires.src c.requires.dst c.register.ensures.value c.register-2.ensures.value (c.double_direct.ensures pages) in
    let count = g.B.Bus.references c.args.bus.now in
    sym (ap (λ p. counted_on count p.made) part ∙ counted_on-zero count)

pub returns-clause-state : goal.returns-clause-state
returns-clause-state g c =
    let pages = g.B.Bus.shown (g.B.Bus.state c.args.bus.now) in
    let part = direct-double pages c.args.word c.args.op c.register.result c.register-2.result c.args.regs.now c.double_direct.new.regs c.requires.code c.requires.src c.requires.dst c.register.ensures.value c.register-2.ensures.value (c.double_direct.ensures pages) in
    let state = g.B.Bus.state c.args.bus.now in
    sym (ap (λ p. left_by g.B.Bus.after state p.outcome) part)
