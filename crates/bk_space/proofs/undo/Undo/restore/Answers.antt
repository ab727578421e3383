use Rattle.std.proofs.Common.{◌≡◌, ◌∙◌, ap, sym, subst}
use Rattle.bk_space.specs.declared.registers.Regs.{Regs}
use Rattle.bk_space.specs.Trail.{Trail, pair_of}
use Rattle.bk_space.specs.Undo.{taken_back, undone, HasMoved}
use Rattle.bk_space.proofs.UndoneLemmas.{IsNote-pair_of, undone-moved}
use Rattle.bk_space.proofs.undo.Undo.restore.Goals as goal

pub returns-clause-back : goal.returns-clause-back
unfolding undone
returns-clause-back c = λ before h m.
    let trail : Trail = record { pc = c.self.inside.pc; first = pair_of c.self.inside.first; second = pair_of c.self.inside.second } in
    let since : HasMoved trail before c.args.regs.now = subst (λ t. HasMoved t before c.args.regs.now) (sym c.self.view_is) m in
    let second : c.take_back.new.regs ≡ taken_back trail.second c.args.regs.now = c.take_back.ensures in
    let both : c.take_back-2.new.regs ≡ taken_back trail.first (taken_back trail.second c.args.regs.now) = c.take_back-2.ensures ∙ ap (taken_back trail.first) second in
    ap (λ (r : Regs). record r { pc = trail.pc }) both
    ∙ undone-moved trail before c.args.regs.now (IsNote-pair_of c.self.inside.first) (IsNote-pair_of c.self.inside.second) h since
