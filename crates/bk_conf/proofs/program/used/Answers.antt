use Rattle.std.proofs.Common.{◌≡◌, ℕ, take, ap, sym, ◌∙◌, arith}
use Rattle.bk_conf.specs.Steps.{without_zeros}
use Rattle.bk_conf.proofs.Zeros.{take_none}
use Rattle.bk_conf.proofs.program.used.Goals as goal

pub returns-clause-kept : goal.returns-clause-kept
returns-clause-kept c =
    let words = c.args.words.now in
    let none : c.zeros.used ≡ 0 = omega (arith, c.zeros-test.false) in
    take_none words ∙ ap (λ (n : ℕ). without_zeros (take n words)) (sym none) ∙ c.zeros.invariant.kept
