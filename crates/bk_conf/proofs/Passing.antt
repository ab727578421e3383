-- Lines that are passed over, and numbers of lines.
use Rattle.std.proofs.Common.{◌≡◌, ℕ, suc, List, [], ◌∷◌, ◌++◌, length, refl, ap, ◌∙◌, arith}
use Rattle.bk_conf.specs.Fault.{line_after}
use Rattle.bk_conf.specs.Lines.{Text}
use Rattle.bk_conf.specs.Said.{Said}
use Rattle.bk_conf.specs.Steps.{with_all}

-- one line, and then others
line_after-suc : (at n : ℕ) → line_after (line_after at 1) (suc n) ≡ line_after at (suc (suc n))
line_after-suc at n = omega arith

-- the lines of a program and its end are passed over
pub with_all-passed : (said : Said) (at : ℕ) (lines : List Text) (end : Text) (rest : List Text)
    → with_all said at (suc (length lines)) (lines ++ end ∷ rest) ≡ with_all said (line_after at (suc (length lines))) 0 rest
unfolding with_all
with_all-passed said at [] end rest = refl
with_all-passed said at (line ∷ lines) end rest =
    with_all-passed said (line_after at 1) lines end rest
    ∙ ap (λ n. with_all said n 0 rest) (line_after-suc at (length lines))
