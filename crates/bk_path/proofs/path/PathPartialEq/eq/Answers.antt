use Rattle.std.proofs.Common.{◌≡◌, ◌∙◌, ◌&&◌, nat_eq, arith}
use Rattle.std.proofs.lemmas.Bool.Decides.{nat_tests}
use Rattle.bk_path.specs.Paths.{is_same}
use Rattle.bk_path.proofs.PathLemmas.{same_words}
use Rattle.bk_path.proofs.path.PathPartialEq.eq.Goals as goal

pub returns-then-self-other : goal.returns-then-self-other
returns-then-self-other c =
    let same = c.if-self-other.true in
    let both : nat_eq c.self.inside.second c.other.inside.second ≡ (nat_eq c.self.inside.first c.other.inside.first && nat_eq c.self.inside.second c.other.inside.second) = grind (arith, nat_tests, same) in
    both ∙ same_words c.self.inside c.other.inside c.self.invariant c.other.invariant ∙ (λ i. is_same (c.self.view_is i) (c.other.view_is i))

pub returns-else-self-other : goal.returns-else-self-other
returns-else-self-other c =
    let apart = c.if-self-other.false in
    let both : nat_eq c.self.inside.first c.other.inside.first ≡ (nat_eq c.self.inside.first c.other.inside.first && nat_eq c.self.inside.second c.other.inside.second) = grind (arith, nat_tests, apart) in
    both ∙ same_words c.self.inside c.other.inside c.self.invariant c.other.invariant ∙ (λ i. is_same (c.self.view_is i) (c.other.view_is i))
