use Rattle.std.proofs.Common.{◌∷◌, sym, ◌∙◌}
use Rattle.bk_asm_text.specs.Flat.{all_said, plain_rest, said}
use Rattle.bk_asm_text.proofs.Flat.{none_left, first_left}
use Rattle.bk_asm_text.proofs.statements.Rest.next.Goals as goal

pub returns-in_default-clause-none : goal.returns-in_default-clause-none
returns-in_default-clause-none c = none_left c.args.self.now c.in_default.ensures

pub returns-clause-first : goal.returns-clause-first
unfolding plain_rest
returns-clause-first c =
    let head = c.in-Some.head in
    first_left c.args.self.now head c.in-Some.heads.now c.in-Some.ensures
    ∙ (λ i. said head.line (sym c.cut.ensures.front i) (sym c.cut-2.ensures.front i) head.body
    ∷ all_said c.in-Some.heads.now (sym c.cut.ensures.others i) (sym c.cut-2.ensures.others i))
