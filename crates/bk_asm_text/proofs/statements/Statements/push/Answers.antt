use Rattle.std.proofs.Common.{◌≡◌, length, arith, ◌∙◌}
use Rattle.bk_asm_text.specs.declared.statements.Head.{Head}
use Rattle.bk_asm_text.specs.Flat.{all_said, plain_statements}
use Rattle.bk_asm_text.proofs.Flat.{one_more}
use Rattle.bk_asm_text.proofs.statements.Statements.push.Goals as goal

pub returns-clause-more : goal.returns-clause-more
unfolding plain_statements
returns-clause-more c =
    let before = c.args.self.now in
    let parts = c.args.parts.now in
    let head : Head = record { line = c.args.line; labels = c.len.result; values = c.len-2.result; body = c.args.body } in
    let labels : c.len.result ≡ length parts.labels.items = omega (arith, c.len.ensures, parts.labels.ok) in
    let values : c.len-2.result ≡ length parts.values.items = omega (arith, c.len-2.ensures, parts.values.ok) in
    (λ i. all_said (c.in-Ok-Ok-Ok.ensures.items i) (c.in-Ok-Ok-Ok.ensures'.items i) (c.in-Ok-Ok-Ok.ensures''.items i))
    ∙ one_more before.heads.items before.labels.items before.values.items head parts.labels.items parts.values.items c.requires.labels c.requires.values labels values
