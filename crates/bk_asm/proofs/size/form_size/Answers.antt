use Rattle.std.proofs.Common.{◌≡◌, ◌+◌, ◌*◌, length, ap, sym, ◌∙◌, arith}
use Rattle.std.specs.Prelude.{map}
use Rattle.std.proofs.lemmas.List.{length-map}
use Rattle.bk_expr.specs.Tree.{plain}
use Rattle.bk_asm_text.specs.Flat.{body_with}
use Rattle.bk_asm_text.specs.declared.statement.Body.{Body}
use Rattle.bk_asm_text.specs.declared.statement.Body.TheVariants as body
use Rattle.bk_asm.specs.Pieces.{form_size}
use Rattle.bk_asm.specs.Seen.{at_most}
use Rattle.bk_asm.proofs.Sizes.{values_size, bytes_size}
use Rattle.bk_asm.proofs.size.form_size.Goals as goal

pub returns-in-WordList-clause-size : goal.returns-in-WordList-clause-size
returns-in-WordList-clause-size c =
    let exprs = c.args.values.now in
    let size : 2 * length exprs ≡ form_size (body_with body.WordList (map plain exprs)) =
    omega (arith, values_size (map plain exprs), length-map exprs plain) in
    c.words.ensures.size ∙ ap at_most size ∙ ap (λ (b : Body). at_most (form_size (body_with b (map plain exprs)))) (sym c.in-WordList.is)

pub returns-in-ByteList-clause-size : goal.returns-in-ByteList-clause-size
returns-in-ByteList-clause-size c =
    let exprs = c.args.values.now in
    let size : length exprs + 0 ≡ form_size (body_with body.ByteList (map plain exprs)) =
    omega (arith, bytes_size (map plain exprs), length-map exprs plain) in
    c.bytes.ensures.size ∙ ap at_most size ∙ ap (λ (b : Body). at_most (form_size (body_with b (map plain exprs)))) (sym c.in-ByteList.is)
