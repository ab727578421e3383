use Rattle.std.proofs.Common.{◌≡◌, ◌∙◌, subst}
use Rattle.std.specs.Prelude.{IfOk}
use Rattle.bk_image.specs.Parts.{Gives}
use Rattle.bk_image.specs.Writing.{Fits, written_image}
use Rattle.bk_image.proofs.Written.{is_written}
use Rattle.bk_image.proofs.writing.write_image.Goals as goal

pub returns-clause-again : goal.returns-clause-again
returns-clause-again c =
    let image = c.args.image.now in
    let own : c.deref.result.now ≡ image.levels = c.deref.ensures.value ∙ c.in_ok-levels.ensures in
    is_written image (λ bytes. bytes.items) c.write_with_levels.result
    (subst (λ levels. IfOk c.write_with_levels.result (λ bytes. Fits (record image { levels = levels }))) own c.write_with_levels.ensures.fits)
    (subst (λ levels. Gives (λ bytes. bytes.items) c.write_with_levels.result (written_image (record image { levels = levels }))) own c.write_with_levels.ensures.exact)
