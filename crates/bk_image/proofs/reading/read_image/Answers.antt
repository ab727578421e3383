use Rattle.std.proofs.Common.{◌++◌, [], length, take, sym, ap, subst, ◌∙◌, arith}
use Rattle.std.proofs.lemmas.List.{take_at, append-nil}
use Rattle.bk_image.specs.Image.{image_of}
use Rattle.bk_image.specs.Parts.{Gives}
use Rattle.bk_image.specs.Spelling.{spelling}
use Rattle.bk_image.proofs.SpeltImage.{is_spelt}
use Rattle.bk_image.proofs.Passed.{is_accepted, is_secure}
use Rattle.bk_image.proofs.Fronts.{image_grows}
use Rattle.bk_image.proofs.reading.read_image.Goals as goal

pub returns-clause-spelt : goal.returns-clause-spelt
returns-clause-spelt c = is_spelt c.args.bytes.now (λ x. x) c.first_image.result (λ i. omega (arith, c.type_inv.bytes i)) c.first_image.ensures

pub returns-clause-accepted : goal.returns-clause-accepted
returns-clause-accepted c = is_accepted c.args.bytes.now (λ x. x) c.first_image.result c.first_image.ensures

pub returns-clause-secure : goal.returns-clause-secure
returns-clause-secure c = is_secure c.args.bytes.now (λ x. x) c.first_image.result c.first_image.ensures

pub returns-clause-again : goal.returns-clause-again
returns-clause-again c = λ image more is_image e.
    let text = spelling image in
    let whole = ap (take (length text)) (sym (append-nil text)) ∙ take_at text [] (length text) (λ i. length text) in
    let again = ap image_of (e ∙ ap (λ t. t ++ more) (sym whole)) ∙ image_grows text image (length text) is_image more in
    subst (λ f. Gives (λ x. x) c.first_image.result f) again c.first_image.ensures
