use Rattle.std.proofs.Common.{◌≡◌, Ok, sym, subst}
use Rattle.bk_state.specs.Secure.{Secure}
use Rattle.bk_state.specs.Start.{state_of}
use Rattle.bk_state.specs.declared.image.Image.{Image}
use Rattle.bk_image.specs.Accepted.{IsAccepted}
use Rattle.bk_image.specs.Image.{IsImage}
use Rattle.bk_image.specs.Spelling.{spelling}
use Rattle.bk_image.specs.Writing.{written_image}
use Rattle.bk_script.specs.Script.{IsScript}
use Rattle.bk_system.specs.declared.Script.{Script}
use Rattle.bk_gen.specs.Image.{generated_image}
use Rattle.bk_gen.proofs.Accepted.{is_accepted, is_secure, is_written, is_image}
use Rattle.bk_gen.proofs.Typed.{is_script}
use Rattle.bk_gen.proofs.generating.generate.Goals as goal

pub returns-clause-accepted : goal.returns-clause-accepted
returns-clause-accepted c = subst IsAccepted (sym c.in_ok-image.ensures) is_accepted

pub returns-clause-secure : goal.returns-clause-secure
returns-clause-secure c = subst (λ (image : Image). Secure (state_of image)) (sym c.in_ok-image.ensures) is_secure

pub returns-clause-written : goal.returns-clause-written
returns-clause-written c = subst (λ (image : Image). written_image image ≡ Ok (spelling image)) (sym c.in_ok-image.ensures) is_written

pub returns-clause-read : goal.returns-clause-read
returns-clause-read c = subst (λ (image : Image). IsImage (spelling image) image) (sym c.in_ok-image.ensures) is_image

pub returns-clause-typed : goal.returns-clause-typed
returns-clause-typed c =
    subst (λ (image : Image). IsScript image.lines image.turns c.in_ok-script.script.typed c.in_ok-script.script.slots) (sym c.in_ok-image.ensures)
    (subst (λ (script : Script). IsScript generated_image.lines generated_image.turns script.typed script.slots) (sym c.in_ok-script.ensures) (is_script c.args.n))
