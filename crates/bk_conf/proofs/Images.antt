-- An image whose bytes were written is the one that is read from them.
use Rattle.std.proofs.Common.{◌≡◌, ℕ, Bool, true, false, cond, List, [], ◌++◌, length, Result, Ok, Err, refl, sym, ap, subst, ◌∙◌}
use Rattle.std.proofs.lemmas.List.{append-nil}
use Rattle.bk_base.proofs.FaultLemmas.{bind_ok, ok_is}
use Rattle.bk_image.proofs.Written.{written_again}
use Rattle.bk_image.specs.declared.fault.ImageFault.{ImageFault}
use Rattle.bk_image.specs.declared.fault.ImageField.TheVariants as field
use Rattle.bk_image.specs.Image.{image_of}
use Rattle.bk_image.specs.Parts.{◌>>=◌}
use Rattle.bk_image.specs.Spelling.{spelling}
use Rattle.bk_image.specs.Writing.{Fits, counts_fit, written_image}
use Rattle.bk_state.specs.declared.image.Image.{Image}
use Rattle.std.specs.Prelude.{IfOk, IfErr}
use Rattle.bk_base.specs.Faults.{Gives, Refuses}
use Rattle.bk_base.specs.declared.stop.Stop.{Stop}
use Rattle.bk_conf.specs.declared.fault.BuildFault.{BuildFault}
use Rattle.bk_conf.specs.Built.{built, if_written, listing_of, listings_of, IsWhole}
use Rattle.bk_conf.specs.Lines.{Text}
use Rattle.bk_conf.specs.Ordered.{ordered}
use Rattle.bk_conf.specs.Said.{Said}
use Rattle.bk_conf.specs.Steps.{configuration_of}
use Rattle.bk_conf.proofs.Reached.{stopped}

chosen : {A : Type 0} (b : Bool) (r : Result A ImageFault) (d : ImageFault) (y : A) → cond b r (Err d) ≡ Ok y → r ≡ Ok y
chosen true r d y e = e
chosen false r d y e = absurd cc

-- what is written is the spelling
is_spelling : (image : Image) (bytes : List ℕ) → written_image image ≡ Ok bytes → spelling image ≡ bytes
unfolding written_image
is_spelling image bytes e =
    let c = chosen (counts_fit image) (image_of (spelling image) >>= λ i. Ok (spelling image)) (record { at = 0; field = field.Counts }) bytes e in
    let b = bind_ok (image_of (spelling image)) (λ i. Ok (spelling image)) bytes c in
    ok_is (spelling image) bytes b.2

-- the bytes of an image are its spelling, and are read again
whole : (first : Image) → Fits first → (bytes : List ℕ) → written_image first ≡ Ok bytes → IsWhole first
whole first fits bytes e =
    let spelt = is_spelling first bytes e in
    record {
      written = e ∙ ap Ok (sym spelt);
      again = λ more. subst (λ text. image_of (text ++ more) ≡ Ok (first, length text)) (sym spelt) (written_again first fits bytes e more);
    }

-- what is read from the bytes of an image is that image
pub read_whole : (bytes : List ℕ) (image first : Image) (count : ℕ) → image_of bytes ≡ Ok (image, count) → Fits first → written_image first ≡ Ok bytes
    → (image ≡ first) × IsWhole image
read_whole bytes image first count read fits e =
    let again : image_of bytes ≡ Ok (first, length bytes) = ap image_of (sym (append-nil bytes)) ∙ written_again first fits bytes e [] in
    let pair = ok_is (image, count) (first, length bytes) (sym read ∙ again) in
    let same : image ≡ first = λ i. (pair i).0 in
    (same, subst IsWhole (sym same) (whole first fits bytes e))

-- ---- the image of a configuration

-- the image that is read from the bytes that were written
pub image_read : (first image : Image) (bytes : List ℕ) → written_image first ≡ Ok bytes → image ≡ first → if_written first (written_image first) ≡ Ok image
image_read first image bytes written same = ap (if_written first) written ∙ ap Ok (sym same)

-- the same image by two names
pub written_as : (first image : Image) (r : Result (List ℕ) ImageFault) → image ≡ first → written_image image ≡ r → written_image first ≡ r
written_as first image r same written = ap written_image (sym same) ∙ written

-- a configuration that says nothing has no image
pub built_stopped : (text : Text) (stop : Stop BuildFault) → Refuses stop (configuration_of text) → Refuses stop (built text)
unfolding built
built_stopped text stop refused = stopped stop (configuration_of text) _ refused

-- the image of what it says
built_gives : (text : Text) (said : Said) → configuration_of text ≡ Ok said → built text ≡ if_written (ordered said) (written_image (ordered said))
unfolding built
built_gives text said says = rw says refl

pub built_ok : (text : Text) (said : Said) (result : Result Image (Stop BuildFault)) → configuration_of text ≡ Ok said
    → Gives (λ image. image) result (if_written (ordered said) (written_image (ordered said))) → IfOk result (λ image. built text ≡ Ok image)
built_ok text said (Ok image) says given = built_gives text said says ∙ given
built_ok text said (Err stop) says given = tt

pub built_err : (text : Text) (said : Said) (result : Result Image (Stop BuildFault)) → configuration_of text ≡ Ok said
    → Gives (λ image. image) result (if_written (ordered said) (written_image (ordered said))) → IfErr result (λ stop. Refuses stop (built text))
built_err text said (Ok image) says given = tt
built_err text said (Err stop) says given = subst (Refuses stop) (sym (built_gives text said says)) given

-- ---- its listing

pub listing_stopped : (text : Text) (stop : Stop BuildFault) → Refuses stop (configuration_of text) → Refuses stop (listing_of text)
unfolding listing_of
listing_stopped text stop refused = stopped stop (configuration_of text) _ refused

pub listing_ok : (text : Text) (said : Said) → configuration_of text ≡ Ok said → listing_of text ≡ Ok (listings_of said.programs)
unfolding listing_of
listing_ok text said says = rw says refl
