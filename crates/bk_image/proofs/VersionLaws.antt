-- Which version an image is written in, and what version 1 means.
use Rattle.std.proofs.Common.{◌≡◌, ℕ, zero, suc, ◌+◌, ◌*◌, ◌≤◌, ◌↔◌, Bool, true, false, List, [], ◌∷◌, ◌++◌, length, take, drop, replicate, Ok, refl, sym, ap, ◌∙◌, arith}
use Rattle.std.specs.Prelude.{◌&&◌, nat_le, if◌then◌else◌, IsTrue}
use Rattle.std.specs.List.{list_all}
use Rattle.std.proofs.lemmas.Bool.Decides.{nat_tests}
use Rattle.std.proofs.lemmas.List.{take-append-drop}
use Rattle.bk_level.specs.Levels.{has_only_below}
use Rattle.bk_level.specs.Masks.{categories_of, mask_in}
use Rattle.bk_object.specs.Modes.{no_modes}
use Rattle.bk_object.specs.Rows.{in_row}
use Rattle.bk_object.specs.declared.modes.Modes.{Modes}
use Rattle.bk_state.specs.declared.image.Image.{Image}
use Rattle.bk_image.specs.declared.version.Version.TheVariants.{One, Two}
use Rattle.bk_image.specs.Versions.{version_number, version_for}
use Rattle.bk_image.specs.Numbers.{word}
use Rattle.bk_image.specs.Image.{image_of, IsImage}
use Rattle.bk_image.specs.Spelling.{spelling}
use Rattle.bk_image.proofs.Takes.{IsBytes}
use Rattle.bk_image.proofs.Only.{word_back}
use Rattle.bk_image.proofs.SpeltImage.{image_spelt}

-- the number in the header of an image's spelling
number_spelt : (image : Image) (more : List ℕ) → word (spelling image ++ more) 4 ≡ version_number (version_for image)
unfolding spelling
number_spelt image more = word_back (version_number (version_for image))

-- an image that was read has the number of the version for it
pub number_read : (bytes : List ℕ) (image : Image) (n : ℕ) → IsBytes bytes → image_of bytes ≡ Ok (image, n) → word bytes 4 ≡ version_number (version_for image)
number_read bytes image n fits e =
    let is = image_spelt bytes image n fits e in
    let whole : bytes ≡ spelling image ++ drop n bytes = sym (take-append-drop n bytes) ∙ ap (λ (t : List ℕ). t ++ drop n bytes) is.text in
    ap (λ (b : List ℕ). word b 4) whole ∙ number_spelt image (drop n bytes)

take_whole : (bytes : List ℕ) → take (length bytes) bytes ≡ bytes
take_whole [] = refl
take_whole (b ∷ bytes) = ap (λ (t : List ℕ). b ∷ t) (take_whole bytes)

-- an image has no bytes but its spelling
pub one_spelling : (bytes : List ℕ) (image : Image) → IsBytes bytes → IsImage bytes image → bytes ≡ spelling image
one_spelling bytes image fits e = sym (take_whole bytes) ∙ (image_spelt bytes image (length bytes) fits e).text

-- version 1 is for an image exactly where it can say it
pub first_for : (image : Image) → (version_for image ≡ One) ↔ ((length image.subjects ≤ 32) × IsTrue (list_all (has_only_below 16) image.levels))
first_for image = by (nat_le (length image.subjects) 32) refl (list_all (has_only_below 16) image.levels)
  where
    by : (few : Bool) → nat_le (length image.subjects) 32 ≡ few → (said : Bool) → ((if few && said then One else Two) ≡ One) ↔ ((length image.subjects ≤ 32) × IsTrue said)
    by true is true = (λ e. (grind (arith, nat_tests, is), refl), λ both. refl)
    by true is false = (λ e. absurd cc, λ both. absurd cc)
    by false is said = (λ e. absurd cc, λ both. absurd (grind (arith, nat_tests, is, both.0)))

-- a level of version 1 has one word of categories
pub first_level : (low high : ℕ) → categories_of (mask_in ((low + 256 * high) ∷ [])) ≡ categories_of (low + 256 * high)
first_level low high = ap categories_of (omega arith)

-- sets of no modes at the end say nothing
pub nothing_more : (sets : List Modes) (left subject : ℕ) → in_row (sets ++ replicate left no_modes) subject ≡ in_row sets subject
nothing_more [] zero subject = refl
nothing_more [] (suc left) zero = refl
nothing_more [] (suc left) (suc subject) = nothing_more [] left subject
nothing_more (modes ∷ sets) left zero = refl
nothing_more (modes ∷ sets) left (suc subject) = nothing_more sets left subject
