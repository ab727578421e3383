-- What is written is an image, and that image.
use Rattle.std.proofs.Common.{◌≡◌, ℕ, Bool, true, false, cond, List, [], ◌∷◌, ◌++◌, length, take, Result, Ok, Err, refl, sym, ap, subst, ◌∙◌, arith}
use Rattle.std.specs.Prelude.{◌&&◌, nat_lt, nat_le, if◌then◌else◌, IfOk, All}
use Rattle.std.specs.List.{list_all}
use Rattle.std.proofs.lemmas.List.{append-nil, take_at}
use Rattle.std.proofs.lemmas.List.Elements.{All-nil, All-cons, All-head, All-tail}
use Rattle.bk_level.specs.Levels.{Level, has_only_below}
use Rattle.bk_state.specs.declared.image.Image.{Image}
use Rattle.bk_state.specs.declared.image.ObjectRec.{ObjectRec}
use Rattle.bk_image.specs.declared.fault.ImageFault.{ImageFault}
use Rattle.bk_image.specs.declared.fault.ImageField.TheVariants as field
use Rattle.bk_base.specs.declared.stop.Stop.{Stop}
use Rattle.bk_image.specs.declared.version.Version.{Version}
use Rattle.bk_image.specs.declared.version.Version.TheVariants.{One, Two}
use Rattle.bk_image.specs.Versions.{subjects_of, can_say, version_for}
use Rattle.bk_image.specs.Parts.{◌>>=◌, Gives}
use Rattle.bk_image.specs.Image.{image_of}
use Rattle.bk_image.specs.Spelling.{spelling}
use Rattle.bk_image.specs.Objects.{fits_subjects}
use Rattle.bk_image.specs.Writing.{LevelFits, ObjectFits, Fits, blocks_fit, object_fits, counts_fit, written_image}
use Rattle.bk_base.proofs.FaultLemmas.{bind_ok, ok_is}
use Rattle.bk_image.proofs.Fronts.{image_grows}
use Rattle.bk_image.proofs.Only.{LevelIsSpelt}
use Rattle.bk_image.proofs.OnlyObjects.{ObjectIsSpelt}
use Rattle.bk_image.proofs.OnlyImage.{IsWritable, spelling_only}

and_first : (a b : Bool) → (a && b) ≡ true → a ≡ true
and_first a b both = grind (arith, both)

and_second : (a b : Bool) → (a && b) ≡ true → b ≡ true
and_second a b both = grind (arith, both)

object_is_spelt : (version : Version) (o : ObjectRec) → ObjectFits o → object_fits version o ≡ true → ObjectIsSpelt version o
object_is_spelt version o fits test = record {
  path = fits.path;
  row = fits.row;
  rest = and_second (nat_lt (length o.words) 65536 && blocks_fit o.facts.kind o.facts.blocks) (fits_subjects (subjects_of version) o.facts.row) test;
  blocks =
      and_second (nat_lt (length o.words) 65536) (blocks_fit o.facts.kind o.facts.blocks)
      (and_first (nat_lt (length o.words) 65536 && blocks_fit o.facts.kind o.facts.blocks) (fits_subjects (subjects_of version) o.facts.row) test);
}

objects_are_spelt : (version : Version) (objects : List ObjectRec) → All ObjectFits objects → list_all (object_fits version) objects ≡ true → All (ObjectIsSpelt version) objects
objects_are_spelt version [] fits test = All-nil (ObjectIsSpelt version)
objects_are_spelt version (o ∷ objects) fits test =
    All-cons (ObjectIsSpelt version) o objects
    (object_is_spelt version o (All-head ObjectFits o objects fits) (and_first (object_fits version o) (list_all (object_fits version) objects) test))
    (objects_are_spelt version objects (All-tail ObjectFits o objects fits) (and_second (object_fits version o) (list_all (object_fits version) objects) test))

-- the levels of an image can be said in the version that is for it
levels_are_spelt : (levels : List Level) → All LevelFits levels → list_all (has_only_below 16) levels ≡ true → All (LevelIsSpelt One) levels
levels_are_spelt [] fits test = All-nil (LevelIsSpelt One)
levels_are_spelt (level ∷ levels) fits test =
    All-cons (LevelIsSpelt One) level levels
    (All-head LevelFits level levels fits, and_first (has_only_below 16 level) (list_all (has_only_below 16) levels) test)
    (levels_are_spelt levels (All-tail LevelFits level levels fits) (and_second (has_only_below 16 level) (list_all (has_only_below 16) levels) test))

levels_said_for : (subjects : ℕ) (levels : List Level) → All LevelFits levels → All (LevelIsSpelt (if can_say One subjects levels then One else Two)) levels
levels_said_for subjects levels fits = by (can_say One subjects levels) refl
  where
    by : (b : Bool) → can_say One subjects levels ≡ b → All (LevelIsSpelt (if b then One else Two)) levels
    by true is = levels_are_spelt levels fits (and_second (nat_le subjects 32) (list_all (has_only_below 16) levels) is)
    by false is = fits

is_writable : (image : Image) → Fits image → counts_fit image ≡ true → IsWritable image
is_writable image fits counts = record {
  levels = levels_said_for (length image.subjects) image.levels fits.levels;
  subjects = fits.subjects;
  objects = objects_are_spelt (version_for image) image.objects fits.objects (and_second _ (list_all (object_fits (version_for image)) image.objects) counts);
  holds = fits.holds;
}

-- ---- what is written

-- where its fields fit, an image's spelling is read as that image alone
pub image_only : (image : Image) → Fits image → counts_fit image ≡ true → (other : Image) (n : ℕ) → image_of (spelling image) ≡ Ok (other, n) → (other ≡ image) × (n ≡ length (spelling image))
image_only image fits counts other n e =
    let same = spelling_only image (is_writable image fits counts) [] (other, n) (ap image_of (append-nil (spelling image)) ∙ e) in
    (λ i. (same i).0, λ i. (same i).1)

chosen : {A : Type 0} (b : Bool) (r : Result A ImageFault) (d : ImageFault) (y : A) → cond b r (Err d) ≡ Ok y → (b ≡ true) × (r ≡ Ok y)
chosen true r d y e = (refl, e)
chosen false r d y e = absurd cc

-- what is written is read as the image to its end, whatever follows
pub written_again : (image : Image) → Fits image → (bytes : List ℕ) → written_image image ≡ Ok bytes → (more : List ℕ) → image_of (bytes ++ more) ≡ Ok (image, length bytes)
unfolding written_image
written_again image fits bytes e more =
    let c = chosen (counts_fit image) (image_of (spelling image) >>= λ i. Ok (spelling image)) (record { at = 0; field = field.Counts }) bytes e in
    let b = bind_ok (image_of (spelling image)) (λ i. Ok (spelling image)) bytes c.1 in
    let only = image_only image fits c.0 b.0.0 b.0.1 b.1 in
    let found : image_of (spelling image) ≡ Ok (image, length (spelling image)) = b.1 ∙ (λ i. Ok (only.0 i, only.1 i)) in
    let whole : take (length (spelling image)) (spelling image) ≡ spelling image = ap (take (length (spelling image))) (sym (append-nil (spelling image))) ∙ take_at (spelling image) [] (length (spelling image)) refl in
    let again : image_of (spelling image ++ more) ≡ Ok (image, length (spelling image)) = ap (λ (t : List ℕ). image_of (t ++ more)) (sym whole) ∙ image_grows (spelling image) image (length (spelling image)) found more in
    subst (λ (t : List ℕ). image_of (t ++ more) ≡ Ok (image, length t)) (ok_is (spelling image) bytes b.2) again

-- the same of what a function returned
pub is_written : {Y : Type 0} (image : Image) (view : Y → List ℕ) (r : Result Y (Stop ImageFault)) → IfOk r (λ y. Fits image) → Gives view r (written_image image) → IfOk r (λ y. (more : List ℕ) → image_of (view y ++ more) ≡ Ok (image, length (view y)))
is_written image view (Ok y) fits given = written_again image fits (view y) given
is_written image view (Err e) fits given = tt
