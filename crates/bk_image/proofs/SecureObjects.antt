-- What the checks of an accepted image say of each object of its state: root, parents, levels.
use Rattle.std.proofs.Common.{◌≡◌, ℕ, ◌≤◌, ◌<◌, Bool, true, false, not, ◌&&◌, List, [], ◌∷◌, length, Some, refl, sym, ap, subst, ◌∙◌, arith}
use Rattle.std.specs.Prelude.{option_map, nat_lt}
use Rattle.bk_level.specs.Levels.{dominates, level_at}
use Rattle.bk_object.specs.Kinds.{is_directory}
use Rattle.bk_object.specs.declared.facts.Facts.{Facts}
use Rattle.bk_path.specs.Paths.{Path, is_root}
use Rattle.bk_quota.specs.Charges.{passes}
use Rattle.bk_state.specs.State.{facts_at as facts_in_state, level_of}
use Rattle.bk_state.specs.Secure.{IsDirectoryAt}
use Rattle.bk_state.specs.Start.{state_of}
use Rattle.bk_state.specs.declared.image.Image.{Image}
use Rattle.bk_state.specs.declared.image.ObjectRec.{ObjectRec}
use Rattle.bk_image.specs.Parts.{last}
use Rattle.bk_image.specs.Subjects.{is_listed}
use Rattle.bk_image.specs.Objects.{objects_in, facts_at, has_cell, has_parent, dominates_above, fits_kind, fits_cell, fits_modes, fits_subjects, room}
use Rattle.bk_image.specs.Objects.{path_follows}
use Rattle.bk_image.specs.Accepted.{IsAccepted}
use Rattle.bk_image.proofs.SecureLists.{Stands, not_false, passes_both, lt_of}
use Rattle.bk_image.proofs.SecureFound.{found_facts, found_first, kept_passes}

-- the checks of an object that passed, after those before it
pub record IsChecked (image : Image) (before : List ObjectRec) (o : ObjectRec) : Type 0 where
  pub path : path_follows (last before) o.path ≡ true
  pub parent : not (is_root o.path) && not (has_parent (objects_in before) o.path) ≡ false
  pub root : is_root o.path && not (is_directory o.facts.kind) ≡ false
  pub kind : fits_kind image.lines before o.facts.kind o.facts.blocks ≡ true
  pub listed : is_listed image.levels o.facts.level ≡ true
  pub level : not (is_root o.path) && not (dominates_above image.levels (objects_in before) o.path o.facts.level) ≡ false
  pub quota : fits_cell (has_cell (objects_in before) o) o.facts.quota ≡ true
  pub modes : fits_modes o.facts.kind o.facts.row ≡ true
  pub subjects : fits_subjects (length image.subjects) o.facts.row ≡ true
  pub words : nat_lt (room o.facts) (length o.words) ≡ false

pub checked_at : (image : Image) → IsAccepted image → (o : ObjectRec) (at : Stands image.objects o) → IsChecked image at.front o
checked_at image accepted o at =
    let c = accepted.objects at.front o at.tail at.whole in
    record {
      path = not_false _ c.1.0;
      parent = c.1.1.0;
      root = c.1.1.1.1.0;
      kind = not_false _ c.1.1.1.1.1.0;
      listed = not_false _ c.1.1.1.1.1.1.0;
      level = c.1.1.1.1.1.1.1.0;
      quota = not_false _ c.1.1.1.1.1.1.1.1.1.0;
      modes = not_false _ c.1.1.1.1.1.1.1.1.1.1.0;
      subjects = not_false _ c.1.1.1.1.1.1.1.1.1.1.1.0;
      words = c.1.1.1.1.1.1.1.1.1.1.1.1.0;
    }

-- the first object is root, and a directory
pub root_stands : (image : Image) → IsAccepted image → (o : ObjectRec) × (objects : List ObjectRec) × (image.objects ≡ o ∷ objects) × (o.path ≡ []) × (is_directory o.facts.kind ≡ true)
root_stands image accepted = by image.objects refl accepted.counts.some_objects
  where
    is_empty : (path : Path) → is_root path ≡ true → path ≡ []
    is_empty [] h = refl
    is_empty (entry ∷ path) h = cc

    kind_is : (path : Path) (d : Bool) → path ≡ [] → is_root path && not d ≡ false → d ≡ true
    kind_is [] d e h = not_false d h
    kind_is (entry ∷ path) d e h = cc

    by : (objects : List ObjectRec) → image.objects ≡ objects → 1 ≤ length objects → (o : ObjectRec) × (rest : List ObjectRec) × (image.objects ≡ o ∷ rest) × (o.path ≡ []) × (is_directory o.facts.kind ≡ true)
    by [] is some = absurd (omega arith)
    by (o ∷ rest) is some =
        let c = checked_at image accepted o (record { front = []; tail = rest; whole = sym is }) in
        let path = is_empty o.path c.path in
        (o, rest, is, path, kind_is o.path (is_directory o.facts.kind) path c.root)

-- root is there
pub facts_of_root : (image : Image) → IsAccepted image → (facts : Facts) × (facts_at (objects_in image.objects) [] ≡ Some facts) × (is_directory facts.kind ≡ true)
facts_of_root image accepted =
    let (o, objects, all, path, is) = root_stands image accepted in
    let first : facts_at (objects_in image.objects) o.path ≡ Some o.facts = ap (λ (os : List ObjectRec). facts_at (objects_in os) o.path) all ∙ ap (option_map (λ x. x.facts)) (found_first o objects) in
    (o.facts, subst (λ p. facts_at (objects_in image.objects) p ≡ Some o.facts) path first, is)

-- a directory stands at the parent, and the object's level dominates the directory's
pub above : (image : Image) → IsAccepted image → (o : ObjectRec) (at : Stands image.objects o) (entry : ℕ) (path : Path) → o.path ≡ entry ∷ path →
    passes (λ facts. is_directory facts.kind && dominates (level_at image.levels o.facts.level) (level_at image.levels facts.level)) (facts_at (objects_in at.front) path) ≡ true
above image accepted o at entry path is =
    let c = checked_at image accepted o at in
    passes_both (λ facts. is_directory facts.kind) (λ facts. dominates (level_at image.levels o.facts.level) (level_at image.levels facts.level)) (facts_at (objects_in at.front) path)
    (not_false _ (subst (λ p. not (is_root p) && not (has_parent (objects_in at.front) p) ≡ false) is c.parent))
    (not_false _ (subst (λ p. not (is_root p) && not (dominates_above image.levels (objects_in at.front) p o.facts.level) ≡ false) is c.level))

-- what stands in the front stands in all objects
pub in_all : (test : Facts → Bool) (objects : List ObjectRec) (o : ObjectRec) (at : Stands objects o) (path : Path) → passes test (facts_at (objects_in at.front) path) ≡ true → passes test (facts_at (objects_in objects) path) ≡ true
in_all test objects o at path is = subst (λ all. passes test (facts_at (objects_in all) path) ≡ true) at.whole (kept_passes test at.front (o ∷ at.tail) path is)

pub root_secure : (image : Image) → IsAccepted image → IsDirectoryAt (state_of image) []
unfolding state_of objects_in
root_secure image accepted = let (facts, at, is) = facts_of_root image accepted in ap (passes (λ f. is_directory f.kind)) at ∙ is

pub parents_secure : (image : Image) → IsAccepted image → (entry : ℕ) (path : Path) (facts : Facts) → facts_in_state (state_of image) (entry ∷ path) ≡ Some facts →
    passes (λ above. is_directory above.kind && dominates (level_of (state_of image) facts) (level_of (state_of image) above)) (facts_in_state (state_of image) path) ≡ true
unfolding state_of objects_in
parents_secure image accepted entry path facts is =
    let f = found_facts image.objects (entry ∷ path) facts is in
    subst (λ (x : Facts). passes (λ above. is_directory above.kind && dominates (level_of (state_of image) x) (level_of (state_of image) above)) (facts_in_state (state_of image) path) ≡ true) f.facts_are
    (in_all (λ above. is_directory above.kind && dominates (level_at image.levels f.o.facts.level) (level_at image.levels above.level)) image.objects f.o f.stands path
    (above image accepted f.o f.stands entry path f.path_is))

pub levels_secure : (image : Image) → IsAccepted image → (path : Path) (facts : Facts) → facts_in_state (state_of image) path ≡ Some facts → facts.level < length (state_of image).fixed.levels
unfolding state_of objects_in
levels_secure image accepted path facts is =
    let f = found_facts image.objects path facts is in
    let c = checked_at image accepted f.o f.stands in
    subst (λ (x : Facts). x.level < length image.levels) f.facts_are (lt_of f.o.facts.level (length image.levels) c.listed)
