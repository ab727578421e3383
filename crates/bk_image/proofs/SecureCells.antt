-- The cells of the state of an accepted image: who has one, its limit, and that no more is used than there is.
use Rattle.std.proofs.Common.{◌≡◌, ℕ, ◌≤◌, Bool, true, false, not, ◌&&◌, ◌||◌, ◌==◌, [], ◌∷◌, Option, Some, None, unwrap_or, refl, sym, ap, subst, ◌∙◌, ◌⊎◌}
use Rattle.std.proofs.Common.{inl, inr}
use Rattle.std.specs.Prelude.{option_map, nat_lt}
use Rattle.bk_level.specs.Levels.{dominates, level_at}
use Rattle.bk_object.specs.Kinds.{is_directory}
use Rattle.bk_object.specs.declared.facts.Facts.{Facts}
use Rattle.bk_path.specs.Paths.{Path, is_root}
use Rattle.bk_quota.specs.Charges.{passes, is_upgraded_in}
use Rattle.bk_state.specs.Quota.{used, quota_at}
use Rattle.bk_state.specs.Secure.{HasCell}
use Rattle.bk_state.specs.Start.{state_of}
use Rattle.bk_state.specs.declared.image.Image.{Image}
use Rattle.bk_state.specs.declared.image.ObjectRec.{ObjectRec}
use Rattle.bk_image.specs.Objects.{Objects, objects_in, facts_at, has_cell, level_above, fits_cell, used_at}
use Rattle.bk_image.specs.Accepted.{IsAccepted}
use Rattle.bk_image.proofs.SecureLists.{Stands, passes_some, not_true, zero_of, le_of, within}
use Rattle.bk_image.proofs.SecureFound.{found_facts, kept}
use Rattle.bk_image.proofs.SecureObjects.{checked_at, above, facts_of_root}

-- an object below root has a cell where it is a directory at another level than its parent
has_cell_below : (objects : Objects) (o : ObjectRec) (entry : ℕ) (path : Path) (parent : Facts) → o.path ≡ entry ∷ path → facts_at objects path ≡ Some parent →
    has_cell objects o ≡ (is_directory o.facts.kind && not (parent.level == o.facts.level))
has_cell_below objects o entry path parent is at =
    ap (λ p. is_root p || is_directory o.facts.kind && not (level_above objects p == o.facts.level)) is
    ∙ ap (λ a. is_directory o.facts.kind && not (unwrap_or (option_map (λ facts. facts.level) a) 0 == o.facts.level)) at

upgraded_below : (objects : Objects) (entry : ℕ) (path : Path) (facts parent : Facts) → facts_at objects (entry ∷ path) ≡ Some facts → facts_at objects path ≡ Some parent →
    is_upgraded_in (λ object. object.facts) objects (entry ∷ path) ≡ (is_directory facts.kind && not (parent.level == facts.level))
upgraded_below objects entry path facts parent here at =
    ap (passes (λ facts. is_directory facts.kind && passes (λ above. not (above.level == facts.level)) (facts_at objects path))) here
    ∙ ap (λ a. is_directory facts.kind && passes (λ above. not (above.level == facts.level)) a) at

-- the test on the state, the one on the objects before, and the one on all objects are the same
pub record SameCell (image : Image) (o : ObjectRec) (at : Stands image.objects o) (path : Path) : Type 0 where
  pub before : is_upgraded_in (λ object. object.facts) (objects_in image.objects) path ≡ has_cell (objects_in at.front) o
  pub all : is_upgraded_in (λ object. object.facts) (objects_in image.objects) path ≡ has_cell (objects_in image.objects) o

same_cell : (image : Image) → IsAccepted image → (o : ObjectRec) (at : Stands image.objects o) (entry : ℕ) (path : Path) → o.path ≡ entry ∷ path →
    facts_at (objects_in image.objects) (entry ∷ path) ≡ Some o.facts → SameCell image o at (entry ∷ path)
same_cell image accepted o at entry path is here =
    let (parent, before, _) = passes_some (λ facts. is_directory facts.kind && dominates (level_at image.levels o.facts.level) (level_at image.levels facts.level)) (facts_at (objects_in at.front) path) (above image accepted o at entry path is) in
    let all : facts_at (objects_in image.objects) path ≡ Some parent = subst (λ objects. facts_at (objects_in objects) path ≡ Some parent) at.whole (kept at.front (o ∷ at.tail) path parent before) in
    let up = upgraded_below (objects_in image.objects) entry path o.facts parent here all in
    record {
      before = up ∙ sym (has_cell_below (objects_in at.front) o entry path parent is before);
      all = up ∙ sym (has_cell_below (objects_in image.objects) o entry path parent is all);
    }

abbrev HasCellIn : Objects → Path → Type 0
HasCellIn objects path = (path ≡ []) ⊎ (is_upgraded_in (λ object. object.facts) objects path ≡ true)

-- the object with the cell
pub record CellFound (image : Image) (path : Path) : Type 0 where
  pub o : ObjectRec
  pub stands : Stands image.objects o
  pub path_is : o.path ≡ path
  pub here : facts_at (objects_in image.objects) path ≡ Some o.facts
  pub before : has_cell (objects_in stands.front) o ≡ true
  pub all : has_cell (objects_in image.objects) o ≡ true

root_cell : (objects : Objects) (o : ObjectRec) → o.path ≡ [] → has_cell objects o ≡ true
root_cell objects o is = ap (λ p. is_root p || is_directory o.facts.kind && not (level_above objects p == o.facts.level)) is

cell_found : (image : Image) → IsAccepted image → (path : Path) → HasCellIn (objects_in image.objects) path → CellFound image path
cell_found image accepted [] cell =
    let (facts, at, _) = facts_of_root image accepted in
    let f = found_facts image.objects [] facts at in
    record {
      o = f.o;
      stands = f.stands;
      path_is = f.path_is;
      here = at ∙ ap Some (sym f.facts_are);
      before = root_cell (objects_in f.stands.front) f.o f.path_is;
      all = root_cell (objects_in image.objects) f.o f.path_is;
    }
cell_found image accepted (entry ∷ path) (inl root) = absurd (cc root)
cell_found image accepted (entry ∷ path) (inr up) =
    let (facts, at, _) = passes_some (λ facts. is_directory facts.kind && passes (λ above. not (above.level == facts.level)) (facts_at (objects_in image.objects) path)) (facts_at (objects_in image.objects) (entry ∷ path)) up in
    let f = found_facts image.objects (entry ∷ path) facts at in
    let here : facts_at (objects_in image.objects) (entry ∷ path) ≡ Some f.o.facts = at ∙ ap Some (sym f.facts_are) in
    let same = same_cell image accepted f.o f.stands entry path f.path_is here in
    record {
      o = f.o;
      stands = f.stands;
      path_is = f.path_is;
      here = here;
      before = sym same.before ∙ up;
      all = sym same.all ∙ up;
    }

abbrev quota_in_objects : Option Facts → ℕ
quota_in_objects facts = unwrap_or (option_map (λ f. f.quota) facts) 0

pub limits_secure : (image : Image) → IsAccepted image → (path : Path) → HasCell (state_of image) path → (1 ≤ quota_at (state_of image) path) × (quota_at (state_of image) path ≤ 3904)
unfolding state_of objects_in
limits_secure image accepted path cell =
    let f = cell_found image accepted path cell in
    let c = checked_at image accepted f.o f.stands in
    let quota : (1 ≤ f.o.facts.quota) × (f.o.facts.quota ≤ 3904) = within 1 3904 f.o.facts.quota (not_true _ (subst (λ b. fits_cell b f.o.facts.quota ≡ true) f.before c.quota)) in
    subst (λ facts. (1 ≤ quota_in_objects facts) × (quota_in_objects facts ≤ 3904)) (sym f.here) quota

pub no_limits_secure : (image : Image) → IsAccepted image → (path : Path) → ¬ HasCell (state_of image) path → quota_at (state_of image) path ≡ 0
unfolding state_of objects_in
no_limits_secure image accepted path none = by (facts_at (objects_in image.objects) path) refl
  where
    cell : (o : ObjectRec) (at : Stands image.objects o) (p : Path) → o.path ≡ p → facts_at (objects_in image.objects) p ≡ Some o.facts → has_cell (objects_in at.front) o ≡ true → HasCellIn (objects_in image.objects) p
    cell o at [] is here has = inl refl
    cell o at (entry ∷ p) is here has = inr ((same_cell image accepted o at entry p is here).before ∙ has)

    zero_at : (o : ObjectRec) (at : Stands image.objects o) → o.path ≡ path → facts_at (objects_in image.objects) path ≡ Some o.facts → (b : Bool) → has_cell (objects_in at.front) o ≡ b → o.facts.quota ≡ 0
    zero_at o at is here true has = absurd (none (cell o at path is here has))
    zero_at o at is here false has = zero_of o.facts.quota (subst (λ b. fits_cell b o.facts.quota ≡ true) has (checked_at image accepted o at).quota)

    by : (facts : Option Facts) → facts_at (objects_in image.objects) path ≡ facts → quota_in_objects (facts_at (objects_in image.objects) path) ≡ 0
    by None is = ap quota_in_objects is
    by (Some facts) is =
        let f = found_facts image.objects path facts is in
        let here : facts_at (objects_in image.objects) path ≡ Some f.o.facts = is ∙ ap Some (sym f.facts_are) in
        ap quota_in_objects here ∙ zero_at f.o f.stands f.path_is here (has_cell (objects_in f.stands.front) f.o) refl

pub quotas_secure : (image : Image) → IsAccepted image → (path : Path) → HasCell (state_of image) path → used (state_of image) path ≤ quota_at (state_of image) path
unfolding state_of objects_in
quotas_secure image accepted path cell =
    let f = cell_found image accepted path cell in
    let over = (accepted.quotas f.stands.front f.o f.stands.tail f.stands.whole).0 in
    let at_path : used_at (objects_in image.objects) f.o.path ≤ f.o.facts.quota = no_more _ _ _ f.all over in
    subst (λ facts. used_at (objects_in image.objects) path ≤ quota_in_objects facts) (sym f.here)
    (subst (λ p. used_at (objects_in image.objects) p ≤ f.o.facts.quota) f.path_is at_path)
  where
    no_more : (b : Bool) (quota n : ℕ) → b ≡ true → b && nat_lt quota n ≡ false → n ≤ quota
    no_more true quota n has h = le_of n quota h
    no_more false quota n has h = cc
