-- What the map of an image's objects has: the first object of each path, so that what the front has the whole has too.
use Rattle.std.proofs.Common.{◌≡◌, Bool, true, false, cond, List, [], ◌∷◌, ◌++◌, map, Option, Some, refl, sym, ap, ◌∙◌}
use Rattle.std.specs.Prelude.{option_map}
use Rattle.std.specs.Ordering.{eq_by_cmp, is_eq}
use Rattle.std.specs.Cmp.{tied_itself}
use Rattle.std.specs.FinMap as finmap
use Rattle.bk_object.specs.declared.facts.Facts.{Facts}
use Rattle.bk_path.specs.Paths.{Path, path_cmp}
use Rattle.bk_base.proofs.Totals.{tied}
use Rattle.bk_path.specs.Orders.{path_total, path_apart}
use Rattle.bk_quota.specs.Charges.{passes}
use Rattle.bk_state.specs.State.{Object}
use Rattle.bk_state.specs.Start.{object_from}
use Rattle.bk_state.specs.declared.image.ObjectRec.{ObjectRec}
use Rattle.bk_image.specs.Objects.{objects_in, facts_at}
use Rattle.bk_image.proofs.SecureLists.{Stands, stands_first, stands_later, mapped_some, passes_some}

abbrev entries_of : List ObjectRec → List (Path × Object)
entries_of objects = map (λ o. (o.path, object_from o)) objects

abbrev listed : Path → List ObjectRec → Option Object
listed path objects = finmap.find path_cmp path (entries_of objects)

pub get_listed : (objects : List ObjectRec) (path : Path) → finmap.get (objects_in objects) path ≡ listed path objects
unfolding objects_in
get_listed objects path = finmap.get-from_entries path_total (entries_of objects) path

-- the object of the path in the list
pub record Found (objects : List ObjectRec) (path : Path) (object : Object) : Type 0 where
  pub o : ObjectRec
  pub stands : Stands objects o
  pub path_is : o.path ≡ path
  pub object_is : object_from o ≡ object

listed_found : (path : Path) (object : Object) (objects : List ObjectRec) → listed path objects ≡ Some object → Found objects path object
listed_found path object [] is = cc
listed_found path object (o ∷ objects) is = by (eq_by_cmp path_cmp path o.path) refl is (listed_found path object objects)
  where
    by : (b : Bool) → eq_by_cmp path_cmp path o.path ≡ b → cond b (Some (object_from o)) (listed path objects) ≡ Some object → (listed path objects ≡ Some object → Found objects path object) → Found (o ∷ objects) path object
    by true same is rest = record { o = o; stands = stands_first o objects; path_is = sym (path_apart path o.path (tied (path_cmp path o.path) same)); object_is = cc }
    by false same is rest = let found = rest is in record { o = found.o; stands = stands_later o found.o objects found.stands; path_is = found.path_is; object_is = found.object_is }

pub found : (objects : List ObjectRec) (path : Path) (object : Object) → finmap.get (objects_in objects) path ≡ Some object → Found objects path object
found objects path object is = listed_found path object objects (sym (get_listed objects path) ∙ is)

-- the map has the first object of the list
pub found_first : (o : ObjectRec) (objects : List ObjectRec) → finmap.get (objects_in (o ∷ objects)) o.path ≡ Some (object_from o)
found_first o objects = get_listed (o ∷ objects) o.path ∙ ap (λ t. cond (is_eq t) (Some (object_from o)) (listed o.path objects)) (tied_itself path_total o.path)

-- what the map of the front has, that of the whole has
listed_kept : (front more : List ObjectRec) (path : Path) (object : Object) → listed path front ≡ Some object → listed path (front ++ more) ≡ Some object
listed_kept [] more path object is = cc
listed_kept (o ∷ front) more path object is = by (eq_by_cmp path_cmp path o.path) is (listed_kept front more path object)
  where
    by : (b : Bool) → cond b (Some (object_from o)) (listed path front) ≡ Some object → (listed path front ≡ Some object → listed path (front ++ more) ≡ Some object) → cond b (Some (object_from o)) (listed path (front ++ more)) ≡ Some object
    by true is rest = is
    by false is rest = rest is

pub kept : (front more : List ObjectRec) (path : Path) (facts : Facts) → facts_at (objects_in front) path ≡ Some facts → facts_at (objects_in (front ++ more)) path ≡ Some facts
kept front more path facts is =
    let (object, at, facts_are) = mapped_some (λ o. o.facts) (finmap.get (objects_in front) path) facts is in
    ap (option_map (λ o. o.facts)) (get_listed (front ++ more) path ∙ listed_kept front more path object (sym (get_listed front path) ∙ at)) ∙ ap Some facts_are

pub kept_passes : (test : Facts → Bool) (front more : List ObjectRec) (path : Path) → passes test (facts_at (objects_in front) path) ≡ true → passes test (facts_at (objects_in (front ++ more)) path) ≡ true
kept_passes test front more path is =
    let (facts, at, holds) = passes_some test (facts_at (objects_in front) path) is in
    ap (passes test) (kept front more path facts at) ∙ holds

-- the facts of the object of the path in the list
pub record FoundFacts (objects : List ObjectRec) (path : Path) (facts : Facts) : Type 0 where
  pub o : ObjectRec
  pub stands : Stands objects o
  pub path_is : o.path ≡ path
  pub facts_are : o.facts ≡ facts

pub found_facts : (objects : List ObjectRec) (path : Path) (facts : Facts) → facts_at (objects_in objects) path ≡ Some facts → FoundFacts objects path facts
found_facts objects path facts is =
    let (object, at, facts_are) = mapped_some (λ o. o.facts) (finmap.get (objects_in objects) path) facts is in
    let f = found objects path object at in
    record { o = f.o; stands = f.stands; path_is = f.path_is; facts_are = ap (λ x. x.facts) f.object_is ∙ facts_are }
