-- Used numbers by shares: what the objects of a list are charged, one after the other, and what their map says.
use Rattle.std.proofs.Common.{◌≡◌, ℕ, suc, ◌+◌, ◌<◌, Bool, true, false, T, ◌&&◌, List, [], ◌∷◌, length, map, drop, get_or, Less, is_lt, refl, sym, ap, subst}
use Rattle.std.proofs.Common.{◌∙◌, arith, Option, Some, None, Result, Ok}
use Rattle.std.specs.Prelude.{sum_by, if◌then◌else◌}
use Rattle.std.specs.FinMap as finmap
use Rattle.std.specs.FinMap.Entries.{below_all}
use Rattle.std.proofs.Math.Seq.{drop-cons}
use Rattle.std.proofs.lemmas.List.Sums.{sum_by-cons}
use Rattle.bk_object.specs.declared.facts.Facts.{Facts}
use Rattle.bk_path.specs.Paths.{Path, path_cmp, is_same}
use Rattle.bk_path.specs.Orders.{path_total, path_apart}
use Rattle.bk_quota.specs.Charges.{share_in}
use Rattle.bk_state.specs.State.{Object}
use Rattle.bk_state.specs.Start.{object_from}
use Rattle.bk_state.specs.declared.image.ObjectRec.{ObjectRec}
use Rattle.bk_image.specs.declared.fault.ImageField.TheVariants as field
use Rattle.bk_image.specs.declared.fault.ImageFault.{ImageFault}
use Rattle.bk_image.specs.declared.version.Version.{Version}
use Rattle.bk_image.specs.Parts.{fault, ◌>>=◌}
use Rattle.bk_image.specs.Objects.{Objects, objects_in, used_at, is_over, quotas_at, size}
use Rattle.bk_image.specs.Views.{IsAscending, first_of, part_of, share_at}
use Rattle.bk_image.proofs.Ordered.{entries_of, ascending_tail}

-- a list from a place on, by the value there
pub from_place : {X : Type 0} (xs : List X) (i : ℕ) (x : X) → i < length xs → x ≡ get_or xs i x → drop i xs ≡ x ∷ drop (i + 1) xs
from_place xs i x lt is =
    let next : suc i ≡ i + 1 = omega arith in
    drop-cons xs i x lt ∙ (λ n. sym is n ∷ drop (next n) xs)

-- ---- the entries of the map are the objects in their order

both : (a b : Bool) → T a → T b → T (a && b)
both true b p q = q
both false b p q = p

below : (p : Path) (objects : List ObjectRec) → ((k : ℕ) (d : ObjectRec) → k < length objects → path_cmp p (get_or objects k d).path ≡ Less) → T (below_all path_cmp p (entries_of objects))
below p [] under = tt
below p (o ∷ objects) under =
    both (is_lt (path_cmp p o.path)) (below_all path_cmp p (entries_of objects))
    (subst (λ c. T (is_lt c)) (sym (under 0 o (omega arith))) tt)
    (below p objects (λ k d lt. under (suc k) d (omega (arith, lt))))

in_order : (objects : List ObjectRec) → IsAscending objects → T (finmap.is_sorted path_cmp (entries_of objects))
in_order [] up = tt
in_order (o ∷ objects) up =
    both (below_all path_cmp o.path (entries_of objects)) (finmap.is_sorted path_cmp (entries_of objects))
    (below o.path objects (λ k d lt. up 0 (suc k) d (omega arith) (omega (arith, lt))))
    (in_order objects (ascending_tail o objects up))

entries-objects_in : (objects : List ObjectRec) → IsAscending objects → finmap.entries (objects_in objects) ≡ entries_of objects
unfolding objects_in
entries-objects_in objects up =
    let es = entries_of objects in
    let sorted = in_order objects up in
    ap finmap.entries (finmap.same_map path_total path_apart (finmap.from_entries es) (finmap.from_sorted es) (λ q. finmap.get-from_entries path_total es q ∙ sym (finmap.get-from_sorted path_cmp es q sorted)))
    ∙ finmap.entries-from_sorted path_cmp es sorted

-- ---- the sums

share_is : (all : Objects) (cell path : Path) (facts : Facts) → part_of cell (share_at all path facts) ≡ share_in (λ object. object.facts) all cell path facts
share_is all cell [] facts = by (is_same [] cell)
  where
    by : (b : Bool) → ◌≡◌ {A = ℕ} (if b then 0 else 0) 0
    by true = refl
    by false = refl
share_is all cell (entry ∷ path) facts = refl

sums : (all : Objects) (cell : Path) (objects : List ObjectRec) →
    sum_by (part_of cell) (map (λ o. share_at all o.path o.facts) objects) ≡ sum_by (λ (e : Path × Object). share_in (λ object. object.facts) all cell e.0 e.1.facts) (entries_of objects)
sums all cell [] = refl
sums all cell (o ∷ objects) =
    let rest = sums all cell objects in
    let here = share_is all cell o.path o.facts in
    let left = sum_by-cons (part_of cell) (share_at all o.path o.facts) (map (λ o. share_at all o.path o.facts) objects) in
    let right = sum_by-cons (λ (e : Path × Object). share_in (λ object. object.facts) all cell e.0 e.1.facts) (o.path, object_from o) (entries_of objects) in
    omega (arith, rest, here, left, right)

pub used_is : (objects : List ObjectRec) (cell : Path) → IsAscending objects →
    1 + sum_by (part_of cell) (map (λ o. share_at (objects_in objects) o.path o.facts) objects) ≡ used_at (objects_in objects) cell
used_is objects cell up =
    ap (λ n. 1 + n) (sums (objects_in objects) cell objects
    ∙ ap (sum_by (λ (e : Path × Object). share_in (λ object. object.facts) (objects_in objects) cell e.0 e.1.facts)) (sym (entries-objects_in objects up)))

-- ---- the first cell that is used over its limit

-- what is told of a place that was found; else what comes of the objects that are left
abbrev pub told : Option ℕ → Result (Unit {0}) ImageFault → Result (Unit {0}) ImageFault
told None left = left
told (Some at) left = fault at field.Quota

pub told_next : (version : Version) (all : Objects) (o : ObjectRec) (objects : List ObjectRec) (found : Option ℕ) (at : ℕ) →
    told found (quotas_at version all (o ∷ objects) at) ≡ told (first_of found at (is_over all o)) (quotas_at version all objects (at + size version o))
unfolding quotas_at
told_next version all o objects (Some place) at = refl
told_next version all o objects None at = by (is_over all o)
  where
    by : (b : Bool) → ((if b then fault at field.Quota else Ok (tt {0})) >>= λ passed. quotas_at version all objects (at + size version o)) ≡ told (if b then Some at else None) (quotas_at version all objects (at + size version o))
    by true = refl
    by false = refl

-- of no objects nothing is told
pub told_none : (version : Version) (all : Objects) (at : ℕ) → quotas_at version all [] at ≡ Ok (tt {0})
unfolding quotas_at
told_none version all at = refl
