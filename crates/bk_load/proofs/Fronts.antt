-- Fronts of the objects of an accepted image: they ascend, the next object isn't among them, and they are a part of all.
use Rattle.std.proofs.Common.{◌≡◌, ◌≢◌, ℕ, zero, suc, ◌+◌, ◌<◌, ◌≤◌, List, [], ◌∷◌, ◌++◌, ◌&&◌, length, map as each_of, take, drop, get_or}
use Rattle.std.proofs.Common.{Option, Some, None, Less, Equal, cond, is_eq, refl, sym, ap, subst, ◌∙◌, arith, append_assoc, append-nil}
use Rattle.std.proofs.Common.{length-append}
use Rattle.std.proofs.Math.Seq.{get_or-append_seam}
use Rattle.std.proofs.lemmas.List.{map-append, take_more}
use Rattle.std.specs.Prelude.{option_map}
use Rattle.std.specs.Cmp.{tied_itself}
use Rattle.std.specs.FinMap as map
use Rattle.bk_level.specs.Levels.{dominates, level_at}
use Rattle.bk_object.specs.Kinds.{is_directory}
use Rattle.bk_object.specs.declared.facts.Facts.{Facts}
use Rattle.bk_path.specs.Paths.{path_cmp}
use Rattle.bk_path.specs.Orders.{path_total, path_apart}
use Rattle.bk_state.specs.State.{Object}
use Rattle.bk_state.specs.Start.{object_from}
use Rattle.bk_state.specs.declared.image.Image.{Image}
use Rattle.bk_state.specs.declared.image.ObjectRec.{ObjectRec}
use Rattle.bk_image.specs.Accepted.{IsAccepted}
use Rattle.bk_image.specs.Objects.{objects_in, facts_at}
use Rattle.bk_image.specs.Views.{IsAscending}
use Rattle.bk_image.proofs.Ordered.{ascending_push}
use Rattle.bk_image.proofs.SecureLists.{Stands, passes_some}
use Rattle.bk_image.proofs.SecureFound.{found, found_facts, found_first, kept}
use Rattle.bk_image.proofs.SecureObjects.{above, checked_at, in_all, root_stands}
use Rattle.bk_image.proofs.Shares.{from_place}
use Rattle.bk_load.proofs.Parts.{IsPart}

pub take_drop : {X : Type 0} (i : ℕ) (xs : List X) → take i xs ++ drop i xs ≡ xs
take_drop zero xs = refl
take_drop (suc i) [] = refl
take_drop (suc i) (x ∷ xs) = ap (λ ys. x ∷ ys) (take_drop i xs)

-- the value at a place stands behind those before it
abbrev pub stands_at : {X : Type 0} (xs : List X) (i : ℕ) (x : X) → i < length xs → x ≡ get_or xs i x → Stands xs x
stands_at xs i x lt is = record { front = take i xs; tail = drop (i + 1) xs; whole = ap (λ ys. take i xs ++ ys) (sym (from_place xs i x lt is)) ∙ take_drop i xs }

-- the next front has one value more
pub next_front : {X : Type 0} (xs : List X) (i : ℕ) (x : X) → i < length xs → x ≡ get_or xs i x → take (i + 1) xs ≡ take i xs ++ x ∷ []
next_front xs i x lt is = take_more xs i x lt ∙ ap (λ y. take i xs ++ y ∷ []) (sym is)

abbrev stands_more : {X : Type 0} (front more : List X) (x : X) → Stands front x → Stands (front ++ more) x
stands_more front more x at = record { front = at.front; tail = at.tail ++ more; whole = sym (append_assoc at.front (x ∷ at.tail) more) ∙ ap (λ ys. ys ++ more) at.whole }

module _ (image : Image) (accepted : IsAccepted image) where
  ascending_none : IsAscending []
  ascending_none i j d lt in_range = absurd (omega (arith, in_range))

  grows : (front more tail : List ObjectRec) → (front ++ more) ++ tail ≡ image.objects → IsAscending front → IsAscending (front ++ more)
  grows front [] tail whole up = subst (λ objects. IsAscending objects) (sym (append-nil front)) up
  grows front (o ∷ more) tail whole up =
      let moved : (front ++ o ∷ []) ++ more ≡ front ++ o ∷ more = append_assoc front (o ∷ []) more in
      let at : Stands image.objects o = record { front = front; tail = more ++ tail; whole = sym (append_assoc front (o ∷ more) tail) ∙ whole } in
      let one : IsAscending (front ++ o ∷ []) = ascending_push front o up (checked_at image accepted o at).path in
      subst (λ objects. IsAscending objects) moved (grows (front ++ o ∷ []) more tail (ap (λ objects. objects ++ tail) moved ∙ whole) one)

  -- each front ascends
  pub ascending : (front tail : List ObjectRec) → front ++ tail ≡ image.objects → IsAscending front
  ascending front tail whole = grows [] front tail whole ascending_none

  module _ (o : ObjectRec) (at : Stands image.objects o) where
    -- what stands before an object has a lower path
    below : (x : ObjectRec) → Stands at.front x → path_cmp x.path o.path ≡ Less
    below x in_front =
        let up : IsAscending (at.front ++ o ∷ []) = ascending (at.front ++ o ∷ []) at.tail (append_assoc at.front (o ∷ []) at.tail ∙ at.whole) in
        let i = length in_front.front in
        let j = length at.front in
        let fewer : i < j = omega (arith, ap length in_front.whole, length-append in_front.front (x ∷ in_front.tail)) in
        let all : j < length (at.front ++ o ∷ []) = omega (arith, length-append at.front (o ∷ [])) in
        let first : get_or (at.front ++ o ∷ []) i o ≡ x =
        ap (λ objects. get_or objects i o) (sym (ap (λ objects. objects ++ o ∷ []) in_front.whole) ∙ append_assoc in_front.front (x ∷ in_front.tail) (o ∷ [])) ∙ get_or-append_seam in_front.front x (in_front.tail ++ o ∷ []) o in
        let second : get_or (at.front ++ o ∷ []) j o ≡ o = get_or-append_seam at.front o [] o in
        (λ k. path_cmp (sym first k).path (sym second k).path) ∙ up i j o fewer all

    -- no object before it has its path
    pub not_before : map.get (objects_in at.front) o.path ≡ None
    not_before = by (map.get (objects_in at.front) o.path) refl
      where
        by : (there : Option Object) → map.get (objects_in at.front) o.path ≡ there → there ≡ None
        by None is = refl
        by (Some object) is =
            let f = found at.front o.path object is in
            let less = below f.o f.stands in
            let tie : path_cmp f.o.path o.path ≡ Equal = ap (λ p. path_cmp p o.path) f.path_is ∙ tied_itself path_total o.path in
            absurd (cc (sym less ∙ tie))

    -- the objects before it are a part of all
    pub front_part : IsPart (objects_in at.front) (objects_in image.objects)
    front_part = record {
      kept = λ p facts is. subst (λ objects. facts_at (objects_in objects) p ≡ Some facts) at.whole (kept at.front (o ∷ at.tail) p facts is);
      closed = λ entry p facts is.
          let f = found_facts at.front (entry ∷ p) facts is in
          let more = stands_more at.front (o ∷ at.tail) f.o f.stands in
          let in_whole : Stands image.objects f.o = record { front = more.front; tail = more.tail; whole = more.whole ∙ at.whole } in
          let test = λ (x : Facts). is_directory x.kind && dominates (level_at image.levels f.o.facts.level) (level_at image.levels x.level) in
          let (parent, there, _) = passes_some test (facts_at (objects_in at.front) p) (in_all test at.front f.o f.stands p (above image accepted f.o in_whole entry p f.path_is)) in
          (parent, there);
    }

    -- one object more at the end of the list is one more in the map
    pub next_object : map.insert (objects_in at.front) o.path (object_from o) ≡ objects_in (at.front ++ o ∷ [])
    unfolding objects_in
    next_object =
        let entries = each_of (λ (x : ObjectRec). (x.path, object_from x)) at.front in
        sym (ap (λ es. map.from_entries {R = path_cmp} es) (map-append (λ (x : ObjectRec). (x.path, object_from x)) at.front (o ∷ []))
        ∙ map.from_entries_push path_total path_apart entries o.path (object_from o) (sym (map.get-from_entries path_total entries o.path) ∙ not_before))

    -- the object is among all
    pub in_whole : facts_at (objects_in image.objects) o.path ≡ Some o.facts
    in_whole =
        let one : facts_at (objects_in (at.front ++ o ∷ [])) o.path ≡ Some o.facts =
        ap (option_map (λ (x : Object). x.facts)) (ap (λ m. map.get m o.path) (sym next_object) ∙ map.get-insert path_total (objects_in at.front) o.path (object_from o) o.path
        ∙ ap (λ t. cond (is_eq t) (Some (object_from o)) (map.get (objects_in at.front) o.path)) (tied_itself path_total o.path)) in
        subst (λ objects. facts_at (objects_in objects) o.path ≡ Some o.facts) (append_assoc at.front (o ∷ []) at.tail ∙ at.whole) (kept (at.front ++ o ∷ []) at.tail o.path o.facts one)

  -- where the front has an object, it has root; so the next object isn't root
  pub below_root : (i : ℕ) (o : ObjectRec) → 1 ≤ i → (lt : i < length image.objects) → (is : o ≡ get_or image.objects i o) → o.path ≢ []
  below_root zero o some lt is root = absurd (omega (arith, some))
  below_root (suc i) o some lt is root =
      let (first, rest, all, path, _) = root_stands image accepted in
      let none : map.get (objects_in (take (suc i) image.objects)) o.path ≡ None = not_before o (stands_at image.objects (suc i) o lt is) in
      let there : map.get (objects_in (take (suc i) image.objects)) first.path ≡ Some (object_from first) =
      ap (λ objects. map.get (objects_in (take (suc i) objects)) first.path) all ∙ found_first first (take i rest) in
      let same : o.path ≡ first.path = root ∙ sym path in
      cc (sym none ∙ ap (map.get (objects_in (take (suc i) image.objects))) same ∙ there)
