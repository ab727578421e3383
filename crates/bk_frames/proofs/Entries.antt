-- The maps of a list of segments.
use Rattle.std.proofs.Common.{◌≡◌, ℕ, ◌+◌, ◌≤◌, ◌≢◌, inl, inr, Bool, true, false, cond, List, [], ◌∷◌, ◌++◌, map, Some, None, is_eq, refl, sym}
use Rattle.std.proofs.Common.{ap, subst, ◌∙◌, arith}
use Rattle.std.specs.Prelude.{option_map}
use Rattle.std.specs.Ordering.{nat_cmp, eq_by_cmp}
use Rattle.std.specs.Cmp.{nat_cmp_total, tied_itself}
use Rattle.std.specs.FinMap.{find, insert, from_entries, get-from_entries, from_entries_push, same_map, nat_cmp-IsAntisymmetric}
use Rattle.std.proofs.lemmas.Option.{same_Some}
use Rattle.bk_base.specs.Maps.{map_values, IsDistinct}
use Rattle.bk_base.proofs.Totals.{tied}
use Rattle.bk_base.proofs.MapValues.{get-map_values}
use Rattle.bk_frames.specs.declared.segments.Segment.{Segment}
use Rattle.bk_frames.specs.Extents.{Extent, AreApart}
use Rattle.bk_frames.specs.Segments.{IsStacked, compacted, entries_of, extents_of, extent_of}
use Rattle.bk_frames.proofs.Stacked.{below_limit}

-- numbers that compare as equal are the same
pub same_number : (m n : ℕ) → eq_by_cmp nat_cmp m n ≡ true → m ≡ n
same_number m n e = nat_cmp-IsAntisymmetric m n (tied (nat_cmp m n) e)

pub number_itself : (n : ℕ) → eq_by_cmp nat_cmp n n ≡ true
number_itself n = ap is_eq (tied_itself nat_cmp_total n)

-- an entry for each segment
abbrev pub each_of : {Y : Type 0} → (Extent → Y) → List Segment → List (ℕ × Y)
each_of f segs = map (λ s. (s.slot, f (extent_of s))) segs

module _ {Y : Type 0} (f : Extent → Y) where
  -- a look-up among changed values, the map of them, and the entries of two lists
  pub find-each_of : (q : ℕ) (segs : List Segment) → find nat_cmp q (each_of f segs) ≡ option_map f (find nat_cmp q (entries_of segs))
  find-each_of q [] = refl
  find-each_of q (s ∷ ss) = ap (cond (eq_by_cmp nat_cmp q s.slot) (Some (f (extent_of s)))) (find-each_of q ss) ∙ by (eq_by_cmp nat_cmp q s.slot)
    where
      by : (b : Bool) → cond b (Some (f (extent_of s))) (option_map f (find nat_cmp q (entries_of ss))) ≡ option_map f (cond b (Some (extent_of s)) (find nat_cmp q (entries_of ss)))
      by true = refl
      by false = refl

  pub values_is : (segs : List Segment) → map_values f (extents_of segs) ≡ from_entries (each_of f segs)
  values_is segs = same_map nat_cmp_total nat_cmp-IsAntisymmetric _ _ (λ q.
      get-map_values nat_cmp f (extents_of segs) q
      ∙ ap (option_map f) (get-from_entries nat_cmp_total (entries_of segs) q)
      ∙ sym (find-each_of q segs)
      ∙ sym (get-from_entries nat_cmp_total (each_of f segs) q))

  pub each_of-append : (ss ts : List Segment) → each_of f (ss ++ ts) ≡ each_of f ss ++ each_of f ts
  each_of-append [] ts = refl
  each_of-append (s ∷ ss) ts = ap (λ es. (s.slot, f (extent_of s)) ∷ es) (each_of-append ss ts)

-- an entry more, where the values of the others may be made by another function
pub values-push-to : {Y : Type 0} (f g : Extent → Y) (segs new : List Segment) (slot : ℕ) (y : Y) → each_of g new ≡ each_of f segs ++ (slot, y) ∷ [] → find nat_cmp slot (entries_of segs) ≡ None →
    map_values g (extents_of new) ≡ insert (map_values f (extents_of segs)) slot y
values-push-to f g segs new slot y is free =
    values_is g new ∙ ap from_entries is
    ∙ from_entries_push nat_cmp_total nat_cmp-IsAntisymmetric (each_of f segs) slot y (find-each_of f slot segs ∙ ap (option_map f) free)
    ∙ ap (λ m. insert m slot y) (sym (values_is f segs))

-- the same for one function
pub values-push : {Y : Type 0} (f : Extent → Y) (segs new : List Segment) (slot : ℕ) (y : Y) → each_of f new ≡ each_of f segs ++ (slot, y) ∷ [] → find nat_cmp slot (entries_of segs) ≡ None →
    map_values f (extents_of new) ≡ insert (map_values f (extents_of segs)) slot y
values-push f segs new slot y is free = values-push-to f f segs new slot y is free

-- moving down keeps which slots there are, each once, and the sizes
pub free-compacted : (q at : ℕ) (ss : List Segment) → find nat_cmp q (entries_of ss) ≡ None → find nat_cmp q (entries_of (compacted at ss)) ≡ None
free-compacted q at [] free = refl
free-compacted q at (s ∷ ss) free = by (eq_by_cmp nat_cmp q s.slot) free (free-compacted q (at + s.blocks) ss)
  where
    by : (b : Bool) → cond b (Some (extent_of s)) (find nat_cmp q (entries_of ss)) ≡ None → (find nat_cmp q (entries_of ss) ≡ None → find nat_cmp q (entries_of (compacted (at + s.blocks) ss)) ≡ None) →
        cond b (Some (record { first = at; blocks = s.blocks })) (find nat_cmp q (entries_of (compacted (at + s.blocks) ss))) ≡ None
    by true h rest = cc
    by false h rest = rest h

pub distinct-compacted : (at : ℕ) (ss : List Segment) → IsDistinct nat_cmp (entries_of ss) → IsDistinct nat_cmp (entries_of (compacted at ss))
distinct-compacted at [] distinct = tt
distinct-compacted at (s ∷ ss) distinct = (free-compacted s.slot (at + s.blocks) ss distinct.0, distinct-compacted (at + s.blocks) ss distinct.1)

pub sizes-compacted : (at : ℕ) (ss : List Segment) → each_of (λ e. e.blocks) (compacted at ss) ≡ each_of (λ e. e.blocks) ss
sizes-compacted at [] = refl
sizes-compacted at (s ∷ ss) = ap (λ es. (s.slot, s.blocks) ∷ es) (sizes-compacted (at + s.blocks) ss)

-- a segment that is found stands between the blocks
pub found_within : (at limit q : ℕ) (e : Extent) (ss : List Segment) → IsStacked at limit ss → find nat_cmp q (entries_of ss) ≡ Some e → (at ≤ e.first) × (e.first + e.blocks ≤ limit)
found_within at limit q e [] stacked h = cc
found_within at limit q e (s ∷ ss) stacked h = by (eq_by_cmp nat_cmp q s.slot) h (found_within (s.first + s.blocks) limit q e ss stacked.2)
  where
    by : (b : Bool) → cond b (Some (extent_of s)) (find nat_cmp q (entries_of ss)) ≡ Some e → (find nat_cmp q (entries_of ss) ≡ Some e → (s.first + s.blocks ≤ e.first) × (e.first + e.blocks ≤ limit)) → (at ≤ e.first) × (e.first + e.blocks ≤ limit)
    by true h rest =
        let same : extent_of s ≡ e = same_Some (extent_of s) e h in
        subst (λ x. (at ≤ x.first) × (x.first + x.blocks ≤ limit)) same (stacked.0, below_limit (s.first + s.blocks) limit ss stacked.2)
    by false h rest = (omega (arith, stacked.0, (rest h).0), (rest h).1)

-- two segments that are found under different slots are apart
pub found_apart : (at limit p q : ℕ) (e f : Extent) (ss : List Segment) → IsStacked at limit ss → find nat_cmp p (entries_of ss) ≡ Some e → find nat_cmp q (entries_of ss) ≡ Some f → p ≢ q → AreApart e f
found_apart at limit p q e f [] stacked hp hq differ = cc
found_apart at limit p q e f (s ∷ ss) stacked hp hq differ =
    by (eq_by_cmp nat_cmp p s.slot) (eq_by_cmp nat_cmp q s.slot) refl refl hp hq (λ a b. found_apart (s.first + s.blocks) limit p q e f ss stacked.2 a b differ)
  where
    found : Extent → ℕ → Type 0
    found e q = find nat_cmp q (entries_of ss) ≡ Some e

    by : (b c : Bool) → eq_by_cmp nat_cmp p s.slot ≡ b → eq_by_cmp nat_cmp q s.slot ≡ c →
        cond b (Some (extent_of s)) (find nat_cmp p (entries_of ss)) ≡ Some e → cond c (Some (extent_of s)) (find nat_cmp q (entries_of ss)) ≡ Some f → (found e p → found f q → AreApart e f) → AreApart e f
    by true true pb qb h k rest = absurd (differ (same_number p s.slot pb ∙ sym (same_number q s.slot qb)))
    by true false pb qb h k rest =
        let same : extent_of s ≡ e = same_Some (extent_of s) e h in
        inl (subst (λ x. x.first + x.blocks ≤ f.first) same (found_within (s.first + s.blocks) limit q f ss stacked.2 k).0)
    by false true pb qb h k rest =
        let same : extent_of s ≡ f = same_Some (extent_of s) f k in
        inr (subst (λ x. x.first + x.blocks ≤ e.first) same (found_within (s.first + s.blocks) limit p e ss stacked.2 h).0)
    by false false pb qb h k rest = rest h k
