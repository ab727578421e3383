-- Objects in the order of their paths: what is found at a place, what is not found, and one more at the end.
use Rattle.std.proofs.Common.{◌≡◌, ℕ, zero, suc, ◌+◌, ◌-◌, ◌<◌, ◌≤◌, true, false, cond, List, [], ◌∷◌, ◌++◌, length, map, get_or, Some, None, Err, Ordering}
use Rattle.std.proofs.Common.{Less, Equal, Greater, is_eq, is_lt, refl, sym, ap, subst, ◌∙◌, arith, inl, inr, ◌⊎◌, length-append}
use Rattle.std.proofs.lemmas.Bool.{cases_lt}
use Rattle.std.proofs.lemmas.Option.{slice_get-get_or}
use Rattle.std.proofs.lemmas.List.{get_or_append_left}
use Rattle.std.proofs.Math.Seq.{get_or-append_seam}
use Rattle.std.specs.Prelude.{option_map}
use Rattle.std.specs.Ordering.{eq_by_cmp, ordering_index, ordering_reverse}
use Rattle.std.specs.Cmp.{tied_itself}
use Rattle.std.specs.List.Sorted.{IsNonDecreasingBy, IsBinarySearchResult}
use Rattle.std.specs.FinMap as finmap
use Rattle.std.proofs.lemmas.List.Sorted.{searchable_from_sorted}
use Rattle.bk_path.specs.Paths.{Path, path_cmp}
use Rattle.bk_path.specs.Orders.{path_total, path_apart}
use Rattle.bk_state.specs.State.{Object}
use Rattle.bk_state.specs.Start.{object_from}
use Rattle.bk_state.specs.declared.image.ObjectRec.{ObjectRec}
use Rattle.bk_image.specs.Parts.{last}
use Rattle.bk_image.specs.Objects.{objects_in, facts_at, path_follows}
use Rattle.bk_image.specs.Views.{IsAscending}

abbrev pub entries_of : List ObjectRec → List (Path × Object)
entries_of objects = map (λ o. (o.path, object_from o)) objects

get_entries : (objects : List ObjectRec) (path : Path) → finmap.get (objects_in objects) path ≡ finmap.find path_cmp path (entries_of objects)
unfolding objects_in
get_entries objects path = finmap.get-from_entries path_total (entries_of objects) path

less : (o : Ordering) → is_lt o ≡ true → o ≡ Less
less Less h = refl
less Equal h = cc
less Greater h = cc

-- the order turned round
below_back : (p q : Path) → path_cmp p q ≡ Less → path_cmp q p ≡ Greater
below_back p q h = path_total.antisymm q p ∙ ap ordering_reverse h

not_tied : (p q : Path) → path_cmp p q ≡ Less → eq_by_cmp path_cmp q p ≡ false
not_tied p q h = ap is_eq (below_back p q h)

pub ascending_tail : (o : ObjectRec) (objects : List ObjectRec) → IsAscending (o ∷ objects) → IsAscending objects
ascending_tail o objects up = λ i j d lt in_range. up (suc i) (suc j) d (omega (arith, lt)) (omega (arith, in_range))

-- ---- the searched place

module _ (path : Path) where
  found_at : (objects : List ObjectRec) (place : ℕ) (d : ObjectRec) → IsAscending objects → place < length objects → path_cmp (get_or objects place d).path path ≡ Equal
      → finmap.find path_cmp path (entries_of objects) ≡ Some (object_from (get_or objects place d))
  found_at [] place d up in_range tied = absurd (omega (arith, in_range))
  found_at (o ∷ objects) zero d up in_range tied =
      let same : o.path ≡ path = path_apart o.path path tied in
      ap (λ b. cond b (Some (object_from o)) (finmap.find path_cmp path (entries_of objects))) (ap (λ p. eq_by_cmp path_cmp path p) same ∙ ap is_eq (tied_itself path_total path))
  found_at (o ∷ objects) (suc place) d up in_range tied =
      let same : (get_or objects place d).path ≡ path = path_apart _ path tied in
      let lower : path_cmp o.path path ≡ Less = subst (λ p. path_cmp o.path p ≡ Less) same (up 0 (suc place) d (omega arith) in_range) in
      ap (λ b. cond b (Some (object_from o)) (finmap.find path_cmp path (entries_of objects))) (not_tied o.path path lower)
      ∙ found_at objects place d (ascending_tail o objects up) (omega (arith, in_range)) tied

  none_at : (objects : List ObjectRec) → ((k : ℕ) (d : ObjectRec) → k < length objects → is_eq (path_cmp (get_or objects k d).path path) ≡ false) → finmap.find path_cmp path (entries_of objects) ≡ None
  none_at [] apart = refl
  none_at (o ∷ objects) apart =
      ap (λ b. cond b (Some (object_from o)) (finmap.find path_cmp path (entries_of objects))) (turned o.path (apart 0 o (omega arith)))
      ∙ none_at objects (λ k d lt. apart (suc k) d (omega (arith, lt)))
    where
      reversed : (o : Ordering) → is_eq o ≡ false → is_eq (ordering_reverse o) ≡ false
      reversed Less h = refl
      reversed Equal h = cc
      reversed Greater h = refl

      turned : (p : Path) → is_eq (path_cmp p path) ≡ false → eq_by_cmp path_cmp path p ≡ false
      turned p h = ap is_eq (path_total.antisymm path p) ∙ reversed (path_cmp p path) h

  rising : (objects : List ObjectRec) → IsAscending objects → IsNonDecreasingBy (λ o. ordering_index (path_cmp o.path path)) objects
  rising objects up = searchable_from_sorted path_total (λ o. o.path) objects path (λ k d low in_range. ap is_lt (below_back (get_or objects k d).path (get_or objects (k + 1) d).path (up k (k + 1) d (omega arith) in_range)))

  -- what the search by halves tells of the object at the path
  pub searched_some : (objects : List ObjectRec) (place : ℕ) → IsAscending objects → place < length objects → ((d : ObjectRec) → path_cmp (get_or objects place d).path path ≡ Equal)
      → (d : ObjectRec) → facts_at (objects_in objects) path ≡ Some (get_or objects place d).facts
  searched_some objects place up in_range tied d = ap (option_map (λ o. o.facts)) (get_entries objects path ∙ found_at objects place d up in_range (tied d))

  pub searched_none : (objects : List ObjectRec) (place : ℕ) → IsAscending objects → place ≤ length objects → IsBinarySearchResult (λ (o : ObjectRec). path_cmp o.path path) objects (Err place) → facts_at (objects_in objects) path ≡ None
  searched_none objects place up in_range parted = ap (option_map (λ o. o.facts)) (get_entries objects path ∙ none_at objects apart)
    where
      apart : (k : ℕ) (d : ObjectRec) → k < length objects → is_eq (path_cmp (get_or objects k d).path path) ≡ false
      apart k d lt = by (cases_lt k place)
        where
          by : (k < place) ⊎ (place ≤ k) → is_eq (path_cmp (get_or objects k d).path path) ≡ false
          by (inl below) = ap is_eq ((parted (rising objects up)).0 k d (omega arith) below)
          by (inr from) = ap is_eq ((parted (rising objects up)).1 k d from lt)

-- ---- one more object

last_is : (objects : List ObjectRec) (d : ObjectRec) → 0 < length objects → last objects ≡ Some (get_or objects (length objects - 1) d)
last_is objects d some = slice_get-get_or objects (length objects - 1) d (omega (arith, some))

-- the last object stands below a path that follows
below_next : (objects : List ObjectRec) (path : Path) (d : ObjectRec) → 0 < length objects → path_follows (last objects) path ≡ true → path_cmp (get_or objects (length objects - 1) d).path path ≡ Less
below_next objects path d some follows = less _ (ap (λ o. path_follows o path) (sym (last_is objects d some)) ∙ follows)

pub ascending_push : (objects : List ObjectRec) (o : ObjectRec) → IsAscending objects → path_follows (last objects) o.path ≡ true → IsAscending (objects ++ o ∷ [])
ascending_push objects o up follows i j d lt in_range = by (cases_lt j (length objects))
  where
    many : length (objects ++ o ∷ []) ≡ length objects + 1
    many = length-append objects (o ∷ [])

    old : (k : ℕ) → k < length objects → get_or (objects ++ o ∷ []) k d ≡ get_or objects k d
    old k below = get_or_append_left objects (o ∷ []) d k below

    new : get_or (objects ++ o ∷ []) (length objects) d ≡ o
    new = get_or-append_seam objects o [] d

    under : (k : ℕ) → k < length objects → path_cmp (get_or objects k d).path o.path ≡ Less
    under k below = near (cases_lt k (length objects - 1))
      where
        top : path_cmp (get_or objects (length objects - 1) d).path o.path ≡ Less
        top = below_next objects o.path d (omega (arith, below)) follows

        near : (k < length objects - 1) ⊎ (length objects - 1 ≤ k) → path_cmp (get_or objects k d).path o.path ≡ Less
        near (inl lower) = path_total.trans (get_or objects k d).path (get_or objects (length objects - 1) d).path o.path (up k (length objects - 1) d lower (omega (arith, below))) top
        near (inr here) = let is : length objects - 1 ≡ k = omega (arith, here, below) in ap (λ n. path_cmp (get_or objects n d).path o.path) (sym is) ∙ top

    by : (j < length objects) ⊎ (length objects ≤ j) → path_cmp (get_or (objects ++ o ∷ []) i d).path (get_or (objects ++ o ∷ []) j d).path ≡ Less
    by (inl below) = (λ n. path_cmp (old i (omega (arith, lt, below)) n).path (old j below n).path) ∙ up i j d lt below
    by (inr from) =
        let is : j ≡ length objects = omega (arith, from, in_range, many) in
        let low : i < length objects = omega (arith, lt, is) in
        ap (λ n. path_cmp (get_or (objects ++ o ∷ []) i d).path (get_or (objects ++ o ∷ []) n d).path) is
        ∙ (λ n. path_cmp (old i low n).path (new n).path)
        ∙ under i low
