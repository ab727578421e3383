-- The list of free places.
use Rattle.std.proofs.Common.{◌≡◌, ◌≢◌, ◌⊎◌, inl, inr, ℕ, zero, suc, ◌+◌, ◌-◌, ◌<◌, ◌≤◌, List, [], ◌∷◌, ◌++◌, length, replicate, set, Option, Some, None, refl, sym, ap, ◌∙◌, arith, length-append}
use Rattle.std.specs.Prelude.{slice_get}
use Rattle.std.proofs.lemmas.Bool.{cases_lt}
use Rattle.std.proofs.lemmas.Option.{same_Some, slice_get_within}
use Rattle.std.proofs.lemmas.List.{length-replicate}
use Rattle.bk_tree.specs.declared.place.Object.{Object}
use Rattle.bk_tree.specs.Down.{down_to_1}
use Rattle.bk_tree.specs.Places.{IsFull}
use Rattle.bk_tree.specs.Whole.{IsVacant}
use Rattle.bk_tree.proofs.Written.{same_or_not, set-same, set-other}

-- a list with one more behind it
front_get : (xs : List ℕ) (x i : ℕ) → i < length xs → slice_get (xs ++ x ∷ []) i ≡ slice_get xs i
front_get [] x i lt = absurd (omega (arith, lt))
front_get (y ∷ xs) x zero lt = refl
front_get (y ∷ xs) x (suc i) lt = front_get xs x i (omega (arith, lt))

last_get : (xs : List ℕ) (x : ℕ) → slice_get (xs ++ x ∷ []) (length xs) ≡ Some x
last_get [] x = refl
last_get (y ∷ xs) x = last_get xs x

-- what is found there is the last, or was there before
which : (xs : List ℕ) (x i s : ℕ) → slice_get (xs ++ x ∷ []) i ≡ Some s → (slice_get xs i ≡ Some s) ⊎ ((i ≡ length xs) × (x ≡ s))
which xs x i s h = elim (cases_lt i (length xs)) [
  | inl lt ↦ inl (sym (front_get xs x i lt) ∙ h)
  | inr ge ↦
      let within = slice_get_within (xs ++ x ∷ []) i s h in
      let long = length-append xs (x ∷ []) in
      let at : i ≡ length xs = omega (arith, ge, within, long) in
      inr (at, same_Some x s (sym (last_get xs x) ∙ ap (slice_get (xs ++ x ∷ [])) (sym at) ∙ h))
]

module _ (places : List (Option Object)) (new : List ℕ) (slot : ℕ) (vacant : IsVacant places (new ++ slot ∷ [])) where
  pub popped : slice_get places slot ≡ Some None
  popped = vacant.vacant (length new) slot (last_get new slot)

  -- the last of the free places takes an object
  pub vacant-pop : (o : Object) → IsVacant (set places slot (Some o)) new
  vacant-pop o = record {
    vacant = λ i s h. set-other places slot s (Some o) (differs i s h) ∙ vacant.vacant i s (older i s h);
    once = λ i j s h k. vacant.once i j s (older i s h) (older j s k);
    all = λ s h. all s h (same_or_not s slot);
  }
    where
      within : slot < length places
      within = let none : Option Object = None in slice_get_within places slot none popped

      older : (i s : ℕ) → slice_get new i ≡ Some s → slice_get (new ++ slot ∷ []) i ≡ Some s
      older i s h = front_get new slot i (slice_get_within new i s h) ∙ h

      differs : (i s : ℕ) → slice_get new i ≡ Some s → s ≢ slot
      differs i s h same =
          let lt = slice_get_within new i s h in
          let at = vacant.once i (length new) s (older i s h) (last_get new slot ∙ ap Some (sym same)) in
          absurd (omega (arith, lt, at))

      all : (s : ℕ) → slice_get (set places slot (Some o)) s ≡ Some None → (s ≡ slot) ⊎ (s ≢ slot) → (i : ℕ) × (slice_get new i ≡ Some s)
      all s h (inl same) = absurd (cc (sym (set-same places slot (Some o) within) ∙ ap (slice_get (set places slot (Some o))) (sym same) ∙ h))
      all s h (inr differ) =
          let (i, at) = vacant.all s (sym (set-other places slot s (Some o) differ) ∙ h) in
          elim (which new slot i s at) [
            | inl there ↦ (i, there)
            | inr (last, same) ↦ absurd (differ (sym same))
          ]

-- a place becomes free
pub vacant-push : (places : List (Option Object)) (free : List ℕ) (slot : ℕ) (o : Object) → IsVacant places free → slice_get places slot ≡ Some (Some o) → IsVacant (set places slot None) (free ++ slot ∷ [])
vacant-push places free slot o vacant there = record {
  vacant = λ i s h. elim (which free slot i s h) [
    | inl old ↦ set-other places slot s None (differs i s old) ∙ vacant.vacant i s old
    | inr (last, same) ↦ ap (slice_get (set places slot None)) (sym same) ∙ set-same places slot None within
  ];
  once = λ i j s h k. once i j s (which free slot i s h) (which free slot j s k);
  all = λ s h. all s h (same_or_not s slot);
}
  where
    within : slot < length places
    within = slice_get_within places slot (Some o) there

    differs : (i s : ℕ) → slice_get free i ≡ Some s → s ≢ slot
    differs i s h same = absurd (cc (sym (vacant.vacant i s h) ∙ ap (slice_get places) same ∙ there))

    once : (i j s : ℕ) → (slice_get free i ≡ Some s) ⊎ ((i ≡ length free) × (slot ≡ s)) → (slice_get free j ≡ Some s) ⊎ ((j ≡ length free) × (slot ≡ s)) → i ≡ j
    once i j s (inl a) (inl b) = vacant.once i j s a b
    once i j s (inl a) (inr (b, same)) = absurd (differs i s a (sym same))
    once i j s (inr (a, same)) (inl b) = absurd (differs j s b (sym same))
    once i j s (inr (a, same)) (inr (b, too)) = a ∙ sym b

    all : (s : ℕ) → slice_get (set places slot None) s ≡ Some None → (s ≡ slot) ⊎ (s ≢ slot) → (i : ℕ) × (slice_get (free ++ slot ∷ []) i ≡ Some s)
    all s h (inl same) = (length free, last_get free slot ∙ ap Some (sym same))
    all s h (inr differ) =
        let (i, at) = vacant.all s (sym (set-other places slot s None differ) ∙ h) in
        (i, front_get free slot i (slice_get_within free i s at) ∙ at)

-- where the list has none, no place is free
pub none_free : (places : List (Option Object)) → IsVacant places [] → IsFull places (length places)
none_free places vacant place lt h = let (i, at) = vacant.all place h in cc at

-- another object at a place that has one
pub vacant-put : (places : List (Option Object)) (free : List ℕ) (slot : ℕ) (o p : Object) → IsVacant places free → slice_get places slot ≡ Some (Some o) → IsVacant (set places slot (Some p)) free
vacant-put places free slot o p vacant there = record {
  vacant = λ i s h. set-other places slot s (Some p) (λ same. absurd (cc (sym (vacant.vacant i s h) ∙ ap (slice_get places) same ∙ there))) ∙ vacant.vacant i s h;
  once = vacant.once;
  all = λ s h. all s h (same_or_not s slot);
}
  where
    all : (s : ℕ) → slice_get (set places slot (Some p)) s ≡ Some None → (s ≡ slot) ⊎ (s ≢ slot) → (i : ℕ) × (slice_get free i ≡ Some s)
    all s h (inl same) = absurd (cc (sym (set-same places slot (Some p) (slice_get_within places slot (Some o) there)) ∙ ap (slice_get (set places slot (Some p))) (sym same) ∙ h))
    all s h (inr differ) = vacant.all s (sym (set-other places slot s (Some p) differ) ∙ h)

-- ---- at first

down_at : (n i s : ℕ) → slice_get (down_to_1 n) i ≡ Some s → s + i ≡ n
down_at zero i s h = cc
down_at (suc n) zero s h = let is = same_Some (suc n) s h in omega (arith, is)
down_at (suc n) (suc i) s h = let rest = down_at n i s h in omega (arith, rest)

down_has : (n s : ℕ) → 1 ≤ s → s ≤ n → slice_get (down_to_1 n) (n - s) ≡ Some s
down_has zero s low high = absurd (omega (arith, low, high))
down_has (suc n) s low high = elim (cases_lt s (suc n)) [
  | inl less ↦
      let at : suc n - s ≡ suc (n - s) = omega (arith, less) in
      ap (slice_get (down_to_1 (suc n))) at ∙ down_has n s low (omega (arith, less))
  | inr most ↦
      let is : s ≡ suc n = omega (arith, most, high) in
      let at : suc n - s ≡ 0 = omega (arith, is) in
      ap (slice_get (down_to_1 (suc n))) at ∙ ap Some (sym is)
]

pub down_length : (n : ℕ) → length (down_to_1 n) ≡ n
down_length zero = refl
down_length (suc n) = omega (arith, down_length n)

free_at : (n s : ℕ) → s < n → slice_get (replicate {A = Option Object} n None) s ≡ Some None
free_at zero s lt = absurd (omega (arith, lt))
free_at (suc n) zero lt = refl
free_at (suc n) (suc s) lt = free_at n s (omega (arith, lt))

pub vacant-begun : (slots : ℕ) (o : Object) → 1 ≤ slots → IsVacant (set (replicate slots None) 0 (Some o)) (down_to_1 (slots - 1))
vacant-begun slots o some = record {
  vacant = λ i s h.
      let sum = down_at (slots - 1) i s h in
      let within = slice_get_within (down_to_1 (slots - 1)) i s h in
      let long = down_length (slots - 1) in
      set-other (replicate slots None) 0 s (Some o) (λ same. absurd (omega (arith, same, sum, within, long))) ∙ free_at slots s (omega (arith, sum, some));
  once = λ i j s h k. let a = down_at (slots - 1) i s h in let b = down_at (slots - 1) j s k in omega (arith, a, b);
  all = λ s h. all s h (same_or_not s 0);
}
  where
    none : Option Object
    none = None

    all : (s : ℕ) → slice_get (set (replicate slots None) 0 (Some o)) s ≡ Some None → (s ≡ 0) ⊎ (s ≢ 0) → (i : ℕ) × (slice_get (down_to_1 (slots - 1)) i ≡ Some s)
    all s h (inl same) =
        let long = length-replicate {A = Option Object} slots None in
        absurd (cc (sym (set-same (replicate slots None) 0 (Some o) (omega (arith, some, long))) ∙ ap (slice_get (set (replicate slots None) 0 (Some o))) (sym same) ∙ h))
    all s h (inr differ) =
        let within = slice_get_within (replicate slots none) s none (sym (set-other (replicate slots None) 0 s (Some o) differ) ∙ h) in
        let long = length-replicate {A = Option Object} slots None in
        (slots - 1 - s, down_has (slots - 1) s (omega (arith, differ)) (omega (arith, within, long)))
