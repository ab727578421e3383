-- The table of places: what it has after a write, and the map that it stands for.
use Rattle.std.proofs.Common.{◌≡◌, ◌≢◌, ◌⊎◌, inl, inr, ℕ, zero, suc, ◌+◌, ◌<◌, Bool, true, false, cond, not, List, [], ◌∷◌, length, replicate, set}
use Rattle.std.proofs.Common.{Option, Some, None, refl, sym, ap, ◌∙◌, arith, ◌==◌}
use Rattle.std.specs.Prelude.{slice_get, unwrap_or, option_map}
use Rattle.std.proofs.lemmas.Bool.Decides.{nat_tests}
use Rattle.std.proofs.lemmas.Option.{slice_get_within, same_Some}
use Rattle.std.specs.Ordering.{nat_cmp, eq_by_cmp}
use Rattle.std.specs.Cmp.{nat_cmp_total}
use Rattle.std.specs.FinMap.{find, get, insert, retain_keys, get-from_entries, get-insert, get-retain_keys, same_map, nat_cmp-IsAntisymmetric, FinMap, empty, get-empty, entries, from_entries}
use Rattle.bk_base.proofs.Totals.{total_of}
use Rattle.bk_base.proofs.Distinct.{total_of-from_entries}
use Rattle.bk_frames.specs.declared.table.Placed.{Placed}
use Rattle.bk_frames.specs.Extents.{Extent}
use Rattle.bk_frames.specs.Table.{extent_at, place_of, entries_from, extents_in, IsTable}
use Rattle.bk_frames.proofs.Entries.{same_number, number_itself}

pub same_or_not : (j k : ℕ) → (j ≡ k) ⊎ (j ≢ k)
same_or_not zero zero = inl refl
same_or_not zero (suc k) = inr (λ e. absurd (omega (arith, e)))
same_or_not (suc j) zero = inr (λ e. absurd (omega (arith, e)))
same_or_not (suc j) (suc k) = by (same_or_not j k)
  where
    by : (j ≡ k) ⊎ (j ≢ k) → (suc j ≡ suc k) ⊎ (suc j ≢ suc k)
    by (inl e) = inl (ap suc e)
    by (inr n) = inr (λ e. n (omega (arith, e)))

module _ {X : Type 0} where
  pub set-same : (xs : List X) (k : ℕ) (v : X) → k < length xs → slice_get (set xs k v) k ≡ Some v
  set-same [] k v lt = absurd (omega (arith, lt))
  set-same (x ∷ xs) zero v lt = refl
  set-same (x ∷ xs) (suc k) v lt = set-same xs k v (omega (arith, lt))

  pub set-other : (xs : List X) (k j : ℕ) (v : X) → j ≢ k → slice_get (set xs k v) j ≡ slice_get xs j
  set-other [] k j v n = refl
  set-other (x ∷ xs) zero zero v n = absurd (n refl)
  set-other (x ∷ xs) zero (suc j) v n = refl
  set-other (x ∷ xs) (suc k) zero v n = refl
  set-other (x ∷ xs) (suc k) (suc j) v n = set-other xs k j v (λ e. n (ap suc e))

-- numbers that differ don't compare as equal
pub other_number : (m n : ℕ) → m ≢ n → eq_by_cmp nat_cmp m n ≡ false
other_number m n differ = by (eq_by_cmp nat_cmp m n) refl
  where
    by : (b : Bool) → eq_by_cmp nat_cmp m n ≡ b → b ≡ false
    by true e = absurd (differ (same_number m n e))
    by false e = refl

-- no slot below the first has an entry
none_below : (n s : ℕ) (places : List (Option Placed)) → s < n → find nat_cmp s (entries_from n places) ≡ None
none_below n s [] lt = refl
none_below n s (None ∷ places) lt = none_below (suc n) s places (omega (arith, lt))
none_below n s (Some p ∷ places) lt = rw (other_number s n (λ e. absurd (omega (arith, e, lt)))) (none_below (suc n) s places (omega (arith, lt)))

found_from : (n k s : ℕ) (places : List (Option Placed)) → s ≡ n + k → find nat_cmp s (entries_from n places) ≡ option_map extent_at (place_of places k)
found_from n k s [] is = refl
found_from n zero s (None ∷ places) is = none_below (suc n) s places (omega (arith, is))
found_from n (suc k) s (None ∷ places) is = found_from (suc n) k s places (omega (arith, is))
found_from n zero s (Some p ∷ places) is =
    let same : s ≡ n = omega (arith, is) in
    rw (ap (λ m. eq_by_cmp nat_cmp m n) same ∙ number_itself n) refl
found_from n (suc k) s (Some p ∷ places) is = rw (other_number s n (λ e. absurd (omega (arith, e, is)))) (found_from (suc n) k s places (omega (arith, is)))

-- the map has what the slot's place has
pub get-extents : (places : List (Option Placed)) (s : ℕ) → get (extents_in places) s ≡ option_map extent_at (place_of places s)
get-extents places s = get-from_entries nat_cmp_total (entries_from 0 places) s ∙ found_from 0 s s places (omega arith)

-- what is found in the map stands at the slot's place
pub stands : (places : List (Option Placed)) (s : ℕ) (e : Extent) → get (extents_in places) s ≡ Some e → (p : Placed) × (place_of places s ≡ Some p) × (extent_at p ≡ e)
stands places s e h = by (place_of places s) refl (sym (get-extents places s) ∙ h)
  where
    by : (o : Option Placed) → place_of places s ≡ o → option_map extent_at o ≡ Some e → (p : Placed) × (place_of places s ≡ Some p) × (extent_at p ≡ e)
    by None is h = cc
    by (Some p) is h = (p, is, same_Some (extent_at p) e h)

pub no_place : (places : List (Option Placed)) (s : ℕ) → get (extents_in places) s ≡ None → place_of places s ≡ None
no_place places s h = by (place_of places s) (sym (get-extents places s) ∙ h)
  where
    by : (o : Option Placed) → option_map extent_at o ≡ None → o ≡ None
    by None h = refl
    by (Some p) h = cc

pub place_within : (places : List (Option Placed)) (s : ℕ) (p : Placed) → place_of places s ≡ Some p → s < length places
place_within places s p h = by (slice_get places s) refl h
  where
    by : (o : Option (Option Placed)) → slice_get places s ≡ o → unwrap_or o None ≡ Some p → s < length places
    by None is h = cc
    by (Some x) is h = slice_get_within places s x is

module _ (places : List (Option Placed)) (slot : ℕ) (v : Option Placed) where
  pub place-same : slot < length places → place_of (set places slot v) slot ≡ v
  place-same lt = ap (λ o. unwrap_or o None) (set-same places slot v lt)

  pub place-other : (s : ℕ) → s ≢ slot → place_of (set places slot v) s ≡ place_of places s
  place-other s n = ap (λ o. unwrap_or o None) (set-other places slot s v n)

  -- the map after the write, at each slot
  pub get-set : slot < length places → (s : ℕ) → get (extents_in (set places slot v)) s ≡ cond (eq_by_cmp nat_cmp s slot) (option_map extent_at v) (get (extents_in places) s)
  get-set lt s = get-extents (set places slot v) s ∙ by (eq_by_cmp nat_cmp s slot) refl
    where
      by : (b : Bool) → eq_by_cmp nat_cmp s slot ≡ b → option_map extent_at (place_of (set places slot v) s) ≡ cond b (option_map extent_at v) (get (extents_in places) s)
      by true e = ap (λ k. option_map extent_at (place_of (set places slot v) k)) (same_number s slot e) ∙ ap (option_map extent_at) (place-same lt)
      by false e = ap (option_map extent_at) (place-other s (λ same. absurd (cc (sym e ∙ ap (λ k. eq_by_cmp nat_cmp k slot) same ∙ number_itself slot)))) ∙ sym (get-extents places s)

pub extents-put : (places : List (Option Placed)) (slot : ℕ) (p : Placed) → slot < length places → extents_in (set places slot (Some p)) ≡ insert (extents_in places) slot (extent_at p)
extents-put places slot p lt = same_map nat_cmp_total nat_cmp-IsAntisymmetric _ _ (λ s. get-set places slot (Some p) lt s ∙ sym (get-insert nat_cmp_total (extents_in places) slot (extent_at p) s))

get-without : (m : FinMap nat_cmp Extent) (slot s : ℕ) → get (retain_keys m (λ k. not (k == slot))) s ≡ cond (not (s == slot)) (get m s) None
get-without m slot s = get-retain_keys m (λ k. not (k == slot)) s (λ x same. ap (λ k. not (k == slot)) (sym (nat_cmp-IsAntisymmetric s x same)))

-- nothing stands for the slot any more
pub extents-drop : (places : List (Option Placed)) (slot : ℕ) → slot < length places → extents_in (set places slot None) ≡ retain_keys (extents_in places) (λ k. not (k == slot))
extents-drop places slot lt = same_map nat_cmp_total nat_cmp-IsAntisymmetric _ _ (λ s. get-set places slot None lt s ∙ by s (eq_by_cmp nat_cmp s slot) (s == slot) refl refl ∙ sym (get-without (extents_in places) slot s))
  where
    by : (s : ℕ) (a b : Bool) → eq_by_cmp nat_cmp s slot ≡ a → (s == slot) ≡ b → cond a None (get (extents_in places) s) ≡ cond (not b) (get (extents_in places) s) None
    by s true true e f = refl
    by s false false e f = refl
    by s true false e f = let same = same_number s slot e in absurd (grind (arith, nat_tests, f, same))
    by s false true e f =
        let same : s ≡ slot = grind (arith, nat_tests, f) in
        absurd (cc (sym e ∙ ap (λ k. eq_by_cmp nat_cmp k slot) same ∙ number_itself slot))

-- where nothing stands for the slot, nothing goes
pub extents-stay : (places : List (Option Placed)) (slot : ℕ) → place_of places slot ≡ None → extents_in places ≡ retain_keys (extents_in places) (λ k. not (k == slot))
extents-stay places slot none = same_map nat_cmp_total nat_cmp-IsAntisymmetric _ _ (λ s. by s (s == slot) refl ∙ sym (get-without (extents_in places) slot s))
  where
    by : (s : ℕ) (b : Bool) → (s == slot) ≡ b → get (extents_in places) s ≡ cond (not b) (get (extents_in places) s) None
    by s false f = refl
    by s true f =
        let same : s ≡ slot = grind (arith, nat_tests, f) in
        get-extents places s ∙ ap (λ k. option_map extent_at (place_of places k)) same ∙ ap (option_map extent_at) none

-- tables without a segment
pub empty_places : (n s : ℕ) → place_of (replicate n None) s ≡ None
empty_places zero s = refl
empty_places (suc n) zero = refl
empty_places (suc n) (suc s) = empty_places n s

pub empty_owners : (n b : ℕ) → b < n → slice_get (replicate {A = Option ℕ} n None) b ≡ Some None
empty_owners zero b lt = absurd (omega (arith, lt))
empty_owners (suc n) zero lt = refl
empty_owners (suc n) (suc b) lt = empty_owners n b (omega (arith, lt))

nobody : (n b s : ℕ) → slice_get (replicate {A = Option ℕ} n None) b ≡ Some (Some s) → ⊥
nobody zero b s h = cc
nobody (suc n) zero s h = cc
nobody (suc n) (suc b) s h = nobody n b s h

pub empty_table : (first slots size : ℕ) → IsTable first (replicate slots None) (replicate size None)
empty_table first slots size = record {
  owned = λ s p h. absurd (cc (sym (empty_places slots s) ∙ h));
  held = λ b s h. absurd (nobody size b s h);
}

-- the map of no segments
pub nothing : (slots : ℕ) → extents_in (replicate slots None) ≡ empty
nothing slots = same_map nat_cmp_total nat_cmp-IsAntisymmetric _ _ (λ s. get-extents (replicate slots None) s ∙ ap (option_map extent_at) (empty_places slots s) ∙ sym (get-empty nat_cmp s))

no_entries : (n slots : ℕ) → entries_from n (replicate slots None) ≡ []
no_entries n zero = refl
no_entries n (suc slots) = no_entries (suc n) slots

pub none_taken : (slots : ℕ) → total_of (λ (s : ℕ) (x : Extent). x.blocks) (entries (extents_in (replicate slots None))) ≡ 0
none_taken slots =
    ap (λ es. total_of (λ (s : ℕ) (x : Extent). x.blocks) (entries (from_entries {R = nat_cmp} es))) (no_entries 0 slots)
    ∙ total_of-from_entries nat_cmp nat_cmp-IsAntisymmetric nat_cmp_total (λ (s : ℕ) (x : Extent). x.blocks) [] tt
