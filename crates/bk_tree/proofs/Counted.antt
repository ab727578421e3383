-- The objects are counted over the places, and no cell that governs is overdrawn.
use Rattle.std.proofs.Common.{◌≡◌, ℕ, suc, ◌≤◌, List, [], ◌∷◌, length, Option, Some, None, refl, arith}
use Rattle.std.specs.Prelude.{IsSome}
use Rattle.bk_base.specs.Maps.{IsDistinct}
use Rattle.bk_base.proofs.Totals.{total_of}
use Rattle.std.specs.FinMap.{find, get}
use Rattle.std.proofs.lemmas.List.Sums.{sum_by-cons}
use Rattle.bk_path.specs.Paths.{Path, path_cmp}
use Rattle.bk_quota.specs.Charges.{used_in, governing_in, quota_in}
use Rattle.bk_tree.specs.declared.place.Placed.{Placed}
use Rattle.bk_tree.specs.declared.place.Object.{Object}
use Rattle.bk_tree.specs.Objects.{Objects, facts_of}
use Rattle.bk_tree.specs.Kept.{IsKept}
use Rattle.bk_tree.specs.Places.{entries_from, IsApart, IsFull}
use Rattle.bk_tree.proofs.Found.{found-at}
use Rattle.bk_tree.proofs.Smaller.{quota_at}
use Rattle.bk_tree.proofs.Added.{governing_there}
use Rattle.bk_tree.proofs.Room.{governing-has_cell}

later : (place : Option Object) (places : List (Option Object)) → IsApart (place ∷ places) → IsApart places
later place places apart = λ i j x y hx hy same. let e = apart (suc i) (suc j) x y hx hy same in omega (arith, e)

-- no path is twice among the entries
pub distinct_entries : (n : ℕ) (places : List (Option Object)) → IsApart places → IsDistinct path_cmp (entries_from n places)
distinct_entries n [] apart = tt
distinct_entries n (None ∷ places) apart = distinct_entries (suc n) places (later None places apart)
distinct_entries n (Some a ∷ places) apart = (by (find path_cmp a.path (entries_from (suc n) places)) refl, distinct_entries (suc n) places (later (Some a) places apart))
  where
    by : (o : Option Placed) → find path_cmp a.path (entries_from (suc n) places) ≡ o → o ≡ None
    by None is = refl
    by (Some x) is =
        let (k, slot, there) = found-at (suc n) places a.path x is in
        let e = apart 0 (suc k) a (record { path = a.path; facts = x.facts }) refl there refl in
        absurd (omega (arith, e))

-- where no place is free there are as many objects as places
pub full_total : (n : ℕ) (places : List (Option Object)) → IsFull places (length places) → total_of (λ q x. 1) (entries_from n places) ≡ length places
full_total n [] full = refl
full_total n (None ∷ places) full = absurd (full 0 (omega arith) refl)
full_total n (Some a ∷ places) full =
    let rest = full_total (suc n) places (λ k lt. full (suc k) (omega (arith, lt))) in
    omega (arith, rest, sum_by-cons (λ (e : Path × Placed). 1) (a.path, record { slot = n; facts = a.facts }) (entries_from (suc n) places))

-- the cell that governs an object that is there isn't overdrawn
pub governing_within : (m : Objects) → IsKept m → (path : Path) → IsSome (get m path) → used_in facts_of m (governing_in facts_of m path) ≤ quota_in facts_of m (governing_in facts_of m path)
governing_within m kept path there = by (get m path) refl there
  where
    by : (o : Option Placed) → get m path ≡ o → IsSome o → used_in facts_of m (governing_in facts_of m path) ≤ quota_in facts_of m (governing_in facts_of m path)
    by None is h = cc
    by (Some a) is h =
        let (c, hc) = governing_there m kept.parents path a is in
        let most = kept.within (governing_in facts_of m path) c hc (governing-has_cell facts_of m path) in
        let quota = quota_at m (governing_in facts_of m path) c hc in
        omega (arith, most, quota)
