-- What a list has once one place of it is written.
use Rattle.std.proofs.Common.{◌≡◌, ◌≢◌, ◌⊎◌, inl, inr, ℕ, zero, suc, ◌<◌, List, [], ◌∷◌, length}
use Rattle.std.proofs.Common.{Option, Some, None, refl, sym, ap, arith, set}
use Rattle.std.specs.Prelude.{slice_get}

pub same_or_not : (j k : ℕ) → (j ≡ k) ⊎ (j ≢ k)
same_or_not zero zero = inl refl
same_or_not zero (suc k) = inr (λ e. absurd (omega (arith, e)))
same_or_not (suc j) zero = inr (λ e. absurd (omega (arith, e)))
same_or_not (suc j) (suc k) = by (same_or_not j k)
  where
    by : (j ≡ k) ⊎ (j ≢ k) → (suc j ≡ suc k) ⊎ (suc j ≢ suc k)
    by (inl e) = inl (ap suc e)
    by (inr n) = inr (λ e. n (omega (arith, e)))

module _ {X : Type 0} where
  pub set-same : (xs : List X) (k : ℕ) (v : X) → k < length xs → slice_get (set xs k v) k ≡ Some v
  set-same [] k v lt = absurd (omega (arith, lt))
  set-same (x ∷ xs) zero v lt = refl
  set-same (x ∷ xs) (suc k) v lt = set-same xs k v (omega (arith, lt))

  pub set-other : (xs : List X) (k j : ℕ) (v : X) → j ≢ k → slice_get (set xs k v) j ≡ slice_get xs j
  set-other [] k j v n = refl
  set-other (x ∷ xs) zero zero v n = absurd (n refl)
  set-other (x ∷ xs) zero (suc j) v n = refl
  set-other (x ∷ xs) (suc k) zero v n = refl
  set-other (x ∷ xs) (suc k) (suc j) v n = set-other xs k j v (λ e. n (ap suc e))

  pub same_option : (o p : Option X) → ((x : X) → o ≡ Some x → p ≡ Some x) → ((x : X) → p ≡ Some x → o ≡ Some x) → o ≡ p
  same_option None None there back = refl
  same_option None (Some y) there back = back y refl
  same_option (Some x) p there back = sym (there x refl)
