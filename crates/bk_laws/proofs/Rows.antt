-- What rows have after a gift and after a rescission, and what a set within another has.
use Rattle.std.proofs.Common.{◌≡◌, ℕ, zero, suc, Bool, true, false, ◌&&◌, ◌||◌, not, List, [], ◌∷◌, refl, sym, ap, ◌∙◌, ◌==◌, arith, set, get_or}
use Rattle.std.proofs.Common.{replicate, ◌⊎◌, inl, inr}
use Rattle.std.proofs.lemmas.Bool.Decides.{nat_tests}
use Rattle.bk_level.proofs.LevelOrder.{and_first, and_both}
use Rattle.bk_object.specs.Modes.{AccessMode, Read, Execute, Write, Append, has, no_modes, union, without, is_within, only}
use Rattle.bk_object.specs.Rows.{in_row, given, rescinded}
use Rattle.bk_object.specs.declared.Modes.{Modes}
use Rattle.bk_object.proofs.ModeLemmas.{has-union, has-without}

-- ---- sets of modes

each_of : (read execute write append : Bool) → (read && execute && write && append) ≡ true → (read ≡ true) × (execute ≡ true) × (write ≡ true) × (append ≡ true)
each_of true true true true h = (refl, refl, refl, refl)
each_of true true true false h = cc
each_of true true false append h = cc
each_of true false write append h = cc
each_of false execute write append h = cc

implied : (a b : Bool) → (not a || b) ≡ true → a ≡ true → b ≡ true
implied true b h is = h
implied false b h is = cc

fits : (a b : Modes) → AccessMode → Bool
fits a b mode = not (has a mode) || has b mode

all_fit : (a b : Modes) → is_within a b ≡ true → (fits a b Read ≡ true) × (fits a b Execute ≡ true) × (fits a b Write ≡ true) × (fits a b Append ≡ true)
unfolding fits
all_fit a b all = each_of (fits a b Read) (fits a b Execute) (fits a b Write) (fits a b Append) all

-- a set within another has none but the other's modes
pub within : (a b : Modes) (mode : AccessMode) → is_within a b ≡ true → has a mode ≡ true → has b mode ≡ true
unfolding fits
within a b Read all h = implied (has a Read) (has b Read) (all_fit a b all).0 h
within a b Execute all h = implied (has a Execute) (has b Execute) (all_fit a b all).1 h
within a b Write all h = implied (has a Write) (has b Write) (all_fit a b all).2 h
within a b Append all h = implied (has a Append) (has b Append) (all_fit a b all).3 h

has-only : (mode : AccessMode) → has (only mode) mode ≡ true
has-only Read = refl
has-only Execute = refl
has-only Write = refl
has-only Append = refl

-- a set that the set of one mode is within has the mode
pub within-only : (mode : AccessMode) (modes : Modes) → is_within (only mode) modes ≡ true → has modes mode ≡ true
within-only mode modes all = within (only mode) modes mode all (has-only mode)

pub has-no_modes : (mode : AccessMode) → has no_modes mode ≡ true → ⊥
has-no_modes Read h = cc
has-no_modes Execute h = cc
has-no_modes Write h = cc
has-no_modes Append h = cc

-- ---- rows

-- a row of nothing
pub in_row-empty : (n s : ℕ) → get_or (replicate n no_modes) s no_modes ≡ no_modes
in_row-empty zero s = refl
in_row-empty (suc n) zero = refl
in_row-empty (suc n) (suc s) = in_row-empty n s

-- a row after a write: as it was there, or what was written
get_or_set : (row : List Modes) (i j : ℕ) (modes : Modes) →
    (get_or (set row i modes) j no_modes ≡ get_or row j no_modes) ⊎ ((j ≡ i) × (get_or (set row i modes) j no_modes ≡ modes))
get_or_set [] i j modes = inl refl
get_or_set (x ∷ row) zero zero modes = inr (refl, refl)
get_or_set (x ∷ row) zero (suc j) modes = inl refl
get_or_set (x ∷ row) (suc i) zero modes = inl refl
get_or_set (x ∷ row) (suc i) (suc j) modes = elim (get_or_set row i j modes) [ inl e ↦ inl e | inr (e, f) ↦ inr (ap suc e, f) ]

either : (a b : Bool) → (a || b) ≡ true → (a ≡ true) ⊎ (b ≡ true)
either true b e = inl refl
either false b e = inr e

or_left : (a b : Bool) → a ≡ true → (a || b) ≡ true
or_left true b e = refl
or_left false b e = cc

-- what a row has after a gift it had, or it was given
pub in_row-given : (s : ℕ) (modes : Modes) (row : List Modes) (j : ℕ) (mode : AccessMode) →
    has (in_row (given s modes row) j) mode ≡ true → (has (in_row row j) mode ≡ true) ⊎ ((j ≡ s) × (has modes mode ≡ true))
in_row-given s modes row j mode h = elim (get_or_set row s j (union (in_row row s) modes)) [
  | inl e ↦ inl (sym (ap (λ m. has m mode) e) ∙ h)
  | inr (at, e) ↦ elim (either (has (in_row row s) mode) (has modes mode) (sym (has-union (in_row row s) modes mode) ∙ sym (ap (λ m. has m mode) e) ∙ h)) [
    | inl old ↦ inl (ap (λ k. has (in_row row k) mode) at ∙ old)
    | inr new ↦ inr (at, new)
  ]
]

-- a gift takes nothing away
pub given_keeps : (s : ℕ) (modes : Modes) (row : List Modes) (j : ℕ) (mode : AccessMode) → has (in_row row j) mode ≡ true → has (in_row (given s modes row) j) mode ≡ true
given_keeps s modes row j mode h = elim (get_or_set row s j (union (in_row row s) modes)) [
  | inl e ↦ ap (λ m. has m mode) e ∙ h
  | inr (at, e) ↦ ap (λ m. has m mode) e ∙ has-union (in_row row s) modes mode ∙ or_left _ _ (sym (ap (λ k. has (in_row row k) mode) at) ∙ h)
]

-- what a row has after a rescission it had
pub in_row-rescinded : (s : ℕ) (modes : Modes) (row : List Modes) (j : ℕ) (mode : AccessMode) → has (in_row (rescinded s modes row) j) mode ≡ true → has (in_row row j) mode ≡ true
in_row-rescinded s modes row j mode h = elim (get_or_set row s j (without (in_row row s) modes)) [
  | inl e ↦ sym (ap (λ m. has m mode) e) ∙ h
  | inr (at, e) ↦ ap (λ k. has (in_row row k) mode) at ∙ and_first _ _ (sym (has-without (in_row row s) modes mode) ∙ sym (ap (λ m. has m mode) e) ∙ h)
]

-- a mode that isn't rescinded stays
pub rescinded_keeps : (s : ℕ) (modes : Modes) (row : List Modes) (j : ℕ) (mode : AccessMode) →
    has (in_row row j) mode ≡ true → not ((j == s) && has modes mode) ≡ true → has (in_row (rescinded s modes row) j) mode ≡ true
rescinded_keeps s modes row j mode h stays = elim (get_or_set row s j (without (in_row row s) modes)) [
  | inl e ↦ ap (λ m. has m mode) e ∙ h
  | inr (at, e) ↦ ap (λ m. has m mode) e ∙ has-without (in_row row s) modes mode ∙ and_both _ _ (sym (ap (λ k. has (in_row row k) mode) at) ∙ h) (apart (has modes mode) stays at)
]
  where
    apart : (b : Bool) → not ((j == s) && b) ≡ true → j ≡ s → not b ≡ true
    apart true k at = grind (arith, nat_tests, k, at)
    apart false k at = refl
