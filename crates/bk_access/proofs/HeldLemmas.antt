-- The map from subject and slot to modes: what its changes answer at each key.
use Rattle.std.proofs.Common.{◌≡◌, ℕ, Bool, true, false, cond, ◌&&◌, ◌||◌, refl, sym, ap, ◌∙◌, ◌==◌, Ordering, Less, Equal, Greater, Option, None, Some, arith}
use Rattle.std.specs.Prelude.{if◌then◌else◌, not}
use Rattle.std.specs.Option.{unwrap_or}
use Rattle.std.specs.Ordering.{eq_by_cmp, nat_cmp, ordering_then}
use Rattle.std.specs.Cmp.{IsTotalOrder, nat_cmp_total, on_total, then_total, tied_then, unsigned_tied}
use Rattle.std.specs.FinMap as map
use Rattle.std.specs.FinMap.{IsAntisymmetric, nat_cmp-IsAntisymmetric}
use Rattle.std.proofs.lemmas.Bool.Decides.{nat_tests}
use Rattle.std.proofs.Math.Bool.{and-false, and-true, or-false}
use Rattle.bk_object.specs.declared.modes.Modes.{Modes}
use Rattle.bk_object.specs.Modes.{AccessMode, Read, Execute, Write, Append, has, no_modes, union, without}
use Rattle.bk_object.proofs.ModeLemmas.{has-union, has-without}
use Rattle.bk_access.specs.Held.{key_cmp, Held, modes_at, holds, nothing_held, with_modes, added, removed, cleared}

pub key_total : IsTotalOrder key_cmp
key_total = then_total (on_total (λ key. key.0) nat_cmp_total) (on_total (λ key. key.1) nat_cmp_total)

-- when two keys tie
pub tie : (s k t l : ℕ) → eq_by_cmp key_cmp (s, k) (t, l) ≡ ((s == t) && (k == l))
tie s k t l = sym (tied_then (nat_cmp s t) (nat_cmp k l)) ∙ (λ i. unsigned_tied s t i && unsigned_tied k l i)

tied_both : (a b : Ordering) → ordering_then a b ≡ Equal → (a ≡ Equal) × (b ≡ Equal)
tied_both Less b e = cc
tied_both Equal b e = (refl, e)
tied_both Greater b e = cc

pub key_apart : IsAntisymmetric key_cmp
key_apart x y e =
    let both = tied_both (nat_cmp x.0 y.0) (nat_cmp x.1 y.1) e in
    λ i. (nat_cmp-IsAntisymmetric x.0 y.0 both.0 i, nat_cmp-IsAntisymmetric x.1 y.1 both.1 i)

-- what the map says of modes: nothing of none
abbrev pub shown : Modes → Option Modes
shown modes = if modes.0 == 0 then None else Some modes

pub unwrap-shown : (modes : Modes) → unwrap_or (shown modes) no_modes ≡ modes
unwrap-shown modes = by (modes.0 == 0) refl
  where
    by : (b : Bool) → (modes.0 == 0) ≡ b → unwrap_or (if b then None else Some modes) no_modes ≡ modes
    by true e = let none : 0 ≡ modes.0 = grind (arith, nat_tests, e) in λ i. record { 0 = none i }
    by false e = refl

pub get-with_modes : (subject slot : ℕ) (modes : Modes) (held : Held) (s k : ℕ) →
    map.get (with_modes subject slot modes held).modes (s, k) ≡ cond ((s == subject) && (k == slot)) (shown modes) (map.get held.modes (s, k))
get-with_modes subject slot modes held s k = by (modes.0 == 0)
  where
    by : (b : Bool) → map.get (if b then map.remove held.modes (subject, slot) else map.insert held.modes (subject, slot) modes) (s, k)
        ≡ cond ((s == subject) && (k == slot)) (if b then None else Some modes) (map.get held.modes (s, k))
    by true = map.get-remove key_total held.modes (subject, slot) (s, k) ∙ ap (λ b. cond b None (map.get held.modes (s, k))) (tie s k subject slot)
    by false = map.get-insert key_total held.modes (subject, slot) modes (s, k) ∙ ap (λ b. cond b (Some modes) (map.get held.modes (s, k))) (tie s k subject slot)

pub get-cleared : (slot : ℕ) (held : Held) (s k : ℕ) → map.get (cleared slot held).modes (s, k) ≡ cond (not (k == slot)) (map.get held.modes (s, k)) None
get-cleared slot held s k = map.get-retain_keys held.modes (λ key. not (key.1 == slot)) (s, k) (λ x e. ap (λ key. not (key.1 == slot)) (sym (key_apart (s, k) x e)))

-- the modes at each key after those at one key were replaced
pub modes_at-with_modes : (subject slot : ℕ) (modes : Modes) (held : Held) (s k : ℕ) →
    modes_at (with_modes subject slot modes held) s k ≡ cond ((s == subject) && (k == slot)) modes (modes_at held s k)
modes_at-with_modes subject slot modes held s k = ap (λ found. unwrap_or found no_modes) (get-with_modes subject slot modes held s k) ∙ by ((s == subject) && (k == slot))
  where
    by : (b : Bool) → unwrap_or (cond b (shown modes) (map.get held.modes (s, k))) no_modes ≡ cond b modes (modes_at held s k)
    by true = unwrap-shown modes
    by false = refl

pub modes_at-cleared : (slot : ℕ) (held : Held) (s k : ℕ) → modes_at (cleared slot held) s k ≡ cond (k == slot) no_modes (modes_at held s k)
modes_at-cleared slot held s k = ap (λ found. unwrap_or found no_modes) (get-cleared slot held s k) ∙ by (k == slot)
  where
    by : (b : Bool) → unwrap_or (cond (not b) (map.get held.modes (s, k)) None) no_modes ≡ cond b no_modes (modes_at held s k)
    by true = refl
    by false = refl

is_same : (n : ℕ) → (n == n) ≡ true
is_same n = grind (arith, nat_tests)

pub not_same : (s t k l : ℕ) → ¬ ((s ≡ t) × (k ≡ l)) → ((s == t) && (k == l)) ≡ false
not_same s t k l other = by (s == t) (k == l) refl refl
  where
    by : (a b : Bool) → (s == t) ≡ a → (k == l) ≡ b → (a && b) ≡ false
    by true true e f = absurd (other (grind (arith, nat_tests, e), grind (arith, nat_tests, f)))
    by true false e f = refl
    by false b e f = refl

-- the modes at the key that changed are the new ones
pub at-with_modes : (subject slot : ℕ) (modes : Modes) (held : Held) → modes_at (with_modes subject slot modes held) subject slot ≡ modes
at-with_modes subject slot modes held =
    modes_at-with_modes subject slot modes held subject slot ∙ (λ i. cond (is_same subject i && is_same slot i) modes (modes_at held subject slot))

-- the modes at each other key stay
pub elsewhere-with_modes : (subject slot s k : ℕ) (modes : Modes) (held : Held) → ¬ ((s ≡ subject) × (k ≡ slot)) → modes_at (with_modes subject slot modes held) s k ≡ modes_at held s k
elsewhere-with_modes subject slot s k modes held other =
    modes_at-with_modes subject slot modes held s k ∙ ap (λ b. cond b modes (modes_at held s k)) (not_same s subject k slot other)

pub at-cleared : (slot s : ℕ) (held : Held) → modes_at (cleared slot held) s slot ≡ no_modes
at-cleared slot s held = modes_at-cleared slot held s slot ∙ ap (λ b. cond b no_modes (modes_at held s slot)) (is_same slot)

pub elsewhere-cleared : (slot s k : ℕ) (held : Held) → ¬ (k ≡ slot) → modes_at (cleared slot held) s k ≡ modes_at held s k
elsewhere-cleared slot s k held other = modes_at-cleared slot held s k ∙ ap (λ b. cond b no_modes (modes_at held s k)) (by (k == slot) refl)
  where
    by : (b : Bool) → (k == slot) ≡ b → (k == slot) ≡ false
    by true e = absurd (other (grind (arith, nat_tests, e)))
    by false e = e

pub at-nothing : (slots s k : ℕ) → modes_at (nothing_held slots) s k ≡ no_modes
at-nothing slots s k = ap (λ found. unwrap_or found no_modes) (map.get-empty key_cmp (s, k))

has-none : (mode : AccessMode) → has no_modes mode ≡ false
has-none Read = refl
has-none Execute = refl
has-none Write = refl
has-none Append = refl

pub holds-nothing : (slots s k : ℕ) (mode : AccessMode) → holds (nothing_held slots) s k mode ≡ false
holds-nothing slots s k mode = ap (λ modes. has modes mode) (at-nothing slots s k) ∙ has-none mode

-- where a test of the key holds, the modes at the key are those at the one that was changed
moved : (subject slot s k : ℕ) (held : Held) → ((s == subject) && (k == slot)) ≡ true → modes_at held subject slot ≡ modes_at held s k
moved subject slot s k held same = by (s == subject) (k == slot) refl refl same
  where
    by : (a b : Bool) → (s == subject) ≡ a → (k == slot) ≡ b → (a && b) ≡ true → modes_at held subject slot ≡ modes_at held s k
    by true true e f same =
        let subjects : subject ≡ s = grind (arith, nat_tests, e) in
        let slots : slot ≡ k = grind (arith, nat_tests, f) in
        λ i. modes_at held (subjects i) (slots i)
    by true false e f same = cc
    by false b e f same = cc

pub holds-added : (subject slot s k : ℕ) (modes : Modes) (held : Held) (mode : AccessMode) →
    holds (added subject slot modes held) s k mode ≡ (holds held s k mode || (((s == subject) && (k == slot)) && has modes mode))
holds-added subject slot s k modes held mode =
    ap (λ set. has set mode) (modes_at-with_modes subject slot (union (modes_at held subject slot) modes) held s k) ∙ by ((s == subject) && (k == slot)) refl
  where
    by : (b : Bool) → ((s == subject) && (k == slot)) ≡ b → has (cond b (union (modes_at held subject slot) modes) (modes_at held s k)) mode ≡ (holds held s k mode || (b && has modes mode))
    by true same = has-union (modes_at held subject slot) modes mode ∙ ap (λ set. has set mode || has modes mode) (moved subject slot s k held same)
    by false other = sym (or-false (holds held s k mode))

pub holds-removed : (subject slot s k : ℕ) (modes : Modes) (held : Held) (mode : AccessMode) →
    holds (removed subject slot modes held) s k mode ≡ (holds held s k mode && not (((s == subject) && (k == slot)) && has modes mode))
holds-removed subject slot s k modes held mode =
    ap (λ set. has set mode) (modes_at-with_modes subject slot (without (modes_at held subject slot) modes) held s k) ∙ by ((s == subject) && (k == slot)) refl
  where
    by : (b : Bool) → ((s == subject) && (k == slot)) ≡ b → has (cond b (without (modes_at held subject slot) modes) (modes_at held s k)) mode ≡ (holds held s k mode && not (b && has modes mode))
    by true same = has-without (modes_at held subject slot) modes mode ∙ ap (λ set. has set mode && not (has modes mode)) (moved subject slot s k held same)
    by false other = sym (and-true (holds held s k mode))

pub holds-cleared : (slot s k : ℕ) (held : Held) (mode : AccessMode) → holds (cleared slot held) s k mode ≡ (holds held s k mode && not (k == slot))
holds-cleared slot s k held mode = ap (λ set. has set mode) (modes_at-cleared slot held s k) ∙ by (k == slot)
  where
    by : (b : Bool) → has (cond b no_modes (modes_at held s k)) mode ≡ (holds held s k mode && not b)
    by true = has-none mode ∙ sym (and-false (holds held s k mode))
    by false = sym (and-true (holds held s k mode))
