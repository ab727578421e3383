-- The order of records: each stands above the one before it, and so the last has the greatest slot.
use Rattle.std.proofs.Common.{◌≡◌, ℕ, suc, ◌+◌, ◌-◌, ◌<◌, Bool, true, false, List, [], ◌∷◌, ◌++◌, length, Option, Some, None, refl, sym, ap, ◌∙◌, arith, nat_lt}
use Rattle.std.proofs.Common.{inl, inr}
use Rattle.std.specs.Prelude.{slice_get}
use Rattle.std.specs.List.{AllByRecursion}
use Rattle.std.proofs.Math.Seq.{get_or-append_seam}
use Rattle.std.proofs.lemmas.Bool.Decides.{nat_tests}
use Rattle.std.proofs.lemmas.List.{length-append}
use Rattle.std.proofs.lemmas.Option.{slice_get-get_or}
use Rattle.bk_system.specs.declared.TypedAt.{TypedAt}
use Rattle.bk_script.specs.Lines.{last, follows, is_below}
use Rattle.bk_script.specs.Script.{IsAbove, IsInOrder}

pub last-push : (xs : List TypedAt) (x : TypedAt) → last (xs ++ x ∷ []) ≡ Some x
last-push xs x =
    let len : length (xs ++ x ∷ []) ≡ length xs + 1 = length-append xs (x ∷ []) in
    let at : length (xs ++ x ∷ []) - 1 ≡ length xs = omega (arith, len) in
    let within : length xs < length (xs ++ x ∷ []) = omega (arith, len) in
    ap (slice_get (xs ++ x ∷ [])) at ∙ slice_get-get_or (xs ++ x ∷ []) (length xs) x within ∙ ap Some (get_or-append_seam xs x [] x)

pub last-one : (x : TypedAt) → last (x ∷ []) ≡ Some x
last-one x = last-push [] x

last-more : (x y : TypedAt) (xs : List TypedAt) → last (x ∷ y ∷ xs) ≡ last (y ∷ xs)
last-more x y xs =
    let at : length (x ∷ y ∷ xs) - 1 ≡ suc (length xs) = omega arith in
    let below : length (y ∷ xs) - 1 ≡ length xs = omega arith in
    ap (slice_get (x ∷ y ∷ xs)) at ∙ sym (ap (slice_get (y ∷ xs)) below)

-- each record follows the one before it, and the first follows what was there
abbrev pub Follow : Option TypedAt → List TypedAt → Type 0
Follow before [] = Unit {0}
Follow before (x ∷ xs) = (follows before x.slot x.line ≡ true) × Follow (Some x) xs

above_from_follows : (x y : TypedAt) → follows (Some x) y.slot y.line ≡ true → IsAbove x y
above_from_follows x y h = by (nat_lt x.slot y.slot) refl where
  by : (b : Bool) → nat_lt x.slot y.slot ≡ b → IsAbove x y
  by true e = inl (grind (arith, nat_tests, e))
  by false e = inr (grind (arith, nat_tests, e, h), grind (arith, nat_tests, e, h))

follows_from_above : (x y : TypedAt) → IsAbove x y → follows (Some x) y.slot y.line ≡ true
follows_from_above x y (inl h) = grind (arith, nat_tests, h)
follows_from_above x y (inr h) = grind (arith, nat_tests, h.0, h.1)

pub in_order_from_follow : (before : Option TypedAt) (xs : List TypedAt) → Follow before xs → IsInOrder xs
in_order_from_follow before [] h = tt
in_order_from_follow before (x ∷ []) h = tt
in_order_from_follow before (x ∷ y ∷ xs) h = (above_from_follows x y h.1.0, in_order_from_follow (Some x) (y ∷ xs) h.1)

follow_after : (x : TypedAt) (xs : List TypedAt) → IsInOrder (x ∷ xs) → Follow (Some x) xs
follow_after x [] h = tt
follow_after x (y ∷ xs) h = (follows_from_above x y h.0, follow_after y xs h.1)

pub follow_from_in_order : (xs : List TypedAt) → IsInOrder xs → Follow None xs
follow_from_in_order [] h = tt
follow_from_in_order (x ∷ xs) h = (refl, follow_after x xs h)

-- where the last slot is below, all are
pub slots-below : (slots : ℕ) (xs : List TypedAt) → IsInOrder xs → is_below (last xs) slots ≡ true → AllByRecursion (λ x. x.slot < slots) xs
slots-below slots [] order h = tt
slots-below slots (x ∷ []) order h =
    let one : is_below (Some x) slots ≡ true = ap (λ l. is_below l slots) (sym (last-one x)) ∙ h in
    (grind (arith, nat_tests, one), tt)
slots-below slots (x ∷ y ∷ xs) order h =
    let rest = slots-below slots (y ∷ xs) order.1 (ap (λ l. is_below l slots) (sym (last-more x y xs)) ∙ h) in
    (under x y order.0 rest.0, rest) where
      under : (x y : TypedAt) → IsAbove x y → y.slot < slots → x.slot < slots
      under x y (inl h) below = omega (arith, h, below)
      under x y (inr h) below = omega (arith, h.0, below)

pub below-last : (slots : ℕ) (xs : List TypedAt) → AllByRecursion (λ x. x.slot < slots) xs → is_below (last xs) slots ≡ true
below-last slots [] h = refl
below-last slots (x ∷ []) h = ap (λ l. is_below l slots) (last-one x) ∙ grind (arith, nat_tests, h.0)
below-last slots (x ∷ y ∷ xs) h = ap (λ l. is_below l slots) (last-more x y xs) ∙ below-last slots (y ∷ xs) h.1
