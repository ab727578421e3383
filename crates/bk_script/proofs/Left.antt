-- Whatever records of a script are left out, the others are a script of as many slots.
use Rattle.std.specs.Prelude.{ℕ, Bool, true, false, List, [], ◌∷◌, filter, if◌then◌else◌}
use Rattle.std.proofs.Common.{◌∙◌, arith, inl, inr}
use Rattle.std.proofs.lemmas.List.Elements.{All-filter}
use Rattle.bk_system.specs.declared.TypedAt.{TypedAt}
use Rattle.bk_script.specs.Script.{IsAbove, IsInOrder, IsScript, IsTyped}

IsAbove-trans : (x y z : TypedAt) → IsAbove x y → IsAbove y z → IsAbove x z
IsAbove-trans x y z (inl low) (inl high) = inl (omega (arith, low, high))
IsAbove-trans x y z (inl low) (inr high) = let same = high.0 in inl (omega (arith, low, same))
IsAbove-trans x y z (inr low) (inl high) = let same = low.0 in inl (omega (arith, same, high))
IsAbove-trans x y z (inr low) (inr high) = let under = low.1 in let over = high.1 in inr (low.0 ∙ high.0, omega (arith, under, over))

-- without the second record
in_order_past : (x y : TypedAt) (xs : List TypedAt) → IsAbove x y → IsInOrder (y ∷ xs) → IsInOrder (x ∷ xs)
in_order_past x y [] above order = tt
in_order_past x y (z ∷ xs) above order = (IsAbove-trans x y z above order.0, order.1)

-- with the second record or without it
in_order_with : (b : Bool) (x y : TypedAt) (xs : List TypedAt) → IsAbove x y → IsInOrder (y ∷ xs) → IsInOrder (x ∷ xs) →
    IsInOrder (x ∷ (if b then y ∷ xs else xs))
in_order_with true x y xs above order past = (above, order)
in_order_with false x y xs above order past = past

in_order_behind : (keeps : TypedAt → Bool) (x : TypedAt) (xs : List TypedAt) → IsInOrder (x ∷ xs) → IsInOrder (x ∷ filter keeps xs)
in_order_behind keeps x [] order = tt
in_order_behind keeps x (y ∷ xs) order =
    in_order_with (keeps y) x y (filter keeps xs) order.0
    (in_order_behind keeps y xs order.1)
    (in_order_behind keeps x xs (in_order_past x y xs order.0 order.1))

in_order_tail : (x : TypedAt) (xs : List TypedAt) → IsInOrder (x ∷ xs) → IsInOrder xs
in_order_tail x [] order = tt
in_order_tail x (y ∷ xs) order = order.1

in_order_from : (b : Bool) (x : TypedAt) (xs : List TypedAt) → IsInOrder (x ∷ xs) → IsInOrder xs → IsInOrder (if b then x ∷ xs else xs)
in_order_from true x xs order rest = order
in_order_from false x xs order rest = rest

IsInOrder-filter : (keeps : TypedAt → Bool) (xs : List TypedAt) → IsInOrder xs → IsInOrder (filter keeps xs)
IsInOrder-filter keeps [] order = tt
IsInOrder-filter keeps (x ∷ xs) order =
    in_order_from (keeps x) x (filter keeps xs)
    (in_order_behind keeps x xs order)
    (IsInOrder-filter keeps xs (in_order_tail x xs order))

-- the records of a script that pass a test are a script of as many slots
pub IsScript-filter : (keeps : TypedAt → Bool) (lines turns : ℕ) (records : List TypedAt) (slots : ℕ) →
    IsScript lines turns records slots → IsScript lines turns (filter keeps records) slots
IsScript-filter keeps lines turns records slots script = record {
  few = script.few;
  within = script.within;
  typed = All-filter keeps (IsTyped lines slots) records script.typed;
  order = IsInOrder-filter keeps records script.order;
}
