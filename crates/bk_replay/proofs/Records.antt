-- The records of each slot, in a list in which they stand in order.
use Rattle.std.proofs.Common.{◌≡◌, inl, inr, ℕ, suc, ◌≤◌, ◌<◌, Bool, true, false, cond, List, [], ◌∷◌, take, drop, refl, sym, ap, ◌∙◌, arith}
use Rattle.std.specs.Prelude.{◌==◌}
use Rattle.std.proofs.lemmas.Bool.Decides.{nat_tests}
use Rattle.bk_system.specs.declared.script.TypedAt.{TypedAt}
use Rattle.bk_system.specs.Slot.{records_for}
use Rattle.bk_script.specs.Script.{IsAbove, IsInOrder}
use Rattle.bk_replay.specs.Played.{count_front}

-- each record is of that slot or a later one
abbrev pub From : ℕ → List TypedAt → Type 0
From slot [] = Unit {0}
From slot (typed ∷ records) = (slot ≤ typed.slot) × From slot records

pub from_first : (records : List TypedAt) → From 0 records
from_first [] = tt
from_first (typed ∷ records) = (omega arith, from_first records)

later : (k : ℕ) (x : TypedAt) (xs : List TypedAt) → IsInOrder (x ∷ xs) → k ≤ x.slot → From k (x ∷ xs)
later k x [] order h = (h, tt)
later k x (y ∷ xs) order h = (h, later k y xs order.1 (next order.0))
  where
    next : IsAbove x y → k ≤ y.slot
    next (inl more) = omega arith
    next (inr same) = omega arith

rest_in_order : (x : TypedAt) (xs : List TypedAt) → IsInOrder (x ∷ xs) → IsInOrder xs
rest_in_order x [] order = tt
rest_in_order x (y ∷ xs) order = order.1

none_for : (k : ℕ) (xs : List TypedAt) → From (suc k) xs → records_for k xs ≡ []
none_for k [] from = refl
none_for k (x ∷ xs) from =
    let apart : (x.slot == k) ≡ false = grind (arith, nat_tests, from.0) in
    ap (λ b. cond b (x ∷ records_for k xs) (records_for k xs)) apart ∙ none_for k xs from.1

-- the records of a slot stand in front, and the others are of later slots
pub record Parted (k : ℕ) (xs : List TypedAt) (n : ℕ) : Type 0 where
  pub front : take n xs ≡ records_for k xs
  pub same : (j : ℕ) → k < j → records_for j (drop n xs) ≡ records_for j xs
  pub order : IsInOrder (drop n xs)
  pub from : From (suc k) (drop n xs)

pub parted : (k : ℕ) (xs : List TypedAt) → IsInOrder xs → From k xs → Parted k xs (count_front k xs)
parted k [] order from = record { front = refl; same = λ j h. refl; order = tt; from = tt }
parted k (x ∷ xs) order from = by (x.slot == k) refl (parted k xs (rest_in_order x xs order) from.1)
  where
    by : (b : Bool) → (x.slot == k) ≡ b → Parted k xs (count_front k xs) → Parted k (x ∷ xs) (cond b (suc (count_front k xs)) 0)
    by true is rest = record {
      front = ap (λ ys. x ∷ ys) rest.front ∙ ap (λ b. cond b (x ∷ records_for k xs) (records_for k xs)) (sym is);
      same = λ j h.
          let apart : (x.slot == j) ≡ false = grind (arith, nat_tests, is, h) in
          rest.same j h ∙ ap (λ b. cond b (x ∷ records_for j xs) (records_for j xs)) (sym apart);
      order = rest.order;
      from = rest.from;
    }
    by false is rest =
        let above : suc k ≤ x.slot = grind (arith, nat_tests, is, from.0) in
        record {
          front = sym (none_for k (x ∷ xs) (later (suc k) x xs order above));
          same = λ j h. refl;
          order = order;
          from = later (suc k) x xs order above;
        }
