-- Bytes that wait before a sink.
use Rattle.std.specs.Prelude.{◌≡◌, ℕ, ◌≤◌, List, ◌++◌, drop, length, Option, None, Some, ⊤}
use Rattle.std.specs.Coded.{Unit-prop, ×_prop, le_prop, Coded-set, coded_list, coded_ℕ}

-- the bytes that were put, and how many of them have gone out
pub record Waits : Type 0 where
  pub put : List ℕ
  pub sent : ℕ

-- the bytes that wait
abbrev pub waiting_of : Waits → List ℕ
waiting_of w = drop w.sent w.put

-- where the sink tells its bytes, they have grown since the start, and with those that wait they are all that came since
abbrev pub InStep : (start now : Option (List ℕ)) (all waiting : List ℕ) → Type 0
InStep None now all waiting = ⊤
InStep (Some before) None all waiting = ⊥
InStep (Some before) (Some after) all waiting = (length before ≤ length after) × (after ++ waiting ≡ before ++ all)

-- there is one proof of it at most
pub InStep-prop : (start now : Option (List ℕ)) (all waiting : List ℕ) → IsProp (InStep start now all waiting)
InStep-prop None now all waiting = Unit-prop
InStep-prop (Some before) None all waiting = λ a b. absurd a
InStep-prop (Some before) (Some after) all waiting = ×_prop le_prop (Coded-set (coded_list coded_ℕ) _ _)
