-- How many subjects a system has.
use Rattle.std.specs.Prelude.{ℕ, ◌≡◌, length}
use Rattle.bk_state.specs.State.{State}
use Rattle.bk_state.specs.Secure.{Secure}

-- a secure state of so many subjects
pub record HasSubjects (v : State) (n : ℕ) : Type 0 where
  pub secure : Secure v
  pub subjects : length v.fixed.subjects ≡ n
