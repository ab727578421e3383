-- A store, with the words of core, as the part of the system's state that it keeps.
use Rattle.std.specs.Prelude.{◌≡◌, ℕ, List, length}
use Rattle.bk_state.specs.State.{State}
use Rattle.bk_store.specs.Stored.{Stored, objects_of}

-- the levels, the number of lines, the objects with their contents and the current access set are those of the state
pub record StandsFor (v : Stored) (words : List ℕ) (s : State) : Type 0 where
  pub levels : v.levels ≡ s.fixed.levels
  pub lines : v.lines ≡ length s.fixed.lines
  pub objects : objects_of v words ≡ s.objects
  pub access : v.access ≡ s.access
