-- A fixed part for examples: two subjects in turn, with two turns a slot.
use Rattle.std.specs.Prelude.{ℕ, [], ◌∷◌}
use Rattle.bk_level.specs.Levels.{lowest}
use Rattle.bk_state.specs.State.{Fixed}
use Rattle.bk_system.specs.declared.at.At.{At}

-- both subjects at the lowest level, and no line
abbrev pub alternating : Fixed
alternating = record {
  levels = lowest ∷ [];
  subjects = 0 ∷ 0 ∷ [];
  lines = [];
  turns = 2;
  schedule = 0 ∷ 1 ∷ [];
}

-- the turn with that number of that slot, which is the subject's
abbrev pub turn_at : (slot turn s : ℕ) → At
turn_at slot turn s = record { slot = slot; turn = turn; subject = s }
