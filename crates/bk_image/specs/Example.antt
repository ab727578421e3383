-- Two levels of which the first dominates the second.
use Rattle.std.specs.Prelude.{[], ◌∷◌}
use Rattle.bk_level.specs.Levels.{Level}

-- the upper one
abbrev pub high : Level
high = record { class = 2; categories = 0 ∷ [] }

-- the lower one
abbrev pub low : Level
low = record { class = 1; categories = [] }
