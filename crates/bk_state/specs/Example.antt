-- Three levels for examples: class 0, class 1, and class 1 with category 0.
use Rattle.std.specs.Prelude.{[], ◌∷◌}
use Rattle.bk_level.specs.Levels.{Level}

-- below both others
abbrev pub low : Level
low = record { class = 0; categories = [] }

-- between them
abbrev pub middle : Level
middle = record { class = 1; categories = [] }

-- above both
abbrev pub marked : Level
marked = record { class = 1; categories = 0 ∷ [] }
