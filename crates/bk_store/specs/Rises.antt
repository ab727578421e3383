-- Whether what a subject holds lets it rise to a level.
use Rattle.std.specs.Prelude.{ℕ, Bool, not, ◌&&◌, ◌||◌, ◌==◌}
use Rattle.std.specs.List.{list_all}
use Rattle.std.specs.FinSet as set
use Rattle.bk_level.specs.Levels.{Level, level_at}
use Rattle.bk_object.specs.declared.modes.Modes.{Modes}
use Rattle.bk_object.specs.Modes.{Write, Append, has}
use Rattle.bk_quota.specs.Charges.{passes}
use Rattle.bk_state.specs.Allowed.{is_star, is_star_of_putting}
use Rattle.bk_store.specs.Entries.{Stored, facts_in}

-- what the subject holds by w and by a may be held at the level with that number too
abbrev pub may_rise : Stored → (subject level : ℕ) → Bool
may_rise v subject level = list_all
    (λ t. not (t.0 == subject) || passes (λ facts. is_star_of_putting t.2 (level_at v.levels level) (level_at v.levels facts.level)) (facts_in v t.1))
    (set.items v.access)

-- an object of that level may be held at a current level by those of the modes that put something into it
abbrev pub may_put : Modes → (current object : Level) → Bool
may_put modes current object =
    (not (has modes Write) || is_star Write current object) && (not (has modes Append) || is_star Append current object)
