-- Which objects a subject may name in a call.
use Rattle.std.specs.Prelude.{ℕ, Bool, true, ◌&&◌, ◌||◌, [], ◌∷◌}
use Rattle.bk_path.specs.Paths.{Path}
use Rattle.bk_object.specs.Modes.{Read, Write}
use Rattle.bk_object.specs.Kinds.{is_directory}
pub use Rattle.bk_quota.specs.Charges.{passes}
use Rattle.bk_state.specs.State.{State, facts_at, holds}

-- root, and each object whose parent is a directory that the subject holds by read or by write
abbrev pub is_named : State → ℕ → Path → Bool
is_named v s [] = true
is_named v s (e ∷ p) = passes (λ facts. is_directory facts.kind) (facts_at v p) && (holds v s p Read || holds v s p Write)
