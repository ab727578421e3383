-- Who holds what.
use Rattle.std.specs.Prelude.{ℕ, not, Bool, List, [], map, filter, ◌==◌, ◌&&◌, ◌∷◌}
use Rattle.std.specs.FinSet as set
use Rattle.bk_object.specs.declared.modes.Modes.{Modes}
use Rattle.bk_object.specs.Modes.{AccessMode, Read, Execute, Write, Append, has, modes_where}
use Rattle.bk_path.specs.Paths.{Path, is_same}
use Rattle.bk_state.specs.State.{Triple}
use Rattle.bk_store.specs.Entries.{Stored}

-- the subject holds the object by the mode now
abbrev pub holds : Stored → ℕ → Path → AccessMode → Bool
holds v subject path mode = set.contains v.access (subject, path, mode)

-- the modes by which the subject holds the object now
abbrev pub modes_held : Stored → ℕ → Path → Modes
modes_held v subject path = modes_where (holds v subject path)

-- the four modes
abbrev pub all_modes : List AccessMode
all_modes = Read ∷ Execute ∷ Write ∷ Append ∷ []

-- the triples of a subject and an object, one for each of the modes
abbrev pub triples_of : ℕ → Path → Modes → List Triple
triples_of subject path modes = map (λ mode. (subject, path, mode)) (filter (has modes) all_modes)

-- the subject holds the object by these modes too
abbrev pub with_held : ℕ → Path → Modes → Stored → Stored
with_held subject path modes v = record v { access = set.union v.access (set.from_list (triples_of subject path modes)) }

-- the subject no longer holds the object by these modes
abbrev pub without_held : ℕ → Path → Modes → Stored → Stored
without_held subject path modes v = record v {
  access = set.retain v.access (λ t. not ((t.0 == subject) && is_same t.1 path && has modes t.2));
}
