-- The current access set as the field of the code: a row of all subjects for each slot.
use Rattle.std.specs.Prelude.{◌≡◌, ℕ, ◌+◌, List, [], ◌∷◌, ◌++◌, length, ◌==◌, if◌then◌else◌}
use Rattle.std.specs.List.{All}
use Rattle.std.specs.FinMap as map
use Rattle.bk_object.specs.declared.modes.Modes.{Modes}
use Rattle.bk_object.specs.Rows.{most_subjects}
use Rattle.bk_access.specs.Held.{Key, Held}
use Rattle.bk_access.specs.declared.access.Access.TheInside.{Inside}

-- the entries of a slot's row, from a subject on
abbrev pub row_entries : (slot subject : ℕ) → List Modes → List (Key × Modes)
row_entries slot subject [] = []
row_entries slot subject (modes ∷ row) =
    if modes.0 == 0 then row_entries slot (subject + 1) row else ((subject, slot), modes) ∷ row_entries slot (subject + 1) row

-- the entries of all rows, from a slot on
abbrev pub table_entries : (slot : ℕ) → List (List Modes) → List (Key × Modes)
table_entries slot [] = []
table_entries slot (row ∷ rows) = row_entries slot 0 row ++ table_entries (slot + 1) rows

-- the map that a list of rows stands for
abbrev pub held_by : List (List Modes) → Held
held_by rows = record { slots = length rows; modes = map.from_entries (table_entries 0 rows) }

-- and that of the rows of the code
abbrev pub held_in : Inside → Held
held_in access = held_by access.rows.items

-- each row has a set for each subject
pub record HasRows (access : Inside) : Type 0 where
  pub whole : All (λ row. length row ≡ most_subjects) access.rows.items
