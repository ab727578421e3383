-- Objects whose cells and used numbers can be counted by hand: root with a limit of 16; below it a mailbox, and a directory
-- at another level with a limit of 5; below that a segment of 2 blocks, and a directory at the same level over a line.
use Rattle.std.specs.Prelude.{ℕ, List, [], ◌∷◌}
use Rattle.std.specs.FinMap as map
use Rattle.bk_object.specs.declared.Kind.{Kind}
use Rattle.bk_object.specs.declared.Kind.TheVariants.{Directory, Segment, Mailbox, Line}
use Rattle.bk_object.specs.declared.Facts.{Facts}
use Rattle.bk_path.specs.Paths.{Path, path_cmp}

-- facts that grant nobody anything
abbrev pub facts_with : Kind → (blocks level quota : ℕ) → Facts
facts_with kind blocks level quota = record { kind = kind; blocks = blocks; level = level; quota = quota; row = [] }

-- the objects by their paths
abbrev pub example_entries : List (Path × Facts)
example_entries =
    ([], facts_with Directory 0 0 16)
    ∷ (0 ∷ [], facts_with Mailbox 0 0 0)
    ∷ (1 ∷ [], facts_with Directory 0 1 5)
    ∷ (0 ∷ 1 ∷ [], facts_with Segment 2 1 0)
    ∷ (1 ∷ 1 ∷ [], facts_with Directory 0 1 0)
    ∷ (3 ∷ 1 ∷ 1 ∷ [], facts_with (Line 0) 0 1 0)
    ∷ []

-- the map of them
abbrev pub example : map.FinMap path_cmp Facts
example = map.from_sorted example_entries
