-- Paths, the last entry first: root is [], and the parent of a path is its tail.
use Rattle.std.specs.Prelude.{◌≡◌, ℕ, ◌+◌, ◌*◌, ◌/◌, ◌%◌, Bool, true, false, ◌&&◌, ◌||◌, List, [], ◌∷◌, ◌++◌, length, take, drop, reverse}
use Rattle.std.specs.Prelude.{get_or, Option, Some, None, ◌==◌, nat_le, nat_lt, if◌then◌else◌}
use Rattle.std.specs.List.{list_all}
use Rattle.std.specs.Ordering.{nat_cmp, eq_by_cmp}
use Rattle.std.specs.Cmp.Lexicographic.{slice_cmp}
use Rattle.std.specs.declared.cmp.Ordering.{Ordering}

-- the entries, the last one first
abbrev pub Path : Type 0
Path = List ℕ

-- at most 7 entries, each 0 to 15
abbrev pub is_path : Path → Bool
is_path path = nat_le (length path) 7 && list_all (λ entry. nat_lt entry 16) path

-- `is_path` as a fact
abbrev pub IsPath : Path → Type 0
IsPath path = is_path path ≡ true

-- the order of lists from root on: a path comes before what it begins
abbrev pub path_cmp : Path → Path → Ordering
path_cmp p q = slice_cmp nat_cmp (reverse p) (reverse q)

-- the two paths have the same entries
abbrev pub is_same : Path → Path → Bool
is_same p q = eq_by_cmp (slice_cmp nat_cmp) p q

-- the path has no entry
abbrev pub is_root : Path → Bool
is_root [] = true
is_root (entry ∷ path) = false

-- the path without its last entry; root stays root
abbrev pub parent : Path → Path
parent [] = []
parent (entry ∷ path) = path

-- the path begins with the other: each path is inferior to itself
abbrev pub is_inferior : (path of : Path) → Bool
is_inferior [] of = is_same [] of
is_inferior (entry ∷ path) of = is_same (entry ∷ path) of || is_inferior path of

-- `is_inferior` as a fact: some entries follow those of the other
abbrev pub IsInferior : (path of : Path) → Type 0
IsInferior path of = (below : List ℕ) × (below ++ of ≡ path)

-- the seven entries of two words, root first: three below the depth, and four
abbrev pub entries_of : (first second : ℕ) → List ℕ
entries_of first second =
    first / 256 % 16 ∷ first / 16 % 16 ∷ first % 16
    ∷ second / 4096 ∷ second / 256 % 16 ∷ second / 16 % 16 ∷ second % 16 ∷ []

-- the path that two words spell: the depth, that many entries, and zeros
abbrev pub unpack : (first second : ℕ) → Option Path
unpack first second =
    if nat_le (first / 4096) 7 && list_all (λ entry. entry == 0) (drop (first / 4096) (entries_of first second))
    then Some (reverse (take (first / 4096) (entries_of first second)))
    else None

-- the entry with that number from root on, or 0 past the depth
abbrev pub entry_or_0 : Path → ℕ → ℕ
entry_or_0 path n = get_or (reverse path) n 0

-- the two words of a path: the depth in bits 15 to 12 of the first, then seven entries of four bits, and 0 in the unused ones
abbrev pub pack : Path → ℕ × ℕ
pack path = (
  4096 * length path + 256 * entry_or_0 path 0 + 16 * entry_or_0 path 1 + entry_or_0 path 2,
  4096 * entry_or_0 path 3 + 256 * entry_or_0 path 4 + 16 * entry_or_0 path 5 + entry_or_0 path 6,
)
