-- A table of levels as the fields of the code: 64 places, of which the first ones are used.
use Rattle.std.specs.Prelude.{◌≡◌, ◌-◌, ◌≤◌, List, ◌++◌, length, take, drop, replicate}
use Rattle.std.specs.List.{IsDistinct}
use Rattle.std.proofs.Common.{ap, ◌∙◌, sym, subst, length-take-le}
use Rattle.std.proofs.lemmas.List.{take-append-drop}
use Rattle.bk_level.specs.Levels.{Level, lowest, is_same_level}
use Rattle.bk_level.specs.declared.table.LevelTable.TheInside.{Inside}

-- the levels in the used places
abbrev pub levels_of : Inside → List Level
levels_of table = take table.len table.levels

-- the table whose places begin with these levels
abbrev pub table_of : List Level → Inside
table_of levels = record { levels = levels ++ replicate (64 - length levels) lowest; len = length levels }

-- at most 64 places are used, no two by the same level, and each other place has the lowest level
pub record IsTable (table : Inside) : Type 0 where
  pub places : length table.levels ≡ 64
  pub used : table.len ≤ 64
  pub unused : drop table.len table.levels ≡ replicate (64 - table.len) lowest
  pub distinct : IsDistinct is_same_level (take table.len table.levels)

-- the fields are got back from the list
pub table_of-levels_of : (table : Inside) → IsTable table → table_of (levels_of table) ≡ table
table_of-levels_of table is = λ i. record { levels = whole i; len = used i }
  where
    used : length (levels_of table) ≡ table.len
    used = length-take-le table.len table.levels (subst (λ n. table.len ≤ n) (sym is.places) is.used)

    whole : levels_of table ++ replicate (64 - length (levels_of table)) lowest ≡ table.levels
    whole = ap (λ n. levels_of table ++ replicate (64 - n) lowest) used ∙ ap (λ xs. levels_of table ++ xs) (sym is.unused) ∙ take-append-drop table.len table.levels
