-- The items of a turn.
use Rattle.std.specs.Prelude.{List, ◌++◌, Option, IsSome, option_to_list}
use Rattle.bk_report.specs.declared.item.ReportItem.{ReportItem}

-- at most two, in their order
abbrev pub items_of : Option ReportItem × Option ReportItem → List ReportItem
items_of pair = option_to_list pair.0 ++ option_to_list pair.1

-- the second is there only where the first is
abbrev pub IsInOrder : Option ReportItem × Option ReportItem → Type 0
IsInOrder pair = IsSome pair.1 → IsSome pair.0
