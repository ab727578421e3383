use Rattle.std.proofs.Common.{◌≡◌, drop}
use Rattle.std.specs.Prelude.{find}
use Rattle.bk_isa.specs.Rows.{is_named}
use Rattle.bk_isa.proofs.table.row_named.Given as goal

-- the rows that are left have the name where all have it
abbrev pub invariant-loop-row : goal.invariant-loop-row
invariant-loop-row l = find (is_named l.name) (drop l.row-index l.rows) ≡ find (is_named l.name) l.rows
