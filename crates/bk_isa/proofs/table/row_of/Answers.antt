use Rattle.std.proofs.Common.{◌∙◌, sym}
use Rattle.bk_isa.proofs.table.row_of.Goals as goal

pub returns : goal.returns
returns c = c.row_named.ensures ∙ sym c.places_of-from.ensures.rows
