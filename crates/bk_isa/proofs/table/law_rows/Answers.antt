use Rattle.bk_isa.proofs.RowLemmas.{name_of-decode_of}
use Rattle.bk_isa.proofs.table.law_rows.Goals as goal

pub returns-clause-names : goal.returns-clause-names
returns-clause-names c = name_of-decode_of
