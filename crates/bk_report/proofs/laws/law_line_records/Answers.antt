use Rattle.bk_report.proofs.Plain.{line_records_of-lines_of}
use Rattle.bk_report.proofs.laws.law_line_records.Goals as goal

pub returns : goal.returns
returns c = λ set items printed. line_records_of-lines_of set items printed
