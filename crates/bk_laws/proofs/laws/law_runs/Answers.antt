use Rattle.bk_laws.proofs.Isolation.{runs, kept, lines}
use Rattle.bk_laws.proofs.laws.law_runs.Goals as goal

pub returns-clause-runs : goal.returns-clause-runs
returns-clause-runs c = runs

pub returns-clause-kept : goal.returns-clause-kept
returns-clause-kept c = kept

pub returns-clause-lines : goal.returns-clause-lines
returns-clause-lines c = lines
