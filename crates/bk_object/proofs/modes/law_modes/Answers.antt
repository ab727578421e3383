use Rattle.bk_object.proofs.ModeLemmas.{has-union, has-without, same_modes}
use Rattle.bk_object.proofs.modes.law_modes.Goals as goal

pub returns-clause-union : goal.returns-clause-union
returns-clause-union c = has-union

pub returns-clause-without : goal.returns-clause-without
returns-clause-without c = has-without

pub returns-clause-same : goal.returns-clause-same
returns-clause-same c = same_modes
