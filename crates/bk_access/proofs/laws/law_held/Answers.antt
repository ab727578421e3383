use Rattle.bk_object.specs.Modes.{union, without}
use Rattle.bk_access.specs.Held.{modes_at}
use Rattle.bk_access.proofs.HeldLemmas.{at-nothing, at-with_modes, elsewhere-with_modes, at-cleared, elsewhere-cleared}
use Rattle.bk_access.proofs.laws.law_held.Goals as goal

pub returns-clause-nothing : goal.returns-clause-nothing
returns-clause-nothing c = at-nothing

pub returns-clause-added : goal.returns-clause-added
returns-clause-added c = λ subject slot modes held. at-with_modes subject slot (union (modes_at held subject slot) modes) held

pub returns-clause-added_elsewhere : goal.returns-clause-added_elsewhere
returns-clause-added_elsewhere c = λ subject slot s k modes held. elsewhere-with_modes subject slot s k (union (modes_at held subject slot) modes) held

pub returns-clause-removed : goal.returns-clause-removed
returns-clause-removed c = λ subject slot modes held. at-with_modes subject slot (without (modes_at held subject slot) modes) held

pub returns-clause-removed_elsewhere : goal.returns-clause-removed_elsewhere
returns-clause-removed_elsewhere c = λ subject slot s k modes held. elsewhere-with_modes subject slot s k (without (modes_at held subject slot) modes) held

pub returns-clause-cleared : goal.returns-clause-cleared
returns-clause-cleared c = at-cleared

pub returns-clause-cleared_elsewhere : goal.returns-clause-cleared_elsewhere
returns-clause-cleared_elsewhere c = elsewhere-cleared
