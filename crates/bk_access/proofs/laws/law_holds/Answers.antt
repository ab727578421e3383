use Rattle.bk_access.proofs.HeldLemmas.{holds-nothing, holds-added, holds-removed, holds-cleared}
use Rattle.bk_access.proofs.laws.law_holds.Goals as goal

pub returns-clause-nothing : goal.returns-clause-nothing
returns-clause-nothing c = holds-nothing

pub returns-clause-added : goal.returns-clause-added
returns-clause-added c = holds-added

pub returns-clause-removed : goal.returns-clause-removed
returns-clause-removed c = holds-removed

pub returns-clause-cleared : goal.returns-clause-cleared
returns-clause-cleared c = holds-cleared
