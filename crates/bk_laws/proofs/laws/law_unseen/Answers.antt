use Rattle.bk_laws.proofs.laws.law_unseen.Goals as goal
use Rattle.bk_laws.proofs.UnseenEvents.{law_unseen}

pub returns : goal.returns
returns c = law_unseen
