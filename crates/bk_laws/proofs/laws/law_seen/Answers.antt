use Rattle.bk_laws.proofs.SeenEvents.{law_seen}
use Rattle.bk_laws.proofs.laws.law_seen.Goals as goal

pub returns : goal.returns
returns c = law_seen
