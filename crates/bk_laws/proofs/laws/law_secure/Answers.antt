use Rattle.bk_laws.proofs.SecureEvents.{law_secure, law_reached}
use Rattle.bk_laws.proofs.laws.law_secure.Goals as goal

pub returns-clause-event : goal.returns-clause-event
returns-clause-event c = law_secure

pub returns-clause-reached : goal.returns-clause-reached
returns-clause-reached c = law_reached
