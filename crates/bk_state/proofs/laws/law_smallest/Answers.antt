use Rattle.bk_state.proofs.SmallestSecure.{smallest-Secure}
use Rattle.bk_state.proofs.laws.law_smallest.Goals as goal

pub returns : goal.returns
returns c = smallest-Secure
