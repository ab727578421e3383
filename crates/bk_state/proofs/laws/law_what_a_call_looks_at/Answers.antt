use Rattle.bk_state.proofs.AlikeCalls.{called-alike}
use Rattle.bk_state.proofs.laws.law_what_a_call_looks_at.Goals as goal

pub returns : goal.returns
returns c = called-alike
