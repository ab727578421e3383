use Rattle.bk_quota.proofs.ExampleLemmas.{governs_plain, used_root, used_upgraded}
use Rattle.bk_quota.proofs.laws.law_example.Goals as goal

pub returns : goal.returns
returns c = record { governing = governs_plain; root = used_root; upgraded = used_upgraded }
