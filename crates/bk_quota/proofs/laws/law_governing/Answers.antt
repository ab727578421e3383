use Rattle.bk_quota.proofs.GoverningLemmas.{governing-prefix, governing-cell, governing-longest}
use Rattle.bk_quota.proofs.laws.law_governing.Goals as goal

pub returns : goal.returns
returns g c = record {
  prefix = governing-prefix g.F.FactsByPath.facts_of;
  cell = governing-cell g.F.FactsByPath.facts_of;
  longest = governing-longest g.F.FactsByPath.facts_of;
}
