use Rattle.std.proofs.Common.{◌≡◌, ◌+◌, ◌≤◌, drop}
use Rattle.std.specs.Prelude.{sum_by}
use Rattle.bk_image.specs.Objects.{objects_in, quotas_at, size}
use Rattle.bk_image.proofs.Shares.{told}
use Rattle.bk_image.proofs.quota.check_quotas.Given as goal

abbrev pub invariant-loop-object : goal.invariant-loop-object
invariant-loop-object l = record {
  exact : told l.found (quotas_at l.version (objects_in l.objects) (drop l.object-index l.objects) l.at) ≡ quotas_at l.version (objects_in l.objects) l.objects l.start;
  fits : l.at + sum_by (size l.version) (drop l.object-index l.objects) ≤ 524288;
}
