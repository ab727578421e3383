use Rattle.std.proofs.Common.{◌≡◌, ◌++◌, drop, map}
use Rattle.bk_image.specs.Objects.{objects_in}
use Rattle.bk_image.specs.Views.{share_at}
use Rattle.bk_image.proofs.quota.shares_of.Given as goal

abbrev pub invariant-loop-object : goal.invariant-loop-object
invariant-loop-object l = l.shares.items ++ map (λ o. share_at (objects_in l.objects) o.path o.facts) (drop l.object-index l.objects) ≡ map (λ o. share_at (objects_in l.objects) o.path o.facts) l.objects
