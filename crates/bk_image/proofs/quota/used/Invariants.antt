use Rattle.std.proofs.Common.{◌≡◌, ◌+◌, ◌*◌, ◌≤◌, drop}
use Rattle.std.specs.Prelude.{sum_by}
use Rattle.bk_image.specs.Views.{part_of}
use Rattle.bk_image.proofs.quota.used.Given as goal

abbrev pub invariant-loop-share : goal.invariant-loop-share
invariant-loop-share l = record { exact : l.sum + sum_by (part_of l.cell) (drop l.share-index l.shares) ≡ 1 + sum_by (part_of l.cell) l.shares; fits : l.sum ≤ 1 + 65535 * l.share-index }
