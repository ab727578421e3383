use Rattle.std.proofs.Common.{◌≡◌, ◌≤◌, length, take}
use Rattle.bk_conf.specs.Steps.{without_zeros}
use Rattle.bk_conf.proofs.program.used.Given as goal

abbrev pub invariant-zeros : goal.invariant-zeros
invariant-zeros l = record {
  within : l.used ≤ length l.words;
  kept : without_zeros (take l.used l.words) ≡ without_zeros l.words;
}

abbrev pub decreases-zeros : goal.decreases-zeros
decreases-zeros l = l.used
