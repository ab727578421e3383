use Rattle.std.proofs.Common.{◌≡◌, length, ◌==◌}
use Rattle.std.specs.List.{slice_split}
use Rattle.bk_conf.specs.Fields.{deepest}
use Rattle.bk_conf.proofs.field.deepest.Given as goal

abbrev pub invariant-loop-entry : goal.invariant-loop-entry
invariant-loop-entry l = deepest l.path (slice_split (λ b. b == 47) l.rest) ≡ deepest l.fn.path (slice_split (λ b. b == 47) l.text)

abbrev pub decreases-loop-entry : goal.decreases-loop-entry
decreases-loop-entry l = length l.rest
