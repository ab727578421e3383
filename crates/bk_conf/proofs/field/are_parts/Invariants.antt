use Rattle.std.proofs.Common.{◌≡◌, length, ◌==◌}
use Rattle.std.specs.List.{list_all, slice_split}
use Rattle.bk_conf.specs.Fields.{is_decimal}
use Rattle.bk_conf.proofs.field.are_parts.Given as goal

abbrev pub invariant-loop-entry : goal.invariant-loop-entry
invariant-loop-entry l = list_all is_decimal (slice_split (λ b. b == 47) l.rest) ≡ list_all is_decimal (slice_split (λ b. b == 47) l.text)

abbrev pub decreases-loop-entry : goal.decreases-loop-entry
decreases-loop-entry l = length l.rest
