use Rattle.std.proofs.Common.{◌≡◌}
use Rattle.std.specs.Prelude.{flat_map}
use Rattle.bk_gen.specs.Subjects.{holds_of, numbers_below}
use Rattle.bk_gen.proofs.subject.holds.Given as goal

abbrev pub invariant-loop-subject : goal.invariant-loop-subject
invariant-loop-subject l = l.holds.items ≡ flat_map holds_of (numbers_below l.subject)
