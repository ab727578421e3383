use Rattle.std.proofs.Common.{[]}
use Rattle.bk_gen.specs.Subjects.{holds_of}
use Rattle.bk_gen.proofs.Ranges.{some_more}
use Rattle.bk_gen.proofs.subject.holds.Goals as goal

pub loop-subject-preserved : goal.loop-subject-preserved
loop-subject-preserved c =
    some_more [] c.loop-subject.holds.items c.extend_from_slice.new.self.items c.loop-subject.subject holds_of c.holds_of.result
    c.loop-subject.invariant c.in_ok-extend_from_slice.ensures.items c.holds_of.ensures
