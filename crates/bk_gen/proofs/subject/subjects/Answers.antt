use Rattle.std.proofs.Common.{[]}
use Rattle.bk_gen.specs.Subjects.{subject_of}
use Rattle.bk_gen.proofs.Ranges.{one_more}
use Rattle.bk_gen.proofs.subject.subjects.Goals as goal

pub loop-number-preserved : goal.loop-number-preserved
loop-number-preserved c =
    one_more [] c.loop-number.subjects.items c.push.new.self.items c.loop-number.number subject_of c.in_ok-subject.field-0
    c.loop-number.invariant c.in_ok-push.ensures.items c.in_ok-subject.ensures.subject
