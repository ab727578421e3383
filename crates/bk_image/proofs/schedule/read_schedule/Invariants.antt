use Rattle.std.proofs.Common.{◌≡◌, ◌-◌, []}
use Rattle.bk_image.specs.Parts.{each_of}
use Rattle.bk_image.specs.Views.{rest_of}
use Rattle.bk_image.specs.Subjects.{schedule_at}
use Rattle.bk_image.proofs.schedule.read_schedule.Given as goal

abbrev pub invariant-loop : goal.invariant-loop
invariant-loop l = each_of (schedule_at l.subjects) (l.count - l.counter) l.schedule.items (rest_of l.rest) ≡ each_of (schedule_at l.subjects) l.count [] (rest_of l.initial.rest)
