use Rattle.std.proofs.Common.{◌≡◌, ◌-◌, []}
use Rattle.bk_image.specs.Parts.{each_of}
use Rattle.bk_image.specs.Views.{rest_of}
use Rattle.bk_image.specs.Objects.{objects_in}
use Rattle.bk_image.specs.Holds.{hold_at}
use Rattle.bk_image.proofs.hold.read_holds.Given as goal

abbrev pub invariant-loop : goal.invariant-loop
invariant-loop l = each_of (hold_at l.levels l.subjects (objects_in l.objects)) (l.count - l.counter) l.holds.items (rest_of l.rest) ≡ each_of (hold_at l.levels l.subjects (objects_in l.objects)) l.count [] (rest_of l.initial.rest)
