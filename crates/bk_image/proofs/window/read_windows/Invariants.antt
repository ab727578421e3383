use Rattle.std.proofs.Common.{◌≡◌, ◌-◌, []}
use Rattle.bk_image.specs.Parts.{each_of}
use Rattle.bk_image.specs.Views.{rest_of}
use Rattle.bk_image.specs.Subjects.{window_at}
use Rattle.bk_image.proofs.window.read_windows.Given as goal

abbrev pub invariant-loop : goal.invariant-loop
invariant-loop l = each_of window_at (l.count - l.counter) l.windows.items (rest_of l.rest) ≡ each_of window_at l.count [] (rest_of l.initial.rest)
