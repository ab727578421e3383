use Rattle.std.proofs.Common.{◌≡◌, ◌++◌, map, drop}
use Rattle.std.specs.List.{range_with_len}
use Rattle.bk_state.specs.Start.{shown_in}
use Rattle.bk_load.proofs.beginning.windows_from.Given as goal

abbrev pub invariant-loop-number : goal.invariant-loop-number
invariant-loop-number l = l.windows ≡ map (shown_in l.shown) (range_with_len 0 l.number) ++ drop l.number l.initial.windows
