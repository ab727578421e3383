use Rattle.std.proofs.Common.{◌≡◌, ◌++◌, take}
use Rattle.std.specs.Prelude.{All, flat_map}
use Rattle.bk_image.specs.Spelling.{window_bytes}
use Rattle.bk_image.specs.Writing.{WindowFits}
use Rattle.bk_image.proofs.put.put_windows.Given as goal

abbrev pub invariant-loop-window : goal.invariant-loop-window
invariant-loop-window l = record {
  text : l.out.items ≡ l.fn.out.items ++ flat_map window_bytes (take l.window-index l.windows);
  fits : All WindowFits (take l.window-index l.windows);
}
