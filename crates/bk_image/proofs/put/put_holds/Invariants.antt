use Rattle.std.proofs.Common.{◌≡◌, ◌++◌, take}
use Rattle.std.specs.Prelude.{All, flat_map}
use Rattle.bk_image.specs.Spelling.{hold_bytes}
use Rattle.bk_image.specs.Writing.{HoldFits}
use Rattle.bk_image.proofs.put.put_holds.Given as goal

abbrev pub invariant-loop-hold : goal.invariant-loop-hold
invariant-loop-hold l = record {
  text : l.out.items ≡ l.fn.out.items ++ flat_map hold_bytes (take l.hold-index l.holds);
  fits : All HoldFits (take l.hold-index l.holds);
}
