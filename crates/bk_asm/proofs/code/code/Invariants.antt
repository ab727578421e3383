use Rattle.std.proofs.Common.{◌≡◌, [], drop}
use Rattle.std.specs.Prelude.{map}
use Rattle.bk_asm.specs.Codes.{coded}
use Rattle.bk_asm.specs.Seen.{plain_placed, seen}
use Rattle.bk_asm.proofs.code.code.Given as goal

abbrev pub invariant-loop-one : goal.invariant-loop-one
invariant-loop-one l =
    coded (seen l.table) l.coding.bytes.items (map plain_placed (drop l.one-index l.placed)) ≡ coded (seen l.table) [] (map plain_placed l.placed)
