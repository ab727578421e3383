use Rattle.std.proofs.Common.{◌≡◌, ◌≤◌, ◌+◌, ◌^◌, [], length}
use Rattle.std.specs.Prelude.{map}
use Rattle.bk_asm_text.specs.Flat.{plain_rest, plain_statements}
use Rattle.bk_asm.specs.Faults.{settle}
use Rattle.bk_asm.specs.Places.{start}
use Rattle.bk_asm.specs.Seen.{plain_known, plain_placed}
use Rattle.bk_asm.proofs.place.settle.Given as goal

abbrev pub invariant-statements : goal.invariant-statements
invariant-statements l = record {
  settled : settle l.origin (map plain_placed l.placed.items) (plain_known l.known) (plain_rest l.rest)
      ≡ settle l.origin [] (start l.origin) (plain_statements l.statements);
  from : l.origin ≤ l.known.address;
  within : l.known.address ≤ 2 ^ 16;
  near : l.known.range + length (plain_rest l.rest) ≤ length (plain_statements l.statements);
}

abbrev pub decreases-statements : goal.decreases-statements
decreases-statements l = length (plain_rest l.rest)
