use Rattle.std.proofs.Common.{◌≡◌}
use Rattle.bk_gen.specs.Numbers.{number_at}
use Rattle.bk_gen.specs.Script.{typed_below}
use Rattle.bk_gen.proofs.typing.typed_below.Given as goal

abbrev pub invariant-loop-slot : goal.invariant-loop-slot
invariant-loop-slot l = record {
  number : l.x ≡ number_at l.n l.slot;
  typed : l.typed.items ≡ typed_below l.n l.slot;
}
