use Rattle.std.proofs.Common.{◌≡◌, take}
use Rattle.bk_load.specs.Loading.{HasFront}
use Rattle.bk_load.proofs.loading.load_objects.Given as goal

abbrev pub invariant-loop-i : goal.invariant-loop-i
invariant-loop-i l = record {
  front : HasFront l.image l.i l.store l.core.words;
  kernel : take 2048 l.core.words ≡ take 2048 l.fn.core.words;
}
