use Rattle.std.proofs.Common.{◌≡◌, take}
use Rattle.std.specs.FinMap as map
use Rattle.bk_store.specs.Stored.{objects_of}
use Rattle.bk_load.proofs.Filled.{partial}
use Rattle.bk_load.proofs.loading.write_words.Given as goal

abbrev pub invariant-loop-i : goal.invariant-loop-i
invariant-loop-i l = record {
  objects : objects_of l.store l.core.words ≡ map.insert (objects_of l.store l.fn.core.words) l.object.path (partial l.object l.i);
  kernel : take 2048 l.core.words ≡ take 2048 l.fn.core.words;
}
