use Rattle.std.proofs.Common.{◌≡◌, drop}
use Rattle.bk_load.specs.Loading.{with_holds}
use Rattle.bk_load.proofs.loading.load_holds.Given as goal

abbrev pub invariant-loop-hold : goal.invariant-loop-hold
invariant-loop-hold l = record {
  held : with_holds (drop l.hold-index l.holds) l.store ≡ with_holds l.fn.holds l.fn.store;
  objects : l.store.objects ≡ l.fn.store.objects;
}
