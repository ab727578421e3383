use Rattle.std.proofs.Common.{◌+◌, drop, sym, ap, ◌∙◌, arith}
use Rattle.std.proofs.lemmas.List.{drop_all}
use Rattle.bk_load.specs.Loading.{with_holds}
use Rattle.bk_load.proofs.Together.{held_all, held_next}
use Rattle.bk_load.proofs.loading.load_holds.Goals as goal

pub loop-hold-preserved : goal.loop-hold-preserved
loop-hold-preserved c = record {
  held =
      ap (with_holds (drop (c.loop-hold.hold-index + 1) c.args.holds.now)) c.load_hold.ensures
      ∙ held_next c.loop-hold.store c.args.holds.now c.loop-hold.hold-index c.hold-item.result c.loop-hold-test.true c.hold-item.is
      ∙ c.loop-hold.invariant.held;
  objects = ap (λ v. v.objects) c.load_hold.ensures ∙ c.loop-hold.invariant.objects;
}

pub returns : goal.returns
returns c = sym (held_all c.loop-hold.store (drop c.loop-hold.hold-index c.args.holds.now) (drop_all c.loop-hold.hold-index c.args.holds.now (omega arith))) ∙ c.loop-hold.invariant.held
