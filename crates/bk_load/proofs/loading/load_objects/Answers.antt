use Rattle.std.proofs.Common.{◌<◌, length, get_or, ap, ◌∙◌, arith}
use Rattle.bk_load.proofs.Takes.{can_take, front_next}
use Rattle.bk_load.proofs.loading.load_objects.Goals as goal

pub load_object-requires : goal.load_object-requires
load_object-requires c =
    let o = c.index-objects-i.result in
    let below : c.loop-i.i < length c.args.image.now.objects = omega (arith, c.loop-i-test.true, ap length c.as_slice-objects.ensures) in
    can_take c.args.image.now c.requires.accepted c.loop-i.i o c.loop-i.auto.i below (c.index-objects-i.is ∙ ap (λ objects. get_or objects c.loop-i.i o) c.as_slice-objects.ensures) c.loop-i.store c.loop-i.core.words c.loop-i.invariant.front

pub loop-i-preserved : goal.loop-i-preserved
loop-i-preserved c =
    let o = c.index-objects-i.result in
    let below : c.loop-i.i < length c.args.image.now.objects = omega (arith, c.loop-i-test.true, ap length c.as_slice-objects.ensures) in
    record {
      front = front_next c.args.image.now c.requires.accepted c.loop-i.i o below (c.index-objects-i.is ∙ ap (λ objects. get_or objects c.loop-i.i o) c.as_slice-objects.ensures) c.loop-i.store c.load_object.new.store c.loop-i.core.words c.load_object.new.core.words c.loop-i.invariant.front c.load_object.ensures.more;
      kernel = c.load_object.ensures.kernel ∙ c.loop-i.invariant.kernel;
    }
