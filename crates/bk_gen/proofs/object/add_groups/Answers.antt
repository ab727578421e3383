use Rattle.std.proofs.Common.{refl}
use Rattle.bk_gen.specs.Objects.{group}
use Rattle.bk_gen.proofs.Ranges.{some_more}
use Rattle.bk_gen.proofs.object.add_groups.Goals as goal

pub loop-a-preserved : goal.loop-a-preserved
loop-a-preserved c =
    some_more c.args.objects.now.items c.loop-a.objects.items c.add_group.new.objects.items c.loop-a.a group (group c.loop-a.a)
    c.loop-a.invariant c.in_ok-add_group.ensures refl
