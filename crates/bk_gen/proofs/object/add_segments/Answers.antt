use Rattle.bk_gen.specs.Objects.{segment}
use Rattle.bk_gen.proofs.Ranges.{one_more}
use Rattle.bk_gen.proofs.object.add_segments.Goals as goal

pub loop-b-preserved : goal.loop-b-preserved
loop-b-preserved c =
    one_more c.args.objects.now.items c.loop-b.objects.items c.push.new.self.items c.loop-b.b (segment c.args.a) c.in_ok-segment.field-0
    c.loop-b.invariant c.in_ok-push.ensures.items c.in_ok-segment.ensures.segment
