use Rattle.bk_gen.specs.Objects.{line_object}
use Rattle.bk_gen.proofs.Ranges.{one_more}
use Rattle.bk_gen.proofs.object.add_lines.Goals as goal

pub loop-number-preserved : goal.loop-number-preserved
loop-number-preserved c =
    one_more c.args.objects.now.items c.loop-number.objects.items c.push.new.self.items c.loop-number.number line_object c.line.result
    c.loop-number.invariant c.in_ok-push.ensures.items c.line.ensures.line
