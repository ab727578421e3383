use Rattle.std.proofs.Common.{sym, ◌∙◌}
use Rattle.bk_gen.proofs.Typed.{number_at-first, typed_below-none, number_more, typed_more}
use Rattle.bk_gen.proofs.typing.typed_below.Goals as goal

pub loop-slot-init : goal.loop-slot-init
loop-slot-init c = record {
  number = sym (number_at-first c.args.n);
  typed = c.new-typed.ensures.items ∙ sym (typed_below-none c.args.n);
}

pub loop-slot-preserved : goal.loop-slot-preserved
loop-slot-preserved c = record {
  number = number_more c.args.n c.loop-slot.slot c.loop-slot.x c.typed_next.new.x c.loop-slot.invariant.number c.in_ok-typed_next.ensures.number;
  typed =
      typed_more c.args.n c.loop-slot.slot c.loop-slot.x c.loop-slot.typed.items c.push.new.self.items c.in_ok-typed_next.field-0
      c.loop-slot.invariant.number c.loop-slot.invariant.typed c.in_ok-push.ensures.items c.in_ok-typed_next.ensures.typed;
}
