use Rattle.std.proofs.Common.{◌+◌, ◌∙◌, refl, sym, ap, subst, arith, add-one}
use Rattle.bk_space.specs.Counts.{counted_on}
use Rattle.bk_state.specs.State.{State}
use Rattle.bk_kernel.specs.Instructions.{WentOn, going_from, gone}
use Rattle.bk_kernel.proofs.Going.{counted_twice}
use Rattle.bk_kernel.proofs.Instructing.{gone-more, gone-none, went-on}
use Rattle.bk_kernel.proofs.running.run_on.Goals as goal

pub loop-turns-init : goal.loop-turns-init
unfolding counted_on
loop-turns-init c = record {
  few = omega (arith, c.requires.some);
  runs = refl;
  loaded = c.requires.loaded;
  gone = λ v stands. gone-none c.args.store.now c.args.machine.now v c.args.subject c.args.process.now.windows stands;
}

pub returns-then-turns-most-clause-went : goal.returns-then-turns-most-clause-went
returns-then-turns-most-clause-went c = λ v stands.
    let n = c.loop-turns.turns in
    let windows = c.args.process.now.windows in
    let h = c.loop-turns.invariant.gone v stands in
    let g : State = (gone c.args.subject windows (going_from c.args.machine.now v) n).state in
    subst (λ k. WentOn c.args.store.now c.args.machine.now c.run-event.new.machine v c.args.subject windows k c.run-event.result) (sym (add-one n))
    (went-on c.args.store.now c.args.machine.now c.loop-turns.machine c.run-event.new.machine v c.args.subject windows n c.run-event.result h
    (c.run-event.ensures.event g h.stands) (c.run-event.ensures.registers g h.stands) (c.run-event.ensures.references g h.stands) (c.run-event.ensures.state g h.stands) c.run-event.ensures.last)

pub returns-then-turns-most-clause-runs : goal.returns-then-turns-most-clause-runs
returns-then-turns-most-clause-runs c = c.run-event.ensures.runs ∙ ap (λ n. counted_on n 1) c.loop-turns.invariant.runs ∙ counted_twice c.args.machine.now.runs c.loop-turns.turns 1

pub loop-turns-preserved : goal.loop-turns-preserved
loop-turns-preserved c = record {
  few = omega (arith, c.if-turns-most.false, c.loop-turns.invariant.few);
  runs = c.run-event.ensures.runs ∙ ap (λ n. counted_on n 1) c.loop-turns.invariant.runs ∙ counted_twice c.args.machine.now.runs c.loop-turns.turns 1;
  loaded = c.run-event.ensures.loaded;
  gone = λ v stands.
      let n = c.loop-turns.turns in
      let windows = c.args.process.now.windows in
      let h = c.loop-turns.invariant.gone v stands in
      let g : State = (gone c.args.subject windows (going_from c.args.machine.now v) n).state in
      gone-more c.args.store.now c.args.machine.now c.run-event.new.machine v c.args.subject windows (n + 1) c.run-event.result (c.traps.ensures.0 c.if-traps.false)
      (subst (λ k. WentOn c.args.store.now c.args.machine.now c.run-event.new.machine v c.args.subject windows k c.run-event.result) (sym (add-one n))
      (went-on c.args.store.now c.args.machine.now c.loop-turns.machine c.run-event.new.machine v c.args.subject windows n c.run-event.result h
      (c.run-event.ensures.event g h.stands) (c.run-event.ensures.registers g h.stands) (c.run-event.ensures.references g h.stands) (c.run-event.ensures.state g h.stands) c.run-event.ensures.last));
}
