use Rattle.std.proofs.Common.{◌≡◌, ◌∙◌, ◌<◌, ◌+◌, ◌++◌, ◌^◌, ℕ, List, drop, refl, sym, ap, subst, arith, add-one}
use Rattle.bk_base.specs.Written.{Broke}
use Rattle.bk_base.proofs.Written.{took_nil, took_then, broke_then, broke_within, on_err_any}
use Rattle.bk_report.specs.Text.{lines_of}
use Rattle.bk_script.specs.Script.{IsInOrder}
use Rattle.bk_state.specs.State.{State}
use Rattle.bk_system.specs.declared.script.TypedAt.{TypedAt}
use Rattle.bk_system.specs.Step.{Step}
use Rattle.bk_system.specs.Loops.{slots_of}
use Rattle.bk_system.specs.Slot.{slot_of, records_for}
use Rattle.bk_kernel.specs.Progress.{Progress, next_slot, after_slot}
use Rattle.bk_kernel.proofs.Lines.{lines_none, lines_more, lines_front}
use Rattle.bk_replay.specs.Played.{count_front}
use Rattle.bk_replay.proofs.Records.{From, from_first, parted}
use Rattle.bk_replay.proofs.Slots.{slots_next, after_slots-next, slot_front, after_slot-state, after_slot-since, after_slot-slots}
use Rattle.bk_replay.proofs.playing.play_slots.Goals as goal

pub loop-slot-init : goal.loop-slot-init
loop-slot-init g c = record {
  progress = c.requires.begun;
  state = refl;
  slots = ap (λ p. p.slots) c.requires.begun;
  fresh = ap (λ p. p.since) c.requires.begun;
  took = rw lines_none (took_nil _ _);
  order = subst IsInOrder (sym c.as_slice-rest.ensures) c.requires.order;
  from = from_first c.as_slice-rest.result.now;
  same = λ j h. ap (records_for j) c.as_slice-rest.ensures;
}

pub loop-slot-preserved : goal.loop-slot-preserved
loop-slot-preserved g c =
    let k : ℕ = c.loop-slot.slot in
    let v : State = c.args.kernel.now.progress.state in
    let typed : List TypedAt = c.args.script.now.typed in
    let rest : List TypedAt = c.loop-slot.rest.now in
    let kernel : Progress = c.loop-slot.kernel.progress in
    let a : Step = slots_of v typed k in
    let b : Step = slot_of k a.state (records_for k typed) in
    let part = parted k rest c.loop-slot.invariant.order c.loop-slot.invariant.from in
    let records : c.split_slot.result.0.now ≡ records_for k typed =
    c.split_slot.ensures.front ∙ part.front ∙ c.loop-slot.invariant.same k (omega arith) in
    let others : c.split_slot.result.1.now ≡ drop (count_front k rest) rest = c.split_slot.ensures.others in
    let next : next_slot kernel c.split_slot.result.0.now ≡ b = λ i. slot_of (c.loop-slot.invariant.slots i) (c.loop-slot.invariant.state i) (records i) in
    let items : (next_slot kernel c.split_slot.result.0.now).items ≡ b.items = ap (λ s. s.items) next in
    let few : kernel.slots + 1 < 2 ^ 32 = omega (arith, c.loop-slot.invariant.slots) in
    record {
      progress = c.in_ok-slot.ensures.after ∙ (λ i. after_slot (c.loop-slot.invariant.progress i) (records i)) ∙ sym (after_slots-next v typed k);
      state =
          ap (λ p. p.state) c.in_ok-slot.ensures.after ∙ after_slot-state kernel c.split_slot.result.0.now
          ∙ ap (λ s. s.state) next ∙ ap (λ s. s.state) (sym (slots_next v typed k));
      slots = ap (λ p. p.slots) c.in_ok-slot.ensures.after ∙ after_slot-slots kernel c.split_slot.result.0.now few ∙ ap (λ n. n + 1) c.loop-slot.invariant.slots;
      fresh = ap (λ p. p.since) c.in_ok-slot.ensures.after ∙ after_slot-since kernel c.split_slot.result.0.now;
      took = rw (slots_next v typed k, lines_more a.items b.items, ← items) (took_then _ _ _ _ _ _ _ _ c.loop-slot.invariant.took c.in_ok-slot.ensures.written);
      order = subst IsInOrder (sym others) part.order;
      from = subst (λ xs. From (k + 1) xs) (sym others) (subst (λ n. From n (drop (count_front k rest) rest)) (sym (add-one k)) part.from);
      same = λ j h. ap (records_for j) others ∙ part.same j (omega arith) ∙ c.loop-slot.invariant.same j (omega arith);
    }

pub returns-in_err-slot-clause-failed : goal.returns-in_err-slot-clause-failed
returns-in_err-slot-clause-failed g c =
    let k : ℕ = c.loop-slot.slot in
    let v : State = c.args.kernel.now.progress.state in
    let typed : List TypedAt = c.args.script.now.typed in
    let rest : List TypedAt = c.loop-slot.rest.now in
    let kernel : Progress = c.loop-slot.kernel.progress in
    let a : Step = slots_of v typed k in
    let b : Step = slot_of k a.state (records_for k typed) in
    let part = parted k rest c.loop-slot.invariant.order c.loop-slot.invariant.from in
    let records : c.split_slot.result.0.now ≡ records_for k typed =
    c.split_slot.ensures.front ∙ part.front ∙ c.loop-slot.invariant.same k (omega arith) in
    let items : (next_slot kernel c.split_slot.result.0.now).items ≡ b.items =
    (λ i. (slot_of (c.loop-slot.invariant.slots i) (c.loop-slot.invariant.state i) (records i)).items) in
    let front = slot_front v typed k c.args.script.now.slots c.loop-slot-test.true in
    let broke : Broke (g.O.Sink.taken c.args.out.now) (g.O.Sink.taken c.slot.new.out) (g.O.Sink.faults c.args.out.now) (g.O.Sink.faults c.slot.new.out) (lines_of (a.items ++ b.items)) =
    rw (lines_more a.items b.items, ← items) (broke_then _ _ _ _ _ _ _ _ c.loop-slot.invariant.took c.in_err-slot.ensures.failed) in
    on_err_any c.from_residual.result
    (broke_within _ _ _ _ _ _ (lines_front (a.items ++ b.items) (slots_of v typed c.args.script.now.slots).items front.0 front.1) broke)
