use Rattle.std.proofs.Common.{◌≡◌, ◌∙◌, ◌<◌, ◌≤◌, ◌+◌, ◌-◌, ◌++◌, ◌^◌, [], suc, ℕ, List, sym, ap, subst, arith, append-nil}
use Rattle.std.proofs.KnownBytes.{Appends-trans}
use Rattle.std.specs.Io.KnownBytes.{Appends}
use Rattle.bk_base.specs.Written.{Took, Broke, IsFront}
use Rattle.bk_base.proofs.Written.{took_nil, took_then, broke_then, broke_within, on_err_any}
use Rattle.bk_report.specs.Text.{lines_of}
use Rattle.bk_system.specs.Step.{Step, joined}
use Rattle.bk_system.specs.Turn.{turn_of}
use Rattle.bk_system.specs.declared.script.TypedAt.{TypedAt}
use Rattle.bk_system.specs.Loops.{turns_of, with_slot_ended}
use Rattle.bk_system.specs.Slot.{slot_of, subject_of}
use Rattle.bk_system.proofs.Folds.{slot_of-turns}
use Rattle.bk_kernel.specs.Items.{items_of}
use Rattle.bk_kernel.specs.Stretch.{turns_from}
use Rattle.bk_kernel.specs.Progress.{Progress, items_within, turn_within, with_arrived, with_slot, with_turns, within_slot, after_end, after_slot}
use Rattle.bk_kernel.proofs.Lines.{lines_none, lines_more, lines_front}
use Rattle.bk_kernel.proofs.Turns.{after_more, items_made, last-items, next_from, since_is, turn_at, turn_made, turns_front, turns_made, turns_on, with_turns-none}
use Rattle.bk_kernel.proofs.kernel.Kernel.slot.Goals as goal

pub loop-left-init : goal.loop-left-init
loop-left-init g c =
    let turns : ℕ = c.turns_of_slot-turns.result in
    let p : Progress = with_arrived c.args.self.now.progress c.args.typed.now in
    let none : turns - turns ≡ 0 = omega arith in
    record {
      few = omega arith;
      progress = c.arrive.ensures ∙ sym (with_turns-none p) ∙ ap (λ n. with_turns p (turns_of p.slots c.subject-subject.result p.state n) n) (sym none);
      took = subst (λ n. Took (g.O.Sink.taken c.args.out.now) (g.O.Sink.taken c.args.out.now) (g.O.Sink.faults c.args.out.now) (g.O.Sink.faults c.args.out.now) (lines_of (turns_of p.slots c.subject-subject.result p.state n).items)) (sym none) (rw lines_none (took_nil _ _));
      subject = c.subject-subject.ensures;
      turns = c.turns_of_slot-turns.ensures;
    }

pub stretch-made-requires-clause-numbered : goal.stretch-made-requires-clause-numbered
stretch-made-requires-clause-numbered g c =
    let p : Progress = with_arrived c.args.self.now.progress c.args.typed.now in
    let s : ℕ = c.subject-subject.result in
    let t : ℕ = c.turns_of_slot-turns.result - c.loop-left.left in
    let few : t < 2 ^ 16 = omega arith in
    let is : c.loop-left.self.progress.since ≡ t = since_is p c.loop-left.self.progress (turns_of p.slots s p.state t) s t c.requires few c.loop-left.invariant.progress in
    omega (arith, is, c.loop-left.invariant.few)

pub loop-left-preserved : goal.loop-left-preserved
loop-left-preserved g c =
    let p : Progress = with_arrived c.args.self.now.progress c.args.typed.now in
    let s : ℕ = c.subject-subject.result in
    let turns : ℕ = c.turns_of_slot-turns.result in
    let t : ℕ = turns - c.loop-left.left in
    let n : ℕ = c.stretch-made.result.turns in
    let a : Step = turns_of p.slots s p.state t in
    let b : Step = turns_from (turn_at p.slots s t) a.state n in
    let made = c.stretch-made.ensures.made in
    let few : t < 2 ^ 16 = omega arith in
    let fresh : p.since ≡ 0 = c.requires in
    let here : c.loop-left.self.progress ≡ with_turns p a t = c.loop-left.invariant.progress in
    let items : items_of c.stretch-made.result.items ≡ b.items = made.items ∙ ap (λ (step : Step). step.items) (next_from p c.loop-left.self.progress a s t fresh few here n) in
    let text : lines_of a.items ++ lines_of (items_of c.stretch-made.result.items) ≡ lines_of (turns_of p.slots s p.state (t + n)).items =
    ap (λ xs. lines_of a.items ++ lines_of xs) items ∙ sym (lines_more a.items b.items) ∙ ap (λ (step : Step). lines_of step.items) (sym (turns_on p.slots s p.state t n)) in
    let after : c.stretch-made.new.self.progress ≡ with_turns p (turns_of p.slots s p.state (t + n)) (t + n) =
    c.stretch-made.ensures.after ∙ after_more p c.loop-left.self.progress a s t fresh few here n ∙ ap (λ (step : Step). with_turns p step (t + n)) (sym (turns_on p.slots s p.state t n)) in
    let count : turns - (c.loop-left.left - n) ≡ t + n = omega (arith, made.few, c.loop-left.invariant.few) in
    record {
      few = omega (arith, c.loop-left.invariant.few);
      progress = after ∙ ap (λ k. with_turns p (turns_of p.slots s p.state k) k) (sym count);
      took = subst (λ bytes. Took (g.O.Sink.taken c.args.out.now) (g.O.Sink.taken c.write_items.new.out) (g.O.Sink.faults c.args.out.now) (g.O.Sink.faults c.write_items.new.out) bytes)
          (text ∙ ap (λ k. lines_of (turns_of p.slots s p.state k).items) (sym count))
          (took_then _ _ _ _ _ _ _ _ c.loop-left.invariant.took c.in_ok-write_items.ensures.written);
      subject = c.loop-left.invariant.subject;
      turns = c.loop-left.invariant.turns;
    }

pub returns-in_err-write_items-clause-failed : goal.returns-in_err-write_items-clause-failed
returns-in_err-write_items-clause-failed g c =
    let p : Progress = with_arrived c.args.self.now.progress c.args.typed.now in
    let s : ℕ = c.subject-subject.result in
    let turns : ℕ = c.turns_of_slot-turns.result in
    let t : ℕ = turns - c.loop-left.left in
    let n : ℕ = c.stretch-made.result.turns in
    let a : Step = turns_of p.slots s p.state t in
    let b : Step = turns_from (turn_at p.slots s t) a.state n in
    let made = c.stretch-made.ensures.made in
    let few : t < 2 ^ 16 = omega arith in
    let fresh : p.since ≡ 0 = c.requires in
    let here : c.loop-left.self.progress ≡ with_turns p a t = c.loop-left.invariant.progress in
    let items : items_of c.stretch-made.result.items ≡ b.items = made.items ∙ ap (λ (step : Step). step.items) (next_from p c.loop-left.self.progress a s t fresh few here n) in
    let text : lines_of a.items ++ lines_of (items_of c.stretch-made.result.items) ≡ lines_of (turns_of p.slots s p.state (t + n)).items =
    ap (λ xs. lines_of a.items ++ lines_of xs) items ∙ sym (lines_more a.items b.items) ∙ ap (λ (step : Step). lines_of step.items) (sym (turns_on p.slots s p.state t n)) in
    let after : c.stretch-made.new.self.progress ≡ with_turns p (turns_of p.slots s p.state (t + n)) (t + n) =
    c.stretch-made.ensures.after ∙ after_more p c.loop-left.self.progress a s t fresh few here n ∙ ap (λ (step : Step). with_turns p step (t + n)) (sym (turns_on p.slots s p.state t n)) in
    let slot_turns : ℕ = c.args.self.now.progress.state.fixed.turns in
    let under : t + n ≤ slot_turns = omega (arith, made.few, c.loop-left.invariant.few, c.turns_of_slot-turns.ensures) in
    let front = turns_front p.slots s p.state (t + n) slot_turns under in
    let all = turns_of p.slots s p.state slot_turns in
    let broke : Broke (g.O.Sink.taken c.args.out.now) (g.O.Sink.taken c.write_items.new.out) (g.O.Sink.faults c.args.out.now) (g.O.Sink.faults c.write_items.new.out) (lines_of (turns_of p.slots s p.state (t + n)).items) =
    subst (λ bytes. Broke (g.O.Sink.taken c.args.out.now) (g.O.Sink.taken c.write_items.new.out) (g.O.Sink.faults c.args.out.now) (g.O.Sink.faults c.write_items.new.out) bytes) text
    (broke_then _ _ _ _ _ _ _ _ c.loop-left.invariant.took c.in_err-write_items.ensures.failed) in
    let whole : (slot_of p.slots c.args.self.now.progress.state c.args.typed.now).items ≡ (turns_of p.slots (subject_of c.args.self.now.progress.state.fixed p.slots) p.state slot_turns).items =
    ap (λ (x : Step). x.items) (slot_of-turns p.slots c.args.self.now.progress.state c.args.typed.now) in
    on_err_any c.from_residual.result
    (subst (λ items. Broke (g.O.Sink.taken c.args.out.now) (g.O.Sink.taken c.write_items.new.out) (g.O.Sink.faults c.args.out.now) (g.O.Sink.faults c.write_items.new.out) (lines_of items)) (sym whole)
    (subst (λ k. Broke (g.O.Sink.taken c.args.out.now) (g.O.Sink.taken c.write_items.new.out) (g.O.Sink.faults c.args.out.now) (g.O.Sink.faults c.write_items.new.out) (lines_of (turns_of p.slots k p.state slot_turns).items)) c.subject-subject.ensures
    (broke_within _ _ _ _ _ _ (lines_front (turns_of p.slots s p.state (t + n)).items all.items front.0 front.1) broke)))

pub returns-in_err-write_items-clause-left : goal.returns-in_err-write_items-clause-left
returns-in_err-write_items-clause-left g c =
    let p : Progress = with_arrived c.args.self.now.progress c.args.typed.now in
    let s : ℕ = c.subject-subject.result in
    let turns : ℕ = c.turns_of_slot-turns.result in
    let t : ℕ = turns - c.loop-left.left in
    let n : ℕ = c.stretch-made.result.turns in
    let a : Step = turns_of p.slots s p.state t in
    let b : Step = turns_from (turn_at p.slots s t) a.state n in
    let made = c.stretch-made.ensures.made in
    let few : t < 2 ^ 16 = omega arith in
    let fresh : p.since ≡ 0 = c.requires in
    let here : c.loop-left.self.progress ≡ with_turns p a t = c.loop-left.invariant.progress in
    let items : items_of c.stretch-made.result.items ≡ b.items = made.items ∙ ap (λ (step : Step). step.items) (next_from p c.loop-left.self.progress a s t fresh few here n) in
    let text : lines_of a.items ++ lines_of (items_of c.stretch-made.result.items) ≡ lines_of (turns_of p.slots s p.state (t + n)).items =
    ap (λ xs. lines_of a.items ++ lines_of xs) items ∙ sym (lines_more a.items b.items) ∙ ap (λ (step : Step). lines_of step.items) (sym (turns_on p.slots s p.state t n)) in
    let after : c.stretch-made.new.self.progress ≡ with_turns p (turns_of p.slots s p.state (t + n)) (t + n) =
    c.stretch-made.ensures.after ∙ after_more p c.loop-left.self.progress a s t fresh few here n ∙ ap (λ (step : Step). with_turns p step (t + n)) (sym (turns_on p.slots s p.state t n)) in
    let old : Progress = c.args.self.now.progress in
    let records : List TypedAt = c.args.typed.now in
    let before : ℕ = made.before in
    let q : Step = turns_from (turn_at p.slots s t) a.state before in
    let own : t + before < old.state.fixed.turns = omega (arith, made.turns_are, made.few, c.loop-left.invariant.few, c.turns_of_slot-turns.ensures) in
    let some : t + n ≤ 2 ^ 16 = omega (arith, made.few, c.loop-left.invariant.few) in
    let below : t + before < 2 ^ 16 = omega (arith, some, made.turns_are) in
    let count : t + n ≡ suc (t + before) = omega (arith, made.turns_are) in
    let quiet : q.items ≡ [] = ap (λ (step : Step). step.items) (sym (next_from p c.loop-left.self.progress a s t fresh few here before)) ∙ made.quiet in
    let on : turns_of p.slots s p.state (t + before) ≡ joined a q = turns_on p.slots s p.state t before in
    let order : before + t ≡ t + before = omega arith in
    let own_items : items_of c.stretch-made.result.items ≡ (turn_within old records (t + before)).items =
    items ∙ ap (λ k. (turns_from (turn_at p.slots s t) a.state k).items) made.turns_are ∙ last-items (turn_at p.slots s t) a.state before quiet
    ∙ (λ i. (turn_of (turn_at p.slots s (order i)) (sym on i).state).items)
    ∙ (λ i. (turn_of (turn_at p.slots (c.subject-subject.ensures i) (t + before)) (turns_of p.slots (c.subject-subject.ensures i) p.state (t + before)).state).items)
    ∙ sym (turn_made old records fresh (t + before) below) in
    let earlier : a.items ≡ items_within old records (t + before) =
    sym (append-nil a.items) ∙ ap (λ xs. a.items ++ xs) (sym quiet) ∙ ap (λ (step : Step). step.items) (sym on)
    ∙ (λ i. (turns_of p.slots (c.subject-subject.ensures i) p.state (t + before)).items)
    ∙ sym (items_made old records fresh (t + before) (omega (arith, below))) in
    let broke = c.in_err-write_items.ensures.failed in
    on_err_any c.from_residual.result
    (record {
      turns = t + before;
      own = own;
      made =
          after ∙ (λ i. with_turns p (turns_of p.slots (c.subject-subject.ensures i) p.state (t + n)) (t + n))
          ∙ sym (turns_made old records fresh (t + n) some) ∙ ap (within_slot old records) count;
      front = broke.part.0;
      of_last = subst (λ xs. IsFront broke.part.0 (lines_of xs)) own_items broke.part.1;
      written =
          subst (λ xs. Appends (g.O.Sink.taken c.args.out.now) (g.O.Sink.taken c.write_items.new.out) (lines_of xs ++ broke.part.0)) earlier
          (Appends-trans _ _ _ _ _ c.loop-left.invariant.took.bytes broke.part.2);
    })

pub returns-clause-after : goal.returns-clause-after
unfolding after_slot after_end
returns-clause-after g c =
    let p : Progress = with_arrived c.args.self.now.progress c.args.typed.now in
    let turns : ℕ = c.args.self.now.progress.state.fixed.turns in
    let n : c.turns_of_slot-turns.result - c.loop-left.left ≡ turns = omega (arith, c.turns_of_slot-turns.ensures, c.loop-left-test.false) in
    let whole : with_slot_ended (turns_of p.slots (subject_of c.args.self.now.progress.state.fixed p.slots) p.state turns) ≡ slot_of p.slots c.args.self.now.progress.state c.args.typed.now =
    sym (slot_of-turns p.slots c.args.self.now.progress.state c.args.typed.now) in
    c.end_slot.ensures.after
    ∙ ap after_end (c.loop-left.invariant.progress ∙ (λ i. with_turns p (turns_of p.slots (c.subject-subject.ensures i) p.state (n i)) (n i)))
    ∙ (λ i. with_slot (with_turns c.args.self.now.progress (whole i) turns) (whole i).state)

pub returns-clause-written : goal.returns-clause-written
returns-clause-written g c =
    let p : Progress = with_arrived c.args.self.now.progress c.args.typed.now in
    let n : c.turns_of_slot-turns.result - c.loop-left.left ≡ c.args.self.now.progress.state.fixed.turns = omega (arith, c.turns_of_slot-turns.ensures, c.loop-left-test.false) in
    subst (λ items. Took (g.O.Sink.taken c.args.out.now) (g.O.Sink.taken c.loop-left.out) (g.O.Sink.faults c.args.out.now) (g.O.Sink.faults c.loop-left.out) (lines_of items))
    ((λ i. (turns_of p.slots (c.subject-subject.ensures i) p.state (n i)).items) ∙ sym (ap (λ (x : Step). x.items) (slot_of-turns p.slots c.args.self.now.progress.state c.args.typed.now)))
    c.loop-left.invariant.took
