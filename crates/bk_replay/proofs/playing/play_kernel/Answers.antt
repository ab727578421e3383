use Rattle.std.proofs.Common.{◌≡◌, ◌∙◌, ◌++◌, ℕ, List, sym, ap, subst}
use Rattle.bk_base.specs.Written.{Took, Broke}
use Rattle.bk_base.proofs.Written.{took_then, broke_then, broke_within, on_err_any}
use Rattle.bk_report.specs.Text.{lines_of}
use Rattle.bk_state.specs.State.{State}
use Rattle.bk_state.specs.Start.{state_of}
use Rattle.bk_system.specs.declared.script.TypedAt.{TypedAt}
use Rattle.bk_system.specs.Loops.{slots_of}
use Rattle.bk_system.specs.Report.{report_of}
use Rattle.bk_replay.specs.Played.{after_slots, end_text, summary_of}
use Rattle.bk_replay.proofs.Totals.{report_is, summary_exact}
use Rattle.bk_replay.proofs.playing.play_kernel.Goals as goal

pub returns-in_err-play_slots-clause-failed : goal.returns-in_err-play_slots-clause-failed
returns-in_err-play_slots-clause-failed g c =
    let typed : List TypedAt = c.args.script.now.typed in
    let n : ℕ = c.args.script.now.slots in
    let state : c.args.kernel.now.progress.state ≡ state_of c.args.image.now = ap (λ p. p.state) c.requires.begun in
    let broke : Broke (g.O.Sink.taken c.args.out.now) (g.O.Sink.taken c.play_slots.new.out) (g.O.Sink.faults c.args.out.now) (g.O.Sink.faults c.play_slots.new.out) (lines_of (slots_of (state_of c.args.image.now) typed n).items) =
    subst (λ (v : State). Broke (g.O.Sink.taken c.args.out.now) (g.O.Sink.taken c.play_slots.new.out) (g.O.Sink.faults c.args.out.now) (g.O.Sink.faults c.play_slots.new.out) (lines_of (slots_of v typed n).items)) state c.in_err-play_slots.ensures.failed in
    on_err_any c.from_residual.result (broke_within _ _ _ _ _ _ (end_text (summary_of c.args.image.now typed n), sym (report_is c.args.image.now typed n)) broke)

pub returns-clause-totals : goal.returns-clause-totals
returns-clause-totals g c =
    let typed : List TypedAt = c.args.script.now.typed in
    let n : ℕ = c.args.script.now.slots in
    let progress : c.play_slots.new.kernel.progress ≡ after_slots (state_of c.args.image.now) typed n =
    c.in_ok-play_slots.ensures.after ∙ ap (λ p. after_slots p.state typed n) c.requires.begun in
    c.summary-summary.ensures ∙ summary_exact c.args.image.now typed n c.play_slots.new.kernel.progress progress c.requires.script.few c.requires.script.within

pub returns-clause-written : goal.returns-clause-written
returns-clause-written g c =
    let typed : List TypedAt = c.args.script.now.typed in
    let n : ℕ = c.args.script.now.slots in
    let state : c.args.kernel.now.progress.state ≡ state_of c.args.image.now = ap (λ p. p.state) c.requires.begun in
    let progress : c.play_slots.new.kernel.progress ≡ after_slots (state_of c.args.image.now) typed n =
    c.in_ok-play_slots.ensures.after ∙ ap (λ p. after_slots p.state typed n) c.requires.begun in
    let totals = c.summary-summary.ensures ∙ summary_exact c.args.image.now typed n c.play_slots.new.kernel.progress progress c.requires.script.few c.requires.script.within in
    let text : lines_of (slots_of c.args.kernel.now.progress.state typed n).items ++ end_text c.summary-summary.result ≡ report_of c.args.image.now typed n =
    (λ i. lines_of (slots_of (state i) typed n).items ++ end_text (totals i)) ∙ report_is c.args.image.now typed n in
    subst (λ (t : List ℕ). Took (g.O.Sink.taken c.args.out.now) (g.O.Sink.taken c.write_end.new.out) (g.O.Sink.faults c.args.out.now) (g.O.Sink.faults c.write_end.new.out) t) text
    (took_then _ _ _ _ _ _ _ _ c.in_ok-play_slots.ensures.written c.in_ok-write_end.ensures.written)

pub returns-in_err-write_end-clause-failed : goal.returns-in_err-write_end-clause-failed
returns-in_err-write_end-clause-failed g c =
    let typed : List TypedAt = c.args.script.now.typed in
    let n : ℕ = c.args.script.now.slots in
    let state : c.args.kernel.now.progress.state ≡ state_of c.args.image.now = ap (λ p. p.state) c.requires.begun in
    let progress : c.play_slots.new.kernel.progress ≡ after_slots (state_of c.args.image.now) typed n =
    c.in_ok-play_slots.ensures.after ∙ ap (λ p. after_slots p.state typed n) c.requires.begun in
    let totals = c.summary-summary.ensures ∙ summary_exact c.args.image.now typed n c.play_slots.new.kernel.progress progress c.requires.script.few c.requires.script.within in
    let text : lines_of (slots_of c.args.kernel.now.progress.state typed n).items ++ end_text c.summary-summary.result ≡ report_of c.args.image.now typed n =
    (λ i. lines_of (slots_of (state i) typed n).items ++ end_text (totals i)) ∙ report_is c.args.image.now typed n in
    on_err_any c.from_residual-in_err-write_end.result (subst (λ (t : List ℕ). Broke (g.O.Sink.taken c.args.out.now) (g.O.Sink.taken c.write_end.new.out) (g.O.Sink.faults c.args.out.now) (g.O.Sink.faults c.write_end.new.out) t) text
    (broke_then _ _ _ _ _ _ _ _ c.in_ok-play_slots.ensures.written c.in_err-write_end.ensures.failed))
