use Rattle.std.proofs.Common.{◌≡◌, ◌∙◌, subst, sym}
use Rattle.bk_base.specs.Written.{Took, Broke}
use Rattle.blpk.specs.Outcomes.{CameTo}
use Rattle.blpk.specs.declared.outcome.Outcome.{Outcome}
use Rattle.blpk.specs.declared.words.Command.TheVariants.{Run}
use Rattle.blpk.proofs.Runs.{came_of, outcome_read, outcome_write}
use Rattle.blpk.proofs.perform.run.Goals as goal

pub returns-clause-came : goal.returns-clause-came
returns-clause-came g c =
    subst (λ (o : Outcome). CameTo Run (g.I.Source.state c.args.input.now) (g.I.Source.state c.replay.new.input) (c.replay.new.out ≡ c.args.out.now)
    (Took (g.O.Sink.taken c.args.out.now) (g.O.Sink.taken c.replay.new.out) (g.O.Sink.faults c.args.out.now) (g.O.Sink.faults c.replay.new.out))
    (Broke (g.O.Sink.taken c.args.out.now) (g.O.Sink.taken c.replay.new.out) (g.O.Sink.faults c.args.out.now) (g.O.Sink.faults c.replay.new.out)) o)
    (sym c.outcome_of.ensures)
    (came_of (g.I.Source.state c.args.input.now) (g.I.Source.state c.replay.new.input) (c.replay.new.out ≡ c.args.out.now)
    (Took (g.O.Sink.taken c.args.out.now) (g.O.Sink.taken c.replay.new.out) (g.O.Sink.faults c.args.out.now) (g.O.Sink.faults c.replay.new.out))
    (Broke (g.O.Sink.taken c.args.out.now) (g.O.Sink.taken c.replay.new.out) (g.O.Sink.faults c.args.out.now) (g.O.Sink.faults c.replay.new.out))
    c.replay.result c.replay.ensures.answer)

pub returns-clause-read_told : goal.returns-clause-read_told
returns-clause-read_told g c = λ never. c.replay.ensures.read_told (λ e. never (c.outcome_of.ensures ∙ outcome_read c.replay.result e))

pub returns-clause-write_told : goal.returns-clause-write_told
returns-clause-write_told g c = λ never. c.replay.ensures.write_told (λ e. never (c.outcome_of.ensures ∙ outcome_write c.replay.result e))
