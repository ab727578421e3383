use Rattle.std.proofs.Common.{◌≡◌, ◌∙◌, ℕ, List, subst, sym}
use Rattle.bk_base.specs.Written.{Took, Broke}
use Rattle.blpk.specs.Made.{status_of}
use Rattle.blpk.specs.Outcomes.{Finished, Said}
use Rattle.blpk.specs.Lines.{line_of}
use Rattle.blpk.specs.declared.outcome.Outcome.{Outcome}
use Rattle.blpk.specs.declared.status.Status.{Status}
use Rattle.blpk.proofs.finish.finish.Goals as goal

pub returns-in-Refused : goal.returns-in-Refused
returns-in-Refused g c =
    let line : c.as_slice.result.now ≡ line_of c.in-Refused.refusal = c.as_slice.ensures.value ∙ c.line.ensures in
    subst (λ (o : Outcome). Finished (c.say-in-Refused.new.err ≡ c.args.err.now)
    (Took (g.E.Sink.taken c.args.err.now) (g.E.Sink.taken c.say-in-Refused.new.err) (g.E.Sink.faults c.args.err.now) (g.E.Sink.faults c.say-in-Refused.new.err))
    (Broke (g.E.Sink.taken c.args.err.now) (g.E.Sink.taken c.say-in-Refused.new.err) (g.E.Sink.faults c.args.err.now) (g.E.Sink.faults c.say-in-Refused.new.err)) c.say-in-Refused.result o) (sym c.in-Refused.is)
    (subst (λ (l : List ℕ). Said
    (Took (g.E.Sink.taken c.args.err.now) (g.E.Sink.taken c.say-in-Refused.new.err) (g.E.Sink.faults c.args.err.now) (g.E.Sink.faults c.say-in-Refused.new.err))
    (Broke (g.E.Sink.taken c.args.err.now) (g.E.Sink.taken c.say-in-Refused.new.err) (g.E.Sink.faults c.args.err.now) (g.E.Sink.faults c.say-in-Refused.new.err)) l (status_of c.in-Refused.refusal) c.say-in-Refused.result) line
    (subst (λ (s : Status). Said
    (Took (g.E.Sink.taken c.args.err.now) (g.E.Sink.taken c.say-in-Refused.new.err) (g.E.Sink.faults c.args.err.now) (g.E.Sink.faults c.say-in-Refused.new.err))
    (Broke (g.E.Sink.taken c.args.err.now) (g.E.Sink.taken c.say-in-Refused.new.err) (g.E.Sink.faults c.args.err.now) (g.E.Sink.faults c.say-in-Refused.new.err)) c.as_slice.result.now s c.say-in-Refused.result) c.status.ensures c.say-in-Refused.ensures))
