use Rattle.std.proofs.Common.{◌≡◌, ap}
use Rattle.bk_base.specs.Outside.{Rose}
use Rattle.bk_base.specs.Written.{Took, Broke}
use Rattle.blpk.specs.Words.{texts}
use Rattle.blpk.proofs.Ended.{ok_of, refused_of, wanted_of, write_of}
use Rattle.blpk.proofs.Runs.{asked_isolated}
use Rattle.blpk.proofs.top.run_blpk.Goals as goal

pub returns-clause-isolated : goal.returns-clause-isolated
returns-clause-isolated g c = λ fine.
    asked_isolated (texts c.args.words.now.items) (g.I.Source.state c.args.input.now) (g.I.Source.state c.perform-outcome.new.input)
    (g.O.Sink.taken c.args.out.now) (g.O.Sink.taken c.perform-outcome.new.out)
    (Took (g.O.Sink.taken c.args.out.now) (g.O.Sink.taken c.perform-outcome.new.out) (g.O.Sink.faults c.args.out.now) (g.O.Sink.faults c.perform-outcome.new.out))
    (λ text t. t.bytes)
    (ok_of (texts c.args.words.now.items) (g.I.Source.state c.args.input.now) (g.I.Source.state c.perform-outcome.new.input)
    (c.perform-outcome.new.input ≡ c.args.input.now) (c.perform-outcome.new.out ≡ c.args.out.now)
    (Took (g.O.Sink.taken c.args.out.now) (g.O.Sink.taken c.perform-outcome.new.out) (g.O.Sink.faults c.args.out.now) (g.O.Sink.faults c.perform-outcome.new.out))
    (Broke (g.O.Sink.taken c.args.out.now) (g.O.Sink.taken c.perform-outcome.new.out) (g.O.Sink.faults c.args.out.now) (g.O.Sink.faults c.perform-outcome.new.out))
    (c.finish.new.err ≡ c.args.err.now)
    (Took (g.E.Sink.taken c.args.err.now) (g.E.Sink.taken c.finish.new.err) (g.E.Sink.faults c.args.err.now) (g.E.Sink.faults c.finish.new.err))
    (Broke (g.E.Sink.taken c.args.err.now) (g.E.Sink.taken c.finish.new.err) (g.E.Sink.faults c.args.err.now) (g.E.Sink.faults c.finish.new.err))
    c.finish.result c.perform-outcome.result c.perform-outcome.ensures.performed c.finish.ensures fine).0.1

pub returns-clause-write_fault : goal.returns-clause-write_fault
returns-clause-write_fault g c =
    write_of (texts c.args.words.now.items) (g.I.Source.state c.args.input.now) (g.I.Source.state c.perform-outcome.new.input)
    (c.perform-outcome.new.input ≡ c.args.input.now) (c.perform-outcome.new.out ≡ c.args.out.now)
    (Took (g.O.Sink.taken c.args.out.now) (g.O.Sink.taken c.perform-outcome.new.out) (g.O.Sink.faults c.args.out.now) (g.O.Sink.faults c.perform-outcome.new.out))
    (Broke (g.O.Sink.taken c.args.out.now) (g.O.Sink.taken c.perform-outcome.new.out) (g.O.Sink.faults c.args.out.now) (g.O.Sink.faults c.perform-outcome.new.out))
    (c.finish.new.err ≡ c.args.err.now)
    (Took (g.E.Sink.taken c.args.err.now) (g.E.Sink.taken c.finish.new.err) (g.E.Sink.faults c.args.err.now) (g.E.Sink.faults c.finish.new.err))
    (Broke (g.E.Sink.taken c.args.err.now) (g.E.Sink.taken c.finish.new.err) (g.E.Sink.faults c.args.err.now) (g.E.Sink.faults c.finish.new.err))
    c.finish.result c.perform-outcome.result c.perform-outcome.ensures.performed c.finish.ensures

pub returns-clause-refused : goal.returns-clause-refused
returns-clause-refused g c =
    refused_of (texts c.args.words.now.items) (g.I.Source.state c.args.input.now) (g.I.Source.state c.perform-outcome.new.input)
    (c.perform-outcome.new.input ≡ c.args.input.now) (c.perform-outcome.new.out ≡ c.args.out.now)
    (Took (g.O.Sink.taken c.args.out.now) (g.O.Sink.taken c.perform-outcome.new.out) (g.O.Sink.faults c.args.out.now) (g.O.Sink.faults c.perform-outcome.new.out))
    (Broke (g.O.Sink.taken c.args.out.now) (g.O.Sink.taken c.perform-outcome.new.out) (g.O.Sink.faults c.args.out.now) (g.O.Sink.faults c.perform-outcome.new.out))
    (c.finish.new.err ≡ c.args.err.now)
    (Took (g.E.Sink.taken c.args.err.now) (g.E.Sink.taken c.finish.new.err) (g.E.Sink.faults c.args.err.now) (g.E.Sink.faults c.finish.new.err))
    (Broke (g.E.Sink.taken c.args.err.now) (g.E.Sink.taken c.finish.new.err) (g.E.Sink.faults c.args.err.now) (g.E.Sink.faults c.finish.new.err))
    c.finish.result c.perform-outcome.result c.perform-outcome.ensures.performed c.finish.ensures

pub returns-clause-complete : goal.returns-clause-complete
returns-clause-complete g c =
    wanted_of (texts c.args.words.now.items) (g.I.Source.state c.args.input.now) (g.I.Source.state c.perform-outcome.new.input)
    (c.perform-outcome.new.input ≡ c.args.input.now) (c.perform-outcome.new.out ≡ c.args.out.now)
    (Took (g.O.Sink.taken c.args.out.now) (g.O.Sink.taken c.perform-outcome.new.out) (g.O.Sink.faults c.args.out.now) (g.O.Sink.faults c.perform-outcome.new.out))
    (Broke (g.O.Sink.taken c.args.out.now) (g.O.Sink.taken c.perform-outcome.new.out) (g.O.Sink.faults c.args.out.now) (g.O.Sink.faults c.perform-outcome.new.out))
    (c.finish.new.err ≡ c.args.err.now)
    (Took (g.E.Sink.taken c.args.err.now) (g.E.Sink.taken c.finish.new.err) (g.E.Sink.faults c.args.err.now) (g.E.Sink.faults c.finish.new.err))
    (Broke (g.E.Sink.taken c.args.err.now) (g.E.Sink.taken c.finish.new.err) (g.E.Sink.faults c.args.err.now) (g.E.Sink.faults c.finish.new.err))
    (Rose (g.O.Sink.faults c.args.out.now) (g.O.Sink.faults c.perform-outcome.new.out)) (Rose (g.E.Sink.faults c.args.err.now) (g.E.Sink.faults c.finish.new.err))
    (λ text broke. broke.rose) (λ line broke. broke.rose) (λ same. ap g.I.Source.state same)
    c.finish.result c.perform-outcome.result c.perform-outcome.ensures.performed c.finish.ensures
