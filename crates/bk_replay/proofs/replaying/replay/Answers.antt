use Rattle.std.proofs.Common.{◌≡◌}
use Rattle.bk_base.specs.Outside.{Rose}
use Rattle.bk_base.specs.Written.{Took, Broke}
use Rattle.bk_replay.proofs.Answered.{asked_of}
use Rattle.bk_replay.proofs.Isolated.{isolated_of}
use Rattle.bk_replay.proofs.replaying.replay.Goals as goal

pub returns-clause-complete : goal.returns-clause-complete
returns-clause-complete g c =
    asked_of (g.I.Source.state c.args.input.now) (g.I.Source.state c.read_and_play.new.input) (c.read_and_play.new.out ≡ c.args.out.now)
    (Took (g.O.Sink.taken c.args.out.now) (g.O.Sink.taken c.read_and_play.new.out) (g.O.Sink.faults c.args.out.now) (g.O.Sink.faults c.read_and_play.new.out))
    (Broke (g.O.Sink.taken c.args.out.now) (g.O.Sink.taken c.read_and_play.new.out) (g.O.Sink.faults c.args.out.now) (g.O.Sink.faults c.read_and_play.new.out))
    (Rose (g.O.Sink.faults c.args.out.now) (g.O.Sink.faults c.read_and_play.new.out)) (λ text b. b.rose)
    c.read_and_play.result c.read_and_play.ensures.answer

pub returns-clause-isolated : goal.returns-clause-isolated
returns-clause-isolated g c =
    isolated_of (g.I.Source.state c.args.input.now) (g.I.Source.state c.read_and_play.new.input)
    (g.O.Sink.taken c.args.out.now) (g.O.Sink.taken c.read_and_play.new.out) (c.read_and_play.new.out ≡ c.args.out.now)
    (Took (g.O.Sink.taken c.args.out.now) (g.O.Sink.taken c.read_and_play.new.out) (g.O.Sink.faults c.args.out.now) (g.O.Sink.faults c.read_and_play.new.out))
    (Broke (g.O.Sink.taken c.args.out.now) (g.O.Sink.taken c.read_and_play.new.out) (g.O.Sink.faults c.args.out.now) (g.O.Sink.faults c.read_and_play.new.out))
    (λ text t. t.bytes) c.read_and_play.result c.read_and_play.ensures.answer
