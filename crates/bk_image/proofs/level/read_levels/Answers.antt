use Rattle.std.proofs.Common.{◌∷◌, [], arith, length-append}
use Rattle.std.proofs.lemmas.Result.{err_from_is_err_and}
use Rattle.bk_image.specs.Parts.{each_of}
use Rattle.bk_image.specs.Views.{rest_of}
use Rattle.bk_image.specs.Subjects.{level_at}
use Rattle.bk_base.proofs.Loops.{goes_on, stops, is_done}
use Rattle.bk_image.proofs.level.read_levels.Goals as goal

pub returns-in_err-level : goal.returns-in_err-level
returns-in_err-level c =
    let p = err_from_is_err_and c.from_residual.result c.from_residual.ensures.1 in
    rw (p.1, p.2) (stops (level_at c.args.version) c.in_err-level.field-0.0 c.loop.levels c.args.count c.loop.counter (rest_of c.loop.rest) (each_of (level_at c.args.version) c.args.count [] (rest_of c.args.rest.now)) c.loop-test.true c.in_err-level.ensures.exact c.loop.invariant.exact)

pub loop-preserved : goal.loop-preserved
loop-preserved c = record {
  exact = rw c.add_level.ensures (goes_on (level_at c.args.version) c.loop.levels c.args.count c.loop.counter (rest_of c.loop.rest) c.in_ok-level.level (rest_of c.next.new.rest) (each_of (level_at c.args.version) c.args.count [] (rest_of c.args.rest.now)) c.loop-test.true c.in_ok-level.ensures.exact c.loop.invariant.exact);
  few = rw (c.add_level.ensures, length-append c.loop.levels (c.in_ok-level.level ∷ [])) (omega (arith, c.loop.invariant.few));
}

pub returns : goal.returns
returns c = is_done (level_at c.args.version) c.loop.levels c.args.count c.loop.counter (rest_of c.loop.rest) (each_of (level_at c.args.version) c.args.count [] (rest_of c.args.rest.now)) c.loop-test.false c.loop.invariant.exact
