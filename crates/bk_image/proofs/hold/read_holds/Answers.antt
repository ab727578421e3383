use Rattle.std.proofs.Common.{◌≡◌, ◌++◌, ◌∷◌, []}
use Rattle.std.proofs.lemmas.Result.{err_from_is_err_and}
use Rattle.bk_image.specs.Parts.{each_of}
use Rattle.bk_image.specs.Views.{rest_of}
use Rattle.bk_image.specs.Objects.{objects_in}
use Rattle.bk_image.specs.Holds.{hold_at}
use Rattle.bk_base.proofs.Loops.{goes_on, stops, is_done}
use Rattle.bk_image.proofs.hold.read_holds.Goals as goal

pub returns-in_err-hold : goal.returns-in_err-hold
returns-in_err-hold c =
    let p = err_from_is_err_and c.from_residual.result c.from_residual.ensures.1 in
    rw (p.1, p.2) (stops (hold_at c.args.levels.now c.args.subjects.now (objects_in c.args.objects.now)) c.in_err-hold.field-0.0 c.loop.holds.items c.args.count c.loop.counter (rest_of c.loop.rest) (each_of (hold_at c.args.levels.now c.args.subjects.now (objects_in c.args.objects.now)) c.args.count [] (rest_of c.args.rest.now)) c.loop-test.true (rw c.deref.ensures.value at c.in_err-hold.ensures) c.loop.invariant)

pub loop-preserved : goal.loop-preserved
loop-preserved c =
    let e : c.push.new.self.items ≡ c.loop.holds.items ++ c.in_ok-hold.hold ∷ [] = c.in_ok-push.ensures.items in
    rw e (goes_on (hold_at c.args.levels.now c.args.subjects.now (objects_in c.args.objects.now)) c.loop.holds.items c.args.count c.loop.counter (rest_of c.loop.rest) c.in_ok-hold.hold (rest_of c.next.new.rest) (each_of (hold_at c.args.levels.now c.args.subjects.now (objects_in c.args.objects.now)) c.args.count [] (rest_of c.args.rest.now)) c.loop-test.true (rw c.deref.ensures.value at c.in_ok-hold.ensures) c.loop.invariant)

pub returns : goal.returns
returns c = is_done (hold_at c.args.levels.now c.args.subjects.now (objects_in c.args.objects.now)) c.loop.holds.items c.args.count c.loop.counter (rest_of c.loop.rest) (each_of (hold_at c.args.levels.now c.args.subjects.now (objects_in c.args.objects.now)) c.args.count [] (rest_of c.args.rest.now)) c.loop-test.false c.loop.invariant
