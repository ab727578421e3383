use Rattle.std.proofs.Common.{◌≡◌, ◌++◌, ◌∷◌, [], arith, length-append}
use Rattle.std.proofs.lemmas.List.Sums.{sum_by_push}
use Rattle.bk_image.proofs.Ordered.{ascending_push}
use Rattle.std.proofs.lemmas.Result.{err_from_is_err_and}
use Rattle.bk_image.specs.Parts.{each_of}
use Rattle.bk_image.specs.Views.{rest_of}
use Rattle.bk_image.specs.Objects.{object_at, size}
use Rattle.bk_base.proofs.Loops.{goes_on, stops, is_done}
use Rattle.bk_image.proofs.object.read_objects.Goals as goal

pub returns-in_err-object-clause-exact : goal.returns-in_err-object-clause-exact
returns-in_err-object-clause-exact c =
    let p = err_from_is_err_and c.from_residual.result c.from_residual.ensures.1 in
    rw (p.1, p.2) (stops (object_at c.args.version c.args.levels.now c.args.subjects c.args.lines) c.in_err-object.field-0.0 c.loop.objects.items c.args.count c.loop.counter (rest_of c.loop.rest) (each_of (object_at c.args.version c.args.levels.now c.args.subjects c.args.lines) c.args.count [] (rest_of c.args.rest.now)) c.loop-test.true (rw c.deref.ensures.value at c.in_err-object.ensures.exact) c.loop.invariant.exact)

pub loop-preserved : goal.loop-preserved
loop-preserved c =
    let e : c.push.new.self.items ≡ c.loop.objects.items ++ c.in_ok-object.object ∷ [] = c.in_ok-push.ensures.items in
    record {
      exact = rw e (goes_on (object_at c.args.version c.args.levels.now c.args.subjects c.args.lines) c.loop.objects.items c.args.count c.loop.counter (rest_of c.loop.rest) c.in_ok-object.object (rest_of c.next.new.rest) (each_of (object_at c.args.version c.args.levels.now c.args.subjects c.args.lines) c.args.count [] (rest_of c.args.rest.now)) c.loop-test.true (rw c.deref.ensures.value at c.in_ok-object.ensures.exact) c.loop.invariant.exact);
      place = rw (e, sum_by_push (size c.args.version) c.loop.objects.items c.in_ok-object.object) (omega (arith, c.loop.invariant.place, c.in_ok-object.ensures.place));
      ascending = rw e (ascending_push c.loop.objects.items c.in_ok-object.object c.loop.invariant.ascending (rw c.deref.ensures.value at c.in_ok-object.ensures.follows));
      few = rw (e, length-append c.loop.objects.items (c.in_ok-object.object ∷ [])) (omega (arith, c.loop.invariant.few));
    }

pub returns-clause-exact : goal.returns-clause-exact
returns-clause-exact c = is_done (object_at c.args.version c.args.levels.now c.args.subjects c.args.lines) c.loop.objects.items c.args.count c.loop.counter (rest_of c.loop.rest) (each_of (object_at c.args.version c.args.levels.now c.args.subjects c.args.lines) c.args.count [] (rest_of c.args.rest.now)) c.loop-test.false c.loop.invariant.exact
