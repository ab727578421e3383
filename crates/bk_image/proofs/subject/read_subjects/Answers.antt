use Rattle.std.proofs.Common.{◌≡◌, ◌++◌, ◌∷◌, [], arith, length-append}
use Rattle.std.proofs.lemmas.Result.{err_from_is_err_and}
use Rattle.bk_image.specs.Parts.{each_of}
use Rattle.bk_image.specs.Views.{rest_of}
use Rattle.bk_image.specs.Subjects.{subject_at}
use Rattle.bk_base.proofs.Loops.{goes_on, stops, is_done}
use Rattle.bk_image.proofs.subject.read_subjects.Goals as goal

pub returns-in_err-subject-clause-exact : goal.returns-in_err-subject-clause-exact
returns-in_err-subject-clause-exact c =
    let p = err_from_is_err_and c.from_residual.result c.from_residual.ensures.1 in
    rw (p.1, p.2) (stops (subject_at c.args.levels.now) c.in_err-subject.field-0.0 c.loop.subjects.items c.args.count c.loop.counter (rest_of c.loop.rest) (each_of (subject_at c.args.levels.now) c.args.count [] (rest_of c.args.rest.now)) c.loop-test.true (rw c.deref.ensures.value at c.in_err-subject.ensures) c.loop.invariant.exact)

pub loop-preserved : goal.loop-preserved
loop-preserved c =
    let e : c.push.new.self.items ≡ c.loop.subjects.items ++ c.in_ok-subject.subject ∷ [] = c.in_ok-push.ensures.items in
    record {
      exact = rw e (goes_on (subject_at c.args.levels.now) c.loop.subjects.items c.args.count c.loop.counter (rest_of c.loop.rest) c.in_ok-subject.subject (rest_of c.next.new.rest) (each_of (subject_at c.args.levels.now) c.args.count [] (rest_of c.args.rest.now)) c.loop-test.true (rw c.deref.ensures.value at c.in_ok-subject.ensures) c.loop.invariant.exact);
      few = rw (e, length-append c.loop.subjects.items (c.in_ok-subject.subject ∷ [])) (omega (arith, c.loop.invariant.few));
    }

pub returns-clause-exact : goal.returns-clause-exact
returns-clause-exact c = is_done (subject_at c.args.levels.now) c.loop.subjects.items c.args.count c.loop.counter (rest_of c.loop.rest) (each_of (subject_at c.args.levels.now) c.args.count [] (rest_of c.args.rest.now)) c.loop-test.false c.loop.invariant.exact
