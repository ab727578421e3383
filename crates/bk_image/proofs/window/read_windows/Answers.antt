use Rattle.std.proofs.Common.{◌≡◌, ◌++◌, ◌∷◌, []}
use Rattle.std.proofs.lemmas.Result.{err_from_is_err_and}
use Rattle.bk_image.specs.Parts.{each_of}
use Rattle.bk_image.specs.Views.{rest_of}
use Rattle.bk_image.specs.Subjects.{window_at}
use Rattle.bk_base.proofs.Loops.{goes_on, stops, is_done}
use Rattle.bk_image.proofs.window.read_windows.Goals as goal

pub returns-in_err-window : goal.returns-in_err-window
returns-in_err-window c =
    let p = err_from_is_err_and c.from_residual.result c.from_residual.ensures.1 in
    rw (p.1, p.2) (stops window_at c.in_err-window.field-0.0 c.loop.windows.items c.args.count c.loop.counter (rest_of c.loop.rest) (each_of window_at c.args.count [] (rest_of c.args.rest.now)) c.loop-test.true (rw c.deref.ensures.value at c.in_err-window.ensures) c.loop.invariant)

pub loop-preserved : goal.loop-preserved
loop-preserved c =
    let e : c.push.new.self.items ≡ c.loop.windows.items ++ c.in_ok-window.window ∷ [] = c.in_ok-push.ensures.items in
    rw e (goes_on window_at c.loop.windows.items c.args.count c.loop.counter (rest_of c.loop.rest) c.in_ok-window.window (rest_of c.next.new.rest) (each_of window_at c.args.count [] (rest_of c.args.rest.now)) c.loop-test.true (rw c.deref.ensures.value at c.in_ok-window.ensures) c.loop.invariant)

pub returns : goal.returns
returns c = is_done window_at c.loop.windows.items c.args.count c.loop.counter (rest_of c.loop.rest) (each_of window_at c.args.count [] (rest_of c.args.rest.now)) c.loop-test.false c.loop.invariant
