use Rattle.std.proofs.Common.{◌≤◌, List, Option, None, arith}
use Rattle.std.specs.Prelude.{replicate}
use Rattle.bk_path.specs.Paths.{Path}
use Rattle.bk_state.specs.Start.{shown_in, windows_from}
use Rattle.bk_load.proofs.InPlace.{filled_next, filled_all}
use Rattle.bk_load.proofs.beginning.windows_from.Goals as goal

pub loop-number-preserved : goal.loop-number-preserved
loop-number-preserved c =
    filled_next (shown_in c.args.shown.now) (replicate 32 None) c.loop-number.windows c.loop-number.number None c.shown_in.result
    c.loop-number.invariant c.loop-number-test.true c.shown_in.ensures

pub returns : goal.returns
unfolding windows_from
returns c =
    let free : List (Option Path) = replicate 32 None in
    let past : 32 ≤ c.loop-number.number = c.loop-number-test.false in
    filled_all (shown_in c.args.shown.now) free c.loop-number.windows c.loop-number.number 32 c.loop-number.invariant past (omega arith)
