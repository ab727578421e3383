use Rattle.std.proofs.Common.{◌≡◌, ◌<◌, ◌-◌}
use Rattle.bk_space.specs.Counts.{counted_on}
use Rattle.bk_state.specs.State.{State}
use Rattle.bk_store.specs.Stands.{StandsFor}
use Rattle.bk_pages.specs.StandsFor.{IsLoaded, kept_in}
use Rattle.bk_kernel.specs.Instructions.{HasGone}
use Rattle.bk_kernel.proofs.running.run_on.Given as goal

abbrev pub invariant-loop-turns : goal.invariant-loop-turns
invariant-loop-turns l = record {
  few : l.turns < l.most;
  runs : l.machine.runs ≡ counted_on l.fn.machine.runs l.turns;
  loaded : IsLoaded l.machine l.store l.subject (kept_in l.machine l.process);
  gone : (v : State) → StandsFor l.store l.fn.machine.core.words v → HasGone l.store l.fn.machine l.machine v l.subject l.process.windows l.turns;
}

abbrev pub decreases-loop-turns : goal.decreases-loop-turns
decreases-loop-turns l = l.most - l.turns
