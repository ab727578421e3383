use Rattle.bk_frames.proofs.ExampleLemmas.{taken, lower_down, upper_down}
use Rattle.std.proofs.Common.{ap, ◌-◌}
use Rattle.bk_frames.proofs.laws.law_example.Goals as goal

pub returns-clause-taken : goal.returns-clause-taken
returns-clause-taken c = taken

pub returns-clause-free : goal.returns-clause-free
returns-clause-free c = ap (λ n. 8 - n) taken

pub returns-clause-lower_down : goal.returns-clause-lower_down
returns-clause-lower_down c = lower_down

pub returns-clause-upper_down : goal.returns-clause-upper_down
returns-clause-upper_down c = upper_down
