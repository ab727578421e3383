-- What something that happens comes to: the state after it, the items that it gives, and the references that it makes.
use Rattle.std.specs.Prelude.{ℕ, ◌+◌, List, [], ◌++◌}
use Rattle.bk_report.specs.declared.ReportItem.{ReportItem}
use Rattle.bk_state.specs.State.{State}

-- what something comes to: the state after it, what it tells, and the references that it made
pub record Step : Type 0 where
  pub state : State
  pub items : List ReportItem
  pub references : ℕ

-- nothing happens
abbrev pub nothing : State → Step
nothing v = record { state = v; items = []; references = 0 }

-- this, and then that
abbrev pub joined : Step → Step → Step
joined a b = record { state = b.state; items = a.items ++ b.items; references = a.references + b.references }
