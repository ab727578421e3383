-- A script without the bytes typed above a level.
use Rattle.std.specs.Prelude.{List, filter}
use Rattle.bk_level.specs.Levels.{Level}
use Rattle.bk_state.specs.State.{State}
use Rattle.bk_state.specs.Low.{is_line_under}
use Rattle.bk_system.specs.declared.script.TypedAt.{TypedAt}

-- the typed bytes of lines under the level; all others are left out
abbrev pub keep : Level → State → List TypedAt → List TypedAt
keep level v records = filter (λ r. is_line_under level v r.line) records
