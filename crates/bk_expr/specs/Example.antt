-- Values that the examples are worked with.
use Rattle.std.specs.Prelude.{ℕ, ◌==◌, if◌then◌else◌, List, bytes_eq, codes, Option, Some, None, option_map}
use Rattle.bk_expr.specs.declared.worked.Worked.{Worked}
use Rattle.bk_expr.specs.Expression.{expression_at}
use Rattle.bk_expr.specs.Value.{Values, worked}

-- the name A is 5, and the local label 1$ is octal 100; no other has a value
abbrev pub example_values : Values
example_values = record {
  name = λ name. if bytes_eq name (codes "A") then Some 5 else None;
  local = λ n. if n == 1 then Some 0o100 else None;
}

-- what the expression at the front of a text comes to with them, at address octal 1000
abbrev pub comes_to : List ℕ → Option Worked
comes_to text = option_map (λ front. worked example_values 0o1000 front.0) (expression_at text)
