use Rattle.std.proofs.Common.{◌≡◌, map, length}
use Rattle.bk_expr.specs.Tree.{plain}
use Rattle.bk_asm_text.specs.Directives.{next_expression_at}
use Rattle.bk_asm_text.proofs.Loops.{on}
use Rattle.bk_asm_text.proofs.directive.expressions.Given as goal

abbrev pub invariant-each : goal.invariant-each
invariant-each l = on next_expression_at (map plain l.values.items) l.rest ≡ on next_expression_at (map plain l.initial.values.items) l.initial.rest

abbrev pub decreases-each : goal.decreases-each
decreases-each l = length l.rest
