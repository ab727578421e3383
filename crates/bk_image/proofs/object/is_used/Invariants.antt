use Rattle.std.proofs.Common.{◌≡◌, drop}
use Rattle.std.specs.List.{list_any}
use Rattle.bk_state.specs.Start.{is_line}
use Rattle.bk_image.proofs.object.is_used.Given as goal

abbrev pub invariant-loop-object : goal.invariant-loop-object
invariant-loop-object l = list_any (λ o. is_line l.n o.facts.kind) (drop l.object-index l.before) ≡ list_any (λ o. is_line l.n o.facts.kind) l.before
