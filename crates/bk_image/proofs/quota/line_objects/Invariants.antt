use Rattle.std.proofs.Common.{◌≡◌, ◌+◌, ◌≤◌, drop}
use Rattle.std.specs.List.{count_by}
use Rattle.bk_object.specs.Kinds.{is_any_line}
use Rattle.bk_image.proofs.quota.line_objects.Given as goal

abbrev pub invariant-loop-object : goal.invariant-loop-object
invariant-loop-object l = record { exact : l.count + count_by (λ o. is_any_line o.facts.kind) (drop l.object-index l.objects) ≡ count_by (λ o. is_any_line o.facts.kind) l.objects; fits : l.count ≤ l.object-index }
