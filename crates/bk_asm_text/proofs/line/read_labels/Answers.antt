use Rattle.std.proofs.Common.{rules, ◌≡◌, ◌∷◌, ◌++◌, [], List, Some, map, ap, ◌∙◌}
use Rattle.std.proofs.lemmas.List.{map-append}
use Rattle.bk_asm_text.specs.Flat.{plain_label}
use Rattle.bk_asm_text.specs.Plain.{PlainLabel}
use Rattle.bk_asm_text.specs.Statements.{label_at}
use Rattle.bk_asm_text.proofs.Loops.{on, next_label}
use Rattle.bk_asm_text.proofs.line.read_labels.Goals as goal

pub each-preserved : goal.each-preserved
each-preserved c =
    let label = plain_label c.in-Some.label in
    let before = map plain_label c.each.labels.items in
    let found : label_at c.each.text.now ≡ Some (label, c.in-Some.after.now) = search rules in
    let labels : map plain_label c.push.new.self.items ≡ before ++ label ∷ [] =
    ap (map plain_label) c.in-Ok.ensures.items ∙ map-append plain_label c.each.labels.items (c.in-Some.label ∷ []) in
    ap (λ (labels : List PlainLabel). on label_at labels c.in-Some.after.now) labels
    ∙ next_label before c.each.text.now label c.in-Some.after.now found
    ∙ c.each.invariant
