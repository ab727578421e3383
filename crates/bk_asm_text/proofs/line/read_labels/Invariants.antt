use Rattle.std.proofs.Common.{◌≡◌, [], length}
use Rattle.std.specs.Prelude.{map}
use Rattle.bk_asm_text.specs.Flat.{plain_label}
use Rattle.bk_asm_text.specs.Statements.{label_at}
use Rattle.bk_asm_text.proofs.Loops.{on}
use Rattle.bk_asm_text.proofs.line.read_labels.Given as goal

abbrev pub invariant-each : goal.invariant-each
invariant-each l = on label_at (map plain_label l.labels.items) l.text ≡ on label_at [] l.line

abbrev pub decreases-each : goal.decreases-each
decreases-each l = length l.text
