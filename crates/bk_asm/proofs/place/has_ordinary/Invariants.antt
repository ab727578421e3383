use Rattle.std.proofs.Common.{◌≡◌, drop}
use Rattle.std.specs.Prelude.{map}
use Rattle.std.specs.List.{list_any}
use Rattle.bk_asm_text.specs.Flat.{plain_label}
use Rattle.bk_asm.specs.Names.{is_ordinary}
use Rattle.bk_asm.proofs.place.has_ordinary.Given as goal

abbrev pub invariant-loop-label : goal.invariant-loop-label
invariant-loop-label l =
    list_any is_ordinary (map plain_label (drop l.label-index l.labels)) ≡ list_any is_ordinary (map plain_label l.labels)
