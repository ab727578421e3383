use Rattle.std.proofs.Common.{◌≡◌, ◌||◌, drop}
use Rattle.std.specs.Prelude.{map}
use Rattle.bk_asm_text.specs.Flat.{plain_label}
use Rattle.bk_asm.specs.Names.{repeats, with_labels}
use Rattle.bk_asm.specs.Seen.{seen}
use Rattle.bk_asm.proofs.table.Table.set_labels.Given as goal

abbrev pub invariant-loop-label : goal.invariant-loop-label
invariant-loop-label l = record {
  same : with_labels l.range l.value (seen l.self) (map plain_label (drop l.label-index l.labels))
      ≡ with_labels l.range l.value (seen l.fn.self) (map plain_label l.labels);
  again : (l.again || repeats l.range l.value (seen l.self) (map plain_label (drop l.label-index l.labels)))
      ≡ repeats l.range l.value (seen l.fn.self) (map plain_label l.labels);
}
